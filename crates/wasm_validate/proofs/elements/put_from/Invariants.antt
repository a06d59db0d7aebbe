use Rattle.std.proofs.Common.{◌≡◌, ℕ, ◌<◌, take, length, get_or, None}
use Rattle.wasm_validate.specs.Prelude.{or_else, from_place}
use Rattle.wasm_validate.proofs.elements.put_from.Given as goal

abbrev pub invariant-loop-i : goal.invariant-loop-i
invariant-loop-i l = record {
  size : length l.places ≡ length l.fn.places;
  at : (i : ℕ) → i < length l.fn.places → get_or l.places i None ≡ or_else (from_place l.first (take l.i l.functions) i) (get_or l.fn.places i None);
}
