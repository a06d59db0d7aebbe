use Rattle.std.proofs.Common.{◌≡◌, ℕ, ◌≤◌, true, List, length, drop, is_some}
use Rattle.std.specs.List.{list_any}
use Rattle.std.specs.Str.{bytes_eq}
use Rattle.std.specs.BTreeMap as tree
use Rattle.std.specs.Cmp.Lexicographic.{slice_cmp}
use Rattle.std.specs.Ordering.{nat_cmp}
use Rattle.wasm_validate.specs.Prelude.{Export, are_different}
use Rattle.wasm_validate.proofs.rules.are_different.Given as goal

abbrev pub invariant-loop-left : goal.invariant-loop-left
invariant-loop-left l = record {
  within : l.left ≤ length l.exports;
  seen : (q : List ℕ) → is_some (tree.get_by (λ k. slice_cmp nat_cmp q k.now) l.names) ≡ list_any (λ (d : Export). bytes_eq d.name q) (drop l.left l.exports);
  different : are_different (drop l.left l.exports) ≡ true;
}

abbrev pub decreases-loop-left : goal.decreases-loop-left
decreases-loop-left l = l.left
