-- Loading has one answer beside want of memory.
use Rattle.std.proofs.Common.{◌≡◌, inl, inr, ⊎_elim, ℕ, List, Result, Ok, Err, refl, sym, ap, ◌∙◌}
use Rattle.wasm_ast.specs.declared.module.Module.{Module}
use Rattle.wasm_ast.specs.SpelledModule.{SpellsModule}
use Rattle.wasm_decode.specs.declared.fault.DecodeFault.{DecodeFault}
use Rattle.wasm_decode.specs.declared.fault.DecodeFault.TheVariants as decoding
use Rattle.wasm_decode.specs.Decodes.{Decodes}
use Rattle.wasm_decode.proofs.DecodeRows.{agree}
use Rattle.instance.specs.declared.fault.LoadFault.{LoadFault}
use Rattle.instance.specs.declared.fault.LoadFault.TheVariants.{Malformed, Float, Limit, Invalid, Unlinked, SegmentOutside, NotYet, Memory}
use Rattle.instance.specs.Program.{Program}
use Rattle.instance.specs.Links.{linked}
use Rattle.instance.specs.Loads.{IsUnlessMemory, Links, Loads}

abbrev pub Answer : Type 0
Answer = Result Program LoadFault

abbrev Decoded : Type 0
Decoded = Result Module DecodeFault

abbrev answer_of : Decoded → Answer
answer_of (Ok m) = linked m
answer_of (Err decoding.Malformed) = Err Malformed
answer_of (Err decoding.Float) = Err Float
answer_of (Err (decoding.Limit bound)) = Err (Limit bound)
answer_of (Err decoding.Memory) = Err Memory

-- the answer is that for what decoding answers
abbrev From : List ℕ → Answer → Type 0
From bytes r = (d : Decoded) × Decodes bytes d × (r ≡ answer_of d)

linked_from : (bytes : List ℕ) (r : Answer) → Links bytes r → From bytes r
linked_from bytes r l = (Ok l.0, l.1, sym l.2)

from : (bytes : List ℕ) (r : Answer) → Loads bytes r → From bytes r
from bytes (Ok p) l = linked_from bytes (Ok p) l
from bytes (Err Malformed) l = (Err decoding.Malformed, l, refl)
from bytes (Err Float) l = (Err decoding.Float, l, refl)
from bytes (Err (Limit bound)) l = (Err (decoding.Limit bound), l, refl)
from bytes (Err Invalid) l = linked_from bytes (Err Invalid) l
from bytes (Err Unlinked) l = linked_from bytes (Err Unlinked) l
from bytes (Err SegmentOutside) l = linked_from bytes (Err SegmentOutside) l
from bytes (Err NotYet) l = linked_from bytes (Err NotYet) l
from bytes (Err Memory) l = (Err decoding.Memory, l, refl)

module _ (bytes : List ℕ) (one : (m n : Module) → SpellsModule bytes m → SpellsModule bytes n → m ≡ n) where
  pub one_answer : (r a : Answer) → Loads bytes r → Loads bytes a → (a ≡ Err Memory → ⊥) → IsUnlessMemory r a
  one_answer r a l k n =
      let f = from bytes r l in
      let g = from bytes a k in
      let other : g.0 ≡ Err decoding.Memory → ⊥ = λ e. n (g.2 ∙ ap answer_of e) in
      ⊎_elim (λ e. inl (f.2 ∙ ap answer_of e ∙ sym g.2)) (λ e. inr (f.2 ∙ ap answer_of e)) (agree bytes one f.0 g.0 other f.1 g.1)
