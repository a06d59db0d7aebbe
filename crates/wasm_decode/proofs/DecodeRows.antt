-- What follows from what decoding the bytes answers.
use Rattle.std.proofs.Common.{◌≡◌, ◌⊎◌, inl, inr, ℕ, ◌<◌, List, Bool, true, false, if◌then◌else◌, length, Option, Some, None, Result, Ok, Err, refl, sym, ap, subst, ◌∙◌, arith}
use Rattle.std.specs.Prelude.{IfOk}
use Rattle.wasm_ast.specs.declared.module.Module.{Module}
use Rattle.wasm_ast.specs.SpelledModule.{SpellsModule}
use Rattle.wasm_decode.specs.declared.fault.{Bound.Bound, DecodeFault.DecodeFault}
use Rattle.wasm_decode.specs.declared.fault.Bound.TheVariants.{Length}
use Rattle.wasm_decode.specs.declared.fault.DecodeFault.TheVariants.{Malformed, Float, Limit, Memory}
use Rattle.wasm_decode.specs.Floats.{module_has_float}
use Rattle.wasm_decode.specs.Bounds.{most_bytes, first_passed}
use Rattle.wasm_decode.specs.Decodes.{AreWithin, SpellsModest, SpellsNone, Decodes, IsUnlessMemory}
use Rattle.wasm_decode.specs.Judged.{unless_passed, judged}

abbrev Answer : Type 0
Answer = Result Module DecodeFault

-- the limits of a module don't include that of its bytes
never_length : (m : Module) → first_passed m ≡ Some Length → ⊥
never_length m e = grind arith

judged_rows : (bytes : List ℕ) (m : Module) (b : Bool) (p : Option Bound) → module_has_float m ≡ b → first_passed m ≡ p → AreWithin bytes → SpellsModule bytes m → Decodes bytes (if b then Err Float else unless_passed m p)
judged_rows bytes m true p f q w s = (w, (m, s, f))
judged_rows bytes m false None f q w s = (w, s, f, q)
judged_rows bytes m false (Some Length) f q w s = absurd (never_length m q)
judged_rows bytes m false (Some bound) f q w s = (w, (m, s, f, q))

-- the answer for a module that was read is in its row
pub of_judged : (bytes : List ℕ) (m : Module) (r : Answer) → AreWithin bytes → SpellsModule bytes m → IsUnlessMemory r (judged m) → Decodes bytes r
of_judged bytes m r w s (inl e) = subst (λ (x : Answer). Decodes bytes x) (sym e) (judged_rows bytes m (module_has_float m) (first_passed m) refl refl w s)
of_judged bytes m r w s (inr e) = subst (λ (x : Answer). Decodes bytes x) (sym e) w

abbrev Reads : List ℕ → Answer → Type 0
Reads bytes r = (r ≡ Err Memory) ⊎ (((r ≡ Err Malformed) × SpellsNone bytes) ⊎ ((m : Module) × SpellsModule bytes m × (r ≡ judged m)))

-- which row it is: too many bytes, want of memory, no module, or a module
abbrev Row : List ℕ → Answer → Type 0
Row bytes r = ((most_bytes < length bytes) × (r ≡ Err (Limit Length))) ⊎ (AreWithin bytes × Reads bytes r)

judged_is : (m : Module) (b : Bool) (p : Option Bound) → module_has_float m ≡ b → first_passed m ≡ p → (if b then Err Float else unless_passed m p) ≡ judged m
judged_is m b p f q = ap (λ (x : Bool). if x then Err Float else unless_passed m p) (sym f) ∙ ap (λ (y : Option Bound). if module_has_float m then Err Float else unless_passed m y) (sym q)

row : (bytes : List ℕ) (r : Answer) → Decodes bytes r → Row bytes r
row bytes (Ok m) d = inr (d.0, inr (inr (m, d.1, judged_is m false None d.2 d.3)))
row bytes (Err Malformed) d = inr (d.0, inr (inl (refl, d)))
row bytes (Err Float) d = inr (d.0, inr (inr (d.1.0, d.1.1, judged_is d.1.0 true (first_passed d.1.0) d.1.2 refl)))
row bytes (Err (Limit Length)) d = inl (d, refl)
row bytes (Err (Limit bound)) d = inr (d.0, inr (inr (d.1.0, d.1.1, judged_is d.1.0 false (Some bound) d.1.2 d.1.3)))
row bytes (Err Memory) d = inr (d, inl refl)

module _ (bytes : List ℕ) (one : (m n : Module) → SpellsModule bytes m → SpellsModule bytes n → m ≡ n) where
  reads_agree : (r a : Answer) → (a ≡ Err Memory → ⊥) → Reads bytes r → Reads bytes a → IsUnlessMemory r a
  reads_agree r a not (inl p) q = inr p
  reads_agree r a not (inr p) (inl q) = absurd (not q)
  reads_agree r a not (inr (inl p)) (inr (inl q)) = inl (p.0 ∙ sym q.0)
  reads_agree r a not (inr (inl p)) (inr (inr q)) = absurd (p.1.1 q.0 q.1)
  reads_agree r a not (inr (inr p)) (inr (inl q)) = absurd (q.1.1 p.0 p.1)
  reads_agree r a not (inr (inr p)) (inr (inr q)) = inl (p.2 ∙ ap judged (one p.0 q.0 p.1 q.1) ∙ sym q.2)

  rows_agree : (r a : Answer) → (a ≡ Err Memory → ⊥) → Row bytes r → Row bytes a → IsUnlessMemory r a
  rows_agree r a not (inl p) (inl q) = inl (p.1 ∙ sym q.1)
  rows_agree r a not (inl p) (inr q) = absurd (omega (arith, p.0, q.0))
  rows_agree r a not (inr p) (inl q) = absurd (omega (arith, p.0, q.0))
  rows_agree r a not (inr p) (inr q) = reads_agree r a not p.1 q.1

  -- an answer that is right comes, unless there is want of memory
  pub agree : (r a : Answer) → (a ≡ Err Memory → ⊥) → Decodes bytes r → Decodes bytes a → IsUnlessMemory r a
  agree r a not d e = rows_agree r a not (row bytes r d) (row bytes a e)

pub module_row : (bytes : List ℕ) (r : Answer) → Decodes bytes r → IfOk r (SpellsModest bytes)
module_row bytes (Ok m) d = d
module_row bytes (Err e) d = tt

long : (bytes : List ℕ) (r : Answer) → most_bytes < length bytes → Row bytes r → r ≡ Err (Limit Length)
long bytes r h (inl p) = p.1
long bytes r h (inr p) = absurd (omega (arith, h, p.0))

-- too many bytes take no memory
pub too_long : (bytes : List ℕ) (r : Answer) → Decodes bytes r → most_bytes < length bytes → r ≡ Err (Limit Length)
too_long bytes r d h = long bytes r h (row bytes r d)
