-- Accesses by their alignment, and operands by their places.
use Rattle.std.proofs.Common.{◌≡◌, ℕ, ◌%◌, List, [], ◌∷◌, drop, refl, arith, Err, Some, false, true}
use Rattle.std.specs.Prelude.{slice_get, nat_eq}
use Rattle.std.proofs.lemmas.Bool.Decides.{nat_tests}
use Rattle.int_ops.specs.declared.trap.Cause.TheVariants.{Misaligned}
use Rattle.linear_memory.specs.LinearMemory.{LinearMemory, grown}
use Rattle.linear_memory.specs.Accesses.{accessed, accessed_atomically}
use Rattle.wasm_ast.specs.Sequence.{Sequence}
use Rattle.guest_state.specs.GuestThread.{GuestThread}
use Rattle.wasm_steps.specs.Memory.{step_grow}
use Rattle.wasm_steps.specs.Stepped.{leaves}

pub misaligned : {X : Type 0} (memory : LinearMemory) (at width : ℕ) (x : X) → (at % width ≡ 0 → ⊥) → accessed_atomically memory at width x ≡ Err Misaligned
misaligned memory at width x other =
    let no : nat_eq (at % width) 0 ≡ false = grind (arith, nat_tests) in
    rw no refl

pub aligned : {X : Type 0} (memory : LinearMemory) (at width : ℕ) (x : X) → at % width ≡ 0 → accessed_atomically memory at width x ≡ accessed memory at width x
aligned memory at width x e =
    let yes : nat_eq (at % width) 0 ≡ true = grind (arith, nat_tests) in
    rw yes refl

pub last_one : (os : List ℕ) (a : ℕ) → slice_get os 0 ≡ Some a → os ≡ a ∷ drop 1 os
last_one [] a g = absurd (cc)
last_one (x ∷ os) a g = let same : x ≡ a = cc in rw same refl

pub last_two : (os : List ℕ) (a b : ℕ) → slice_get os 0 ≡ Some b → slice_get os 1 ≡ Some a → os ≡ b ∷ a ∷ drop 2 os
last_two [] a b g h = absurd (cc)
last_two (x ∷ []) a b g h = absurd (cc)
last_two (x ∷ y ∷ os) a b g h = let one : x ≡ b = cc in let two : y ≡ a = cc in rw (one, two) refl

pub last_three : (os : List ℕ) (a b c : ℕ) → slice_get os 0 ≡ Some c → slice_get os 1 ≡ Some b → slice_get os 2 ≡ Some a → os ≡ c ∷ b ∷ a ∷ drop 3 os
last_three [] a b c g h i = absurd (cc)
last_three (x ∷ []) a b c g h i = absurd (cc)
last_three (x ∷ y ∷ []) a b c g h i = absurd (cc)
last_three (x ∷ y ∷ z ∷ os) a b c g h i = let one : x ≡ c = cc in let two : y ≡ b = cc in let three : z ≡ a = cc in rw (one, two, three) refl

pub grow_row : (memory new_memory : LinearMemory) (t : GuestThread) (rest : Sequence) (os : List ℕ) (pages old : ℕ) → slice_get os 0 ≡ Some pages → grown memory pages ≡ (old, new_memory)
    → step_grow memory t rest os ≡ leaves new_memory t rest (old ∷ drop 1 os)
grow_row memory new_memory t rest [] pages old g e = absurd (cc)
grow_row memory new_memory t rest (x ∷ os) pages old g e = let same : x ≡ pages = cc in rw (same, e) refl
