-- Reading instructions takes just what is spelled so.
use Rattle.std.proofs.Common.{◌≡◌, ℕ, List, [], ◌∷◌, ◌++◌, Some, refl, sym, ◌∙◌, ap}
use Rattle.std.proofs.lemmas.Option.{same_Some}
use Rattle.byte_cursor.specs.Integers.{BeginsWith}
use Rattle.wasm_ast.specs.declared.instr.Instr.{Instr}
use Rattle.wasm_ast.specs.declared.opcode.{Opcode.Opcode, AtomicOpcode.AtomicOpcode}
use Rattle.wasm_ast.specs.declared.opcode.Opcode.TheVariants as op
use Rattle.wasm_ast.specs.declared.opcode.AtomicOpcode.TheVariants as atomic
use Rattle.wasm_ast.specs.Spelling.{Behind}
use Rattle.wasm_ast.specs.Immediates.{Immediates, Nothing, Index, Labels, IndexAndZero, Argument, Zero, Signed32, Signed64, Raw, Never, Spells}
use Rattle.wasm_ast.specs.OpcodeTables.{atomic_at, Plan, plan_of, atomic_plan_of, SpellsPlan, SpellsAtomic, SpellsBehind}
use Rattle.wasm_reading.specs.ReadValues.{IsExact}
use Rattle.wasm_reading.specs.ReadInstr.{nothing_at, zero_at, value_at, plan_at, atomic_immediates_at, atomic_instr_at, immediates_at}
use Rattle.wasm_reading.proofs.ValueLaws.{mapped_exact, pair_exact, behind_exact, u32_exact, i32_exact, i64_exact, vec_exact, floats_exact, exact_as}

nothing_exact : {X : Type 0} (x : X) → IsExact (λ bytes y. (bytes ≡ []) × (y ≡ x)) (nothing_at x)
nothing_exact {X} x = record {
  takes = λ bytes y rest h. ([], (refl, ap (λ z. z.0) (sym (same_Some _ _ h))), ap (λ z. z.1) (same_Some _ _ h));
  again = λ front rest y h. ap (λ b. Some (x, b ++ rest)) h.0 ∙ ap (λ z. Some (z, rest)) (sym h.1);
}

to_zero : {X : Type 0} (x : X) (bytes : List ℕ) (y : X) → Behind 0x00 (λ a. (a ≡ []) × (y ≡ x)) bytes → (bytes ≡ 0x00 ∷ []) × (y ≡ x)
to_zero x [] y h = absurd h
to_zero x (b ∷ bytes) y h = (ap (λ c. c ∷ bytes) h.0 ∙ ap (λ a. 0x00 ∷ a) h.1.0, h.1.1)

from_zero : {X : Type 0} (x : X) (bytes : List ℕ) (y : X) → (bytes ≡ 0x00 ∷ []) × (y ≡ x) → Behind 0x00 (λ a. (a ≡ []) × (y ≡ x)) bytes
from_zero x [] y h = cc
from_zero x (b ∷ bytes) y h = (cc h.0, (cc h.0, h.1))

zero_exact : {X : Type 0} (x : X) → IsExact (λ bytes y. (bytes ≡ 0x00 ∷ []) × (y ≡ x)) (zero_at x)
zero_exact x = exact_as _ (to_zero x) (from_zero x) (behind_exact 0x00 (nothing_exact x))

value_exact : (of : Immediates) → IsExact (Spells of) (value_at of)
value_exact Nothing = exact_as _ (λ bytes v s. s.0) (λ bytes v s. (s, refl)) (nothing_exact tt)
value_exact Index = u32_exact
value_exact Labels = pair_exact (vec_exact u32_exact) u32_exact
value_exact IndexAndZero = mapped_exact (Spells IndexAndZero) (λ p. p.0) (pair_exact u32_exact (zero_exact 0))
    (λ bytes p j. record { front = j.front; back = j.back; parts = j.parts; first = j.first; second = j.second.0 })
    (λ bytes x j. ((x, 0), record { front = j.front; back = j.back; parts = j.parts; first = j.first; second = (j.second, refl) }, refl))
value_exact Argument = mapped_exact (Spells Argument) (λ a. record { align = a.0; offset = a.1 }) (pair_exact u32_exact u32_exact) (λ bytes p s. s) (λ bytes a s. ((a.align, a.offset), s, refl))
value_exact Zero = exact_as _ (λ bytes v s. s.0) (λ bytes v s. (s, refl)) (zero_exact tt)
value_exact Signed32 = i32_exact
value_exact Signed64 = i64_exact
value_exact (Raw size) = floats_exact size
value_exact Never = record { takes = λ bytes v rest h. cc; again = λ front rest v h. absurd h }

plan_exact : (p : Plan) → IsExact (SpellsPlan p) (plan_at p)
plan_exact p = mapped_exact (SpellsPlan p) p.made (value_exact p.immediates) (λ bytes v s. (v, s, refl)) (λ bytes i t. (t.0, t.1, sym t.2))

atomic_immediates_exact : (o : AtomicOpcode) → IsExact (SpellsPlan (atomic_plan_of o)) (atomic_immediates_at o)
atomic_immediates_exact atomic.Illegal = record { takes = λ bytes i rest h. cc; again = λ front rest i h. absurd h.1 }
atomic_immediates_exact o = plan_exact (atomic_plan_of o)

atomic_exact : IsExact SpellsAtomic atomic_instr_at
atomic_exact = record { takes = takes; again = again } where
  takes : (bytes : List ℕ) (i : Instr) (rest : List ℕ) → atomic_instr_at bytes ≡ Some (i, rest) → BeginsWith SpellsAtomic bytes i rest
  takes [] i rest h = cc
  takes (b ∷ bytes) i rest h = let t = (atomic_immediates_exact (atomic_at b)).takes bytes i rest h in (b ∷ t.0, t.1, ap (λ m. b ∷ m) t.2)

  again : (front rest : List ℕ) (i : Instr) → SpellsAtomic front i → atomic_instr_at (front ++ rest) ≡ Some (i, rest)
  again [] rest i h = absurd h
  again (b ∷ front) rest i h = (atomic_immediates_exact (atomic_at b)).again front rest i h

pub immediates_exact : (o : Opcode) → IsExact (SpellsBehind o) (immediates_at o)
immediates_exact op.Atomic = atomic_exact
immediates_exact o = plan_exact (plan_of o)
