-- The reading of an expression step by step.
use Rattle.std.proofs.Common.{◌≡◌, ℕ, zero, suc, ◌≤◌, ◌<◌, List, [], ◌∷◌, length, Option, Some, None, refl, sym, ◌∙◌, ap, subst, arith, length-append}
use Rattle.std.proofs.lemmas.Option.{same_Some}
use Rattle.wasm_ast.specs.declared.instr.Instr.{Instr}
use Rattle.wasm_ast.specs.declared.opcode.{Opcode.Opcode, AtomicOpcode.AtomicOpcode}
use Rattle.wasm_ast.specs.declared.opcode.Opcode.TheVariants as op
use Rattle.wasm_ast.specs.declared.opcode.AtomicOpcode.TheVariants as atomic
use Rattle.wasm_ast.specs.Sequence.{Sequence}
use Rattle.wasm_ast.specs.Built.{Built, NamesNone, takes_else, with_else}
use Rattle.wasm_ast.specs.OpcodeTables.{opcode_at, atomic_at, atomic_plan_of, SpellsPlan, SpellsBehind}
use Rattle.wasm_reading.specs.declared.exprs.Shape.{Shape}
use Rattle.wasm_reading.specs.declared.exprs.Shape.TheVariants as shape
use Rattle.wasm_reading.specs.ReadValues.{and_then, mapped, IsExact}
use Rattle.wasm_reading.specs.ReadInstr.{immediates_at}
use Rattle.wasm_reading.specs.ReadExpr.{Step, Continue, Complete, shape_of, behind_shape, step_at, goes_on, steps_at, rest_at}
use Rattle.wasm_reading.proofs.ValueLaws.{read_first, chose_some}
use Rattle.wasm_reading.proofs.InstrLaws.{immediates_exact}
use Rattle.wasm_reading.proofs.TypeLaws.{blocktype_exact}

as_plain : (i j : Instr) → i ≡ j → NamesNone j → NamesNone i
as_plain i j e h = subst (λ x. NamesNone x) (sym e) h

atomic_plain : (o : AtomicOpcode) (bytes : List ℕ) (i : Instr) → SpellsPlan (atomic_plan_of o) bytes i → NamesNone i
atomic_plain atomic.Illegal bytes i h = absurd h.1
atomic_plain o bytes i h = as_plain i _ h.2 tt

behind_plain : (o : Opcode) (bytes : List ℕ) (i : Instr) → SpellsBehind o bytes i → NamesNone i
behind_plain op.Atomic [] i h = absurd h
behind_plain op.Atomic (b ∷ bytes) i h = atomic_plain (atomic_at b) bytes i h
behind_plain o bytes i h = as_plain i _ h.2 tt

-- what is read behind an opcode names no list
pub plain_read : (o : Opcode) (bytes : List ℕ) (i : Instr) (rest : List ℕ) → immediates_at o bytes ≡ Some (i, rest) → NamesNone i
plain_read o bytes i rest h = let t = (immediates_exact o).takes bytes i rest h in behind_plain o t.0 i t.1

-- what is read leaves no more bytes
shorter : {X : Type 0} {S : List ℕ → X → Type 0} {r : List ℕ → Option (X × List ℕ)} → IsExact S r → (bytes : List ℕ) (x : X) (rest : List ℕ) → r bytes ≡ Some (x, rest) → length rest ≤ length bytes
shorter exact bytes x rest h = let t = exact.takes bytes x rest h in omega (arith, ap length t.2, length-append t.0 rest)

mapped_shorter : {X Y : Type 0} {S : List ℕ → X → Type 0} {r : List ℕ → Option (X × List ℕ)} → IsExact S r → (f : X → Y) (bytes : List ℕ) (y : Y) (rest : List ℕ) → mapped f r bytes ≡ Some (y, rest) → length rest ≤ length bytes
mapped_shorter {r = r} exact f bytes y rest h =
    let u = read_first (r bytes) (λ x more. Some (f x, more)) (y, rest) h in
    omega (arith, shorter exact bytes u.0 u.1 u.2, ap length (ap (λ z. z.1) (same_Some _ _ u.3)))

-- a step takes a byte at least
shape_shorter : (of : Shape) (o : Opcode) (v : Built) (bytes : List ℕ) (p : Step) (rest : List ℕ) → behind_shape of o v bytes ≡ Some (p, rest) → length rest ≤ length bytes
shape_shorter shape.End o v bytes p rest h = omega (arith, ap length (ap (λ z. z.1) (same_Some _ _ h)))
shape_shorter shape.Else o v bytes p rest h = omega (arith, ap length (ap (λ z. z.1) (same_Some _ _ (chose_some (takes_else v.opens) (Some (Continue (with_else v), bytes)) (p, rest) h).1)))
shape_shorter (shape.Begin c) o v bytes p rest h = mapped_shorter blocktype_exact _ bytes p rest h
shape_shorter shape.Plain o v bytes p rest h = mapped_shorter (immediates_exact o) _ bytes p rest h

pub step_shorter : (v : Built) (bytes : List ℕ) (p : Step) (rest : List ℕ) → step_at v bytes ≡ Some (p, rest) → length rest < length bytes
step_shorter v [] p rest h = cc
step_shorter v (b ∷ bytes) p rest h = omega (arith, shape_shorter (shape_of (opcode_at b)) (opcode_at b) v bytes p rest h)

-- behind a step only what is read of fewer bytes matters
same_behind : (f g : Built → List ℕ → Option (Sequence × List ℕ)) (v : Built) (bytes : List ℕ) → ((w : Built) (rest : List ℕ) → length rest < length bytes → f w rest ≡ g w rest) →
    and_then (step_at v bytes) (goes_on f) ≡ and_then (step_at v bytes) (goes_on g)
same_behind f g v bytes h = same (step_at v bytes) refl where
  goes_same : (p : Step) (rest : List ℕ) → length rest < length bytes → goes_on f p rest ≡ goes_on g p rest
  goes_same (Continue w) rest l = h w rest l
  goes_same (Complete s) rest l = refl

  same : (o : Option (Step × List ℕ)) → step_at v bytes ≡ o → and_then o (goes_on f) ≡ and_then o (goes_on g)
  same None e = refl
  same (Some p) e = goes_same p.0 p.1 (step_shorter v bytes p.0 p.1 e)

-- as many steps as there are bytes suffice
enough : (n m : ℕ) (v : Built) (bytes : List ℕ) → length bytes ≤ n → length bytes ≤ m → steps_at n v bytes ≡ steps_at m v bytes
unfolding steps_at
enough zero zero v bytes h k = refl
enough zero (suc m) v [] h k = refl
enough zero (suc m) v (b ∷ bytes) h k = absurd (omega arith)
enough (suc n) zero v [] h k = refl
enough (suc n) zero v (b ∷ bytes) h k = absurd (omega arith)
enough (suc n) (suc m) v bytes h k = same_behind (steps_at n) (steps_at m) v bytes (λ w rest l. enough n m w rest (omega arith) (omega arith))

-- the rest of an expression is a step and the rest behind it
pub rest_step : (v : Built) (bytes : List ℕ) → rest_at v bytes ≡ and_then (step_at v bytes) (goes_on rest_at)
unfolding steps_at
rest_step v bytes =
    enough (length bytes) (suc (length bytes)) v bytes (omega arith) (omega arith)
    ∙ same_behind (steps_at (length bytes)) rest_at v bytes (λ w rest l. enough (length bytes) (length rest) w rest (omega arith) (omega arith))

pub step_to : (v : Built) (bytes : List ℕ) (p : Step) (rest : List ℕ) → step_at v bytes ≡ Some (p, rest) → rest_at v bytes ≡ goes_on rest_at p rest
step_to v bytes p rest e = rest_step v bytes ∙ ap (λ x. and_then x (goes_on rest_at)) e

pub step_none : (v : Built) (bytes : List ℕ) → step_at v bytes ≡ None → rest_at v bytes ≡ None
step_none v bytes e = rest_step v bytes ∙ ap (λ x. and_then x (goes_on rest_at)) e
