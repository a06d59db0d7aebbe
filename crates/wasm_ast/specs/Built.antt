-- A body that is built one instruction after another, as contracts see it.
use Rattle.std.proofs.Common.{◌≡◌, Bool, true, false, List, [], ◌∷◌, Option, Some, None, refl}
use Rattle.std.specs.Coded.{Coded, code_by, coded×, coded_list, coded_option}
use Rattle.wasm_ast.specs.declared.types.ValType.{ValType}
use Rattle.wasm_ast.specs.declared.instr.{Instr.Instr, Construct.Construct}
use Rattle.wasm_ast.specs.declared.instr.Instr.TheVariants as instr
use Rattle.wasm_ast.specs.declared.instr.Construct.TheVariants as construct
use Rattle.wasm_ast.specs.contracts.types.ValType as valtype
use Rattle.wasm_ast.specs.contracts.instr.Construct as constructs
use Rattle.wasm_ast.specs.Sequence.{Sequence, Empty, Plain, Block, If, sequence_code}

-- What is open round the instructions that come next: a block, a loop or the first arm of an if, by
-- its type and what stands in front of it; or the second arm of an if, with the first.
pub data Open : Type 0 where
  Inside : (of : Construct) (leaves : Option ValType) (before : Sequence) → Open
  Else : (leaves : Option ValType) (then before : Sequence) → Open

-- how the logic stores them
abbrev pub open_parts : Open → (Option Construct × Option ValType) × (Sequence × Sequence)
open_parts (Inside c of before) = ((Some c, of), (before, Empty))
open_parts (Else of then before) = ((None, of), (before, then))

abbrev pub open_by : Option Construct → Option ValType → Sequence → Sequence → Open
open_by None of before then = Else of then before
open_by (Some c) of before then = Inside c of before

pub open_back : (o : Open) → open_by (open_parts o).0.0 (open_parts o).0.1 (open_parts o).1.0 (open_parts o).1.1 ≡ o
open_back (Inside c of before) = refl
open_back (Else of then before) = refl

abbrev pub open_code : Coded Open
open_code =
    code_by ((Option Construct × Option ValType) × (Sequence × Sequence))
    (coded× (coded× (coded_option constructs.the_row.coded) (coded_option valtype.the_row.coded)) (coded× sequence_code sequence_code))
    open_parts (λ p. open_by p.0.0 p.0.1 p.1.0 p.1.1) open_back

-- the constructs that are open, the innermost first, and what was added to the innermost sequence
pub record Built : Type 0 where
  pub opens : List Open
  pub before : Sequence

abbrev pub built_code : Coded Built
built_code = code_by (List Open × Sequence) (coded× (coded_list open_code) sequence_code) (λ v. (v.opens, v.before)) (λ p. record { opens = p.0; before = p.1 }) (λ _. refl)

-- a sequence behind another
abbrev pub append : Sequence → Sequence → Sequence
append Empty s = s
append (Plain i rest) s = Plain i (append rest s)
append (Block k of body rest) s = Block k of body (append rest s)
append (If of then otherwise rest) s = If of then otherwise (append rest s)

-- an instruction that names no list
abbrev pub NamesNone : Instr → Type 0
NamesNone (instr.Block of m) = ⊥
NamesNone (instr.Loop of m) = ⊥
NamesNone (instr.If of m n) = ⊥
NamesNone i = Unit {0}

-- nothing
abbrev pub nothing_built : Built
nothing_built = record { opens = []; before = Empty }

-- behind an instruction without inner instructions
abbrev pub with_plain : Instr → Built → Built
with_plain i v = record { opens = v.opens; before = append v.before (Plain i Empty) }

-- at the start of a block, a loop or an if
abbrev pub with_open : Construct → Option ValType → Built → Built
with_open c of v = record { opens = Inside c of v.before ∷ v.opens; before = Empty }

-- the innermost construct is the first arm of an if
abbrev pub takes_else : List Open → Bool
takes_else (Inside construct.If of before ∷ os) = true
takes_else os = false

-- the second arm of the innermost construct is open, behind a first one
abbrev pub else_opens : List Open → Sequence → List Open
else_opens (Inside construct.If of before ∷ os) then = Else of then before ∷ os
else_opens os then = os

-- at the start of the second arm of the innermost construct
abbrev pub with_else : Built → Built
with_else v = record { opens = else_opens v.opens v.before; before = Empty }

-- the structured instruction over a body: a block, a loop, or an if without a second arm
abbrev pub structured : Construct → Option ValType → Sequence → Sequence
structured (construct.Block k) of body = Block k of body Empty
structured construct.If of body = If of body Empty Empty

-- what stands in front of a construct and then the construct, whose last sequence that is
abbrev pub closed : Open → Sequence → Sequence
closed (Inside c of before) s = append before (structured c of s)
closed (Else of then before) s = append before (If of then s Empty)

-- a construct is open
abbrev pub is_inside : List Open → Bool
is_inside [] = false
is_inside (o ∷ os) = true

-- behind the end of the innermost construct
abbrev pub ended : List Open → Sequence → Built
ended [] s = record { opens = []; before = s }
ended (o ∷ os) s = record { opens = os; before = closed o s }

abbrev pub with_end : Built → Built
with_end v = ended v.opens v.before
