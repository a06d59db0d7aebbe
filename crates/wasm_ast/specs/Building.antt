-- How a body that is being built lies in its lists.
use Rattle.std.specs.Prelude.{◌≡◌, ℕ, List, [], ◌∷◌, map, None}
use Rattle.wasm_ast.specs.declared.instr.Instr.{Instr}
use Rattle.wasm_ast.specs.declared.instr.BlockKind.TheVariants as kind
use Rattle.wasm_ast.specs.declared.builder.Frame.{Frame}
use Rattle.wasm_ast.specs.declared.builder.Frame.TheVariants as frame
use Rattle.wasm_ast.specs.Sequence.{Sequence, Empty, Block}
use Rattle.wasm_ast.specs.Numbering.{count, inner_lists, nested}
use Rattle.wasm_ast.specs.Built.{Open, Inside, Else, Built, append}

-- a sequence as an inner one
abbrev pub inner : Sequence → Sequence
inner s = Block kind.Block None s Empty

-- What is open, one sequence behind another as each begins in the text. The lists of a body that is
-- being built are the inner ones of this.
abbrev pub opened : List Open → Sequence
opened [] = Empty
opened (Inside c of before ∷ os) = append (opened os) (inner before)
opened (Else of then before ∷ os) = append (append (opened os) (inner before)) (inner then)

abbrev pub text : Built → Sequence
text v = append (opened v.opens) (inner v.before)

-- what is open, by the numbers of its lists
abbrev pub frames_of : List Open → List Frame
frames_of [] = []
frames_of (Inside c of before ∷ os) = frame.Inside c of (count (opened os)) ∷ frames_of os
frames_of (Else of then before ∷ os) = frame.Else of (count (append (opened os) (inner before))) (count (opened os)) ∷ frames_of os

abbrev pub open_of : List (List Instr) → Frame → Open
open_of lists (frame.Inside c of outer) = Inside c of (nested lists outer)
open_of lists (frame.Else of then outer) = Else of (nested lists then) (nested lists outer)

-- the constructs that are open, the innermost first, and the list to which instructions are added
abbrev pub built_of : List (List Instr) → List Frame → ℕ → Built
built_of lists fs n = record { opens = map (open_of lists) fs; before = nested lists n }

-- the lists are numbered in the order of the text
pub record IsBuilt (lists : List (List Instr)) (fs : List Frame) (n : ℕ) (v : Built) : Type 0 where
  pub lists_are : lists ≡ inner_lists 0 (text v)
  pub frames_are : fs ≡ frames_of v.opens
  pub list_is : n ≡ count (opened v.opens)
