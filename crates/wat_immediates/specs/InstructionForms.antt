-- The forms of instructions, plain and folded: WebAssembly Core 1.0, section 6.5.
use Rattle.std.specs.Prelude.{ℕ, Bool, ◌||◌, if◌then◌else◌, List, [], ◌∷◌, codes, Option, Some, None}
use Rattle.std.specs.Option.{option_map, option_and_then}
use Rattle.std.specs.Str.{bytes_eq}
use Rattle.wasm_ast.specs.declared.types.ValType.{ValType}
use Rattle.wasm_ast.specs.declared.instr.Construct.{Construct}
use Rattle.wat_names.specs.declared.named.Named.{Named}
use Rattle.wat_names.specs.Named.{named_by}
use Rattle.wat_fields.specs.Items.{Items, Empty, Word, Text, Group}
use Rattle.wat_syntax.specs.Parsed.{Identifier, Plain, Instructions, Done, Then, Block, If}
use Rattle.wat_syntax.specs.Immediates.{is_empty, whole, identifier_front, result_front}
use Rattle.wat_immediates.specs.PlainForms.{plain_of}
use Rattle.wasm_ast.specs.declared.instr.BlockKind.TheVariants as kind
use Rattle.wasm_ast.specs.declared.instr.Construct.TheVariants as construct
use Rattle.wat_names.specs.declared.named.Named.TheVariants as named

-- instructions behind others
abbrev pub append : Instructions → Instructions → Instructions
append Done is = is
append (Then i rest) is = Then i (append rest is)
append (Block k label repeated of body rest) is = Block k label repeated of body (append rest is)
append (If label repeated of first second rest) is = If label repeated of first second (append rest is)

-- One of what stands in a row: a plain instruction; the start of a block, a loop or an if, its `else`, its `end`; a folded
-- instruction, unfolded; an arm of a folded if.
pub data Part : Type 0 where
  One : (i : Plain) → Part
  Opens : (of : Construct) (label : Identifier) (leaves : Option ValType) → Part
  Elses : (label : Identifier) → Part
  Ends : (label : Identifier) → Part
  Folded : (is : Instructions) → Part
  FirstArm : (is : Instructions) → Part
  SecondArm : (is : Instructions) → Part

-- ---- blocks (6.5.1)

-- How what stands behind a place ends: where all ends; at an `end`, with its label; or at an `else`, with its label, the
-- instructions behind it and the label of the `end`.
pub data Ending : Type 0 where
  Last : Ending
  AtEnd : (label : Identifier) → Ending
  AtElse : (label : Identifier) (second : Instructions) (end_label : Identifier) → Ending

-- the instructions from a place on to the end of the block that it lies in, and how they end
pub record Level : Type 0 where
  pub instructions : Instructions
  pub ending : Ending

abbrev pub level : Instructions → Ending → Level
level is ending = record { instructions = is; ending = ending }

-- instructions in front of the innermost level
abbrev pub in_front : (Instructions → Instructions) → List Level → Option (List Level)
in_front f [] = None
in_front f (l ∷ ls) = Some (level (f l.instructions) l.ending ∷ ls)

-- how the first arm ends in front of an `else`, behind which stand these instructions
abbrev pub arm_ending : Identifier → Instructions → Ending → Option Ending
arm_ending label second (AtEnd end_label) = Some (AtElse label second end_label)
arm_ending label second ending = None

-- a block, a loop or an if with its instructions and what stands behind it; none where they don't end as it does
abbrev pub block_of : Construct → Identifier → Option ValType → Instructions → Ending → Instructions → Option Instructions
block_of (construct.Block k) label of body (AtEnd end_label) rest = Some (Block k label (end_label ∷ []) of body rest)
block_of construct.If label of first (AtEnd end_label) rest = Some (If label (end_label ∷ []) of first Done rest)
block_of construct.If label of first (AtElse else_label second end_label) rest = Some (If label (else_label ∷ end_label ∷ []) of first second rest)
block_of c label of body ending rest = None

abbrev pub if_last : Ending → Instructions → Option Instructions
if_last Last is = Some is
if_last ending is = None

-- in front of an `else`: what stands behind it is the second arm
abbrev pub before_else : Identifier → List Level → Option (List Level)
before_else label [] = None
before_else label (l ∷ ls) = option_map (λ ending. level Done ending ∷ ls) (arm_ending label l.instructions l.ending)

-- the start of a block in front of its instructions, which end so, and of what stands behind them
abbrev pub before_open : Construct → Identifier → Option ValType → List Level → Option (List Level)
before_open c label of [] = None
before_open c label of (body ∷ []) = None
before_open c label of (body ∷ behind ∷ ls) =
    option_map (λ is. level is behind.ending ∷ ls) (block_of c label of body.instructions body.ending behind.instructions)

-- A part in front of the levels of the parts behind it, the innermost first; none where they don't fit.
abbrev pub before : Part → List Level → Option (List Level)
before (One i) ls = in_front (Then i) ls
before (Opens c label of) ls = before_open c label of ls
before (Elses label) ls = before_else label ls
before (Ends label) ls = Some (level Done (AtEnd label) ∷ ls)
before (Folded is) ls = in_front (append is) ls
before (FirstArm is) ls = None
before (SecondArm is) ls = None

abbrev pub levels : List Part → Option (List Level)
levels [] = Some (level Done Last ∷ [])
levels (p ∷ ps) = option_and_then (before p) (levels ps)

-- instructions that are the only level
abbrev pub only_level : List Level → Option Instructions
only_level [] = None
only_level (l ∷ []) = if_last l.ending l.instructions
only_level (l ∷ m ∷ ls) = None

-- the instructions of a row, whose blocks all begin and end in it
abbrev pub nested : List Part → Option Instructions
nested ps = option_and_then only_level (levels ps)

-- ---- rows

-- the items in front of the first instruction of a row, and the row
pub record Row : Type 0 where
  pub immediates : Items
  pub parts : List Part

abbrev pub row : Items → List Part → Row
row items ps = record { immediates = items; parts = ps }

-- a row that begins with an instruction, or is empty
abbrev pub parts_alone : Row → Option (List Part)
parts_alone r = if is_empty r.immediates then Some r.parts else None

-- the instructions of a row that begins with one
abbrev pub alone : Row → Option Instructions
alone r = option_and_then nested (parts_alone r)

-- `$id? (result t)?` (6.5.1)
abbrev pub opens : Construct → Items → Option Part
opens c items =
    let label = identifier_front items in
    option_map (Opens c label.value) (option_and_then whole (result_front label.rest))

-- the part that a name begins, with its immediates
abbrev pub part_of : Named → Items → Option Part
part_of named.Block items = opens (construct.Block kind.Block) items
part_of named.Loop items = opens (construct.Block kind.Loop) items
part_of named.If items = opens construct.If items
part_of named.Else items = option_map Elses (whole (identifier_front items))
part_of named.End items = option_map Ends (whole (identifier_front items))
part_of n items = option_map One (plain_of n items)

-- ---- folded instructions (6.5.9)

-- folded instructions alone, one behind another
abbrev pub operands : List Part → Option Instructions
operands [] = Some Done
operands (Folded is ∷ ps) = option_map (append is) (operands ps)
operands (p ∷ ps) = None

-- the operands of a folded if, its first arm, and its second, if any: the operands come first, outside its label
abbrev pub arms : Identifier → Option ValType → List Part → Option Instructions
arms label of (Folded is ∷ ps) = option_map (append is) (arms label of ps)
arms label of (FirstArm first ∷ []) = Some (If label [] of first Done Done)
arms label of (FirstArm first ∷ SecondArm second ∷ []) = Some (If label [] of first second Done)
arms label of ps = None

-- what opens, folded
abbrev pub folded_open : List Part → Option Part → Option Part
folded_open ps (Some (Opens (construct.Block k) label of)) = option_map (λ body. Folded (Block k label [] of body Done)) (nested ps)
folded_open ps (Some (Opens construct.If label of)) = option_map Folded (arms label of ps)
folded_open ps (Some (One i)) = option_map (λ is. Folded (append is (Then i Done))) (operands ps)
folded_open ps p = None

-- an arm has no label of its own
abbrev pub first_arm : Row → Option Part
first_arm r = option_map FirstArm (alone r)

abbrev pub second_arm : Row → Option Part
second_arm r = option_map SecondArm (alone r)

-- a group that begins with an instruction's name
abbrev pub named_group : Row → Named → Option Part
named_group r named.Else = second_arm r
named_group r n = folded_open r.parts (part_of n r.immediates)

-- a group that is no immediate, by its first word and the row behind it
abbrev pub folded : List ℕ → Row → Option Part
folded keyword r =
    if bytes_eq keyword (codes "then") then first_arm r else option_and_then (named_group r) (named_by keyword)

-- ---- the row of items

-- a word in front of a row: an instruction takes the immediates of the row
abbrev pub with_word : List ℕ → Row → Option Named → Option Row
with_word word r None = Some (row (Word word r.immediates) r.parts)
with_word word r (Some n) = option_map (λ p. row Empty (p ∷ r.parts)) (part_of n r.immediates)

-- a folded instruction in front of a row, which has no immediates then
abbrev pub with_part : Row → Part → Option Row
with_part r p = option_map (λ ps. row Empty (p ∷ ps)) (parts_alone r)

-- groups that are immediates
abbrev pub is_immediate : (keyword : List ℕ) → Bool
is_immediate keyword =
    bytes_eq keyword (codes "type") || bytes_eq keyword (codes "param") || bytes_eq keyword (codes "result")

-- a group in front of a row, by its line, its keyword, what is behind that, and the row of the latter
abbrev pub with_group : ℕ → List ℕ → Items → Option Row → Row → Option Row
with_group line keyword inside behind r =
    if is_immediate keyword then Some (row (Group line (Word keyword inside) r.immediates) r.parts)
    else option_and_then (with_part r) (option_and_then (folded keyword) behind)

-- An instruction's immediates are the words and groups behind its name that begin no instruction.
abbrev pub row_of : Items → Option Row
row_of Empty = Some (row Empty [])
row_of (Word word rest) = option_and_then (λ r. with_word word r (named_by word)) (row_of rest)
row_of (Text bytes rest) = None
row_of (Group line (Word keyword inside) rest) = option_and_then (with_group line keyword inside (row_of inside)) (row_of rest)
row_of (Group line inside rest) = None

-- the instructions that items are (6.5)
abbrev pub instructions_of : Items → Option Instructions
instructions_of items = option_and_then alone (row_of items)
