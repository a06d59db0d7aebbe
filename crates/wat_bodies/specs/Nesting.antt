-- The steps of instructions that are still to be read, by the blocks and folded instructions that are open: WebAssembly Core 1.0,
-- sections 6.5.1 and 6.5.9.
use Rattle.std.specs.Prelude.{◌≡◌, ℕ, ◌+◌, ◌<◌, Bool, true, false, codes, List, [], ◌∷◌, ◌++◌, map, reverse, Option, Some, None, Result, Ok, Err}
use Rattle.std.specs.Option.{option_map, option_and_then}
use Rattle.std.specs.Str.{bytes_eq}
use Rattle.wat_names.specs.Named.{named_by}
use Rattle.wasm_ast.specs.declared.types.ValType.{ValType}
use Rattle.wasm_ast.specs.declared.instr.Construct.{Construct}
use Rattle.wat_tokens.specs.Tokens.{Token}
use Rattle.wat_names.specs.declared.named.Named.{Named}
use Rattle.wat_fields.specs.declared.field_list.Place.{Place}
use Rattle.wat_fields.specs.Items.{Items, Empty, Word, Text, Group}
use Rattle.wat_syntax.specs.declared.parsed.Refusal.{Refusal}
use Rattle.wat_bodies.specs.declared.nesting.Stands.{Stands}
use Rattle.wat_syntax.specs.Parsed.{Identifier, Plain, Instructions, Done}
use Rattle.wat_immediates.specs.InstructionForms.{Part, SecondArm, Ending, Last, AtEnd, AtElse, Level, level, only_level, levels, operands, arms, is_immediate}
use Rattle.wat_immediates.specs.Rows.{parts_of}
use Rattle.wat_syntax.specs.Flat.{FlatStep, flat, seen_plain}
use Rattle.wat_syntax.specs.Seen.{at_place, seen_name}
use Rattle.wasm_ast.specs.declared.instr.Construct.TheVariants as construct
use Rattle.wat_names.specs.declared.named.Named.TheVariants as named
use Rattle.wat_syntax.specs.declared.parsed.Refusal.TheVariants as refusal
use Rattle.wat_bodies.specs.declared.nesting.Frame as kept
use Rattle.wat_bodies.specs.declared.nesting.Frame.TheVariants as frame
use Rattle.wat_bodies.specs.declared.nesting.Stands.TheVariants as stands
use Rattle.wat_syntax.specs.Flat as step

-- What is open at a place, the innermost first: a block or a loop, or the second arm of an if; the first arm of an if; the inside of
-- a folded block or loop, or the second arm of a folded if; the operands of a folded instruction; those of a folded if; its first
-- arm, with the items behind it in the if; and what comes behind the first arm. A group comes with the items behind it.
pub data Frame : Type 0 where
  Block : Frame
  If : Frame
  Body : (behind : Items) → Frame
  Operands : (i : Plain) (behind : Items) → Frame
  Tests : (label : Identifier) (leaves : Option ValType) (behind : Items) → Frame
  First : (others behind : Items) → Frame
  Second : (behind : Items) → Frame

-- steps in front of others
abbrev pub ahead : List FlatStep → Option (List FlatStep) → Option (List FlatStep)
ahead steps more = option_map (λ m. steps ++ m) more

-- instructions, steps behind them, and what comes then
abbrev pub after : Option Instructions → List FlatStep → Option (List FlatStep) → Option (List FlatStep)
after None steps more = None
after (Some is) steps more = ahead (flat is) (ahead steps more)

-- a block or a loop ends
abbrev pub block_ends : Instructions → Ending → Option (List FlatStep) → Option (List FlatStep)
block_ends is Last more = None
block_ends is (AtEnd label) more = ahead (flat is) (ahead (step.End label ∷ []) more)
block_ends is (AtElse label second end_label) more = None

-- the first arm of an if ends, or all of it
abbrev pub if_ends : Instructions → Ending → Option (List FlatStep) → Option (List FlatStep)
if_ends is Last more = None
if_ends is (AtEnd label) more = ahead (flat is) (ahead (step.Else None ∷ step.End label ∷ []) more)
if_ends is (AtElse label second end_label) more =
    ahead (flat is) (ahead (step.Else label ∷ []) (ahead (flat second) (ahead (step.End end_label ∷ []) more)))

-- what stands behind the first arm of a folded if
abbrev pub second_part : List Part → Option Instructions
second_part [] = Some Done
second_part (SecondArm is ∷ []) = Some is
second_part ps = None

abbrev pub last_level : Instructions → List Level
last_level is = level is Last ∷ []

-- the levels of parts that stand in what is open
abbrev pub levels_in : List Frame → List Part → Option (List Level)
levels_in [] ps = levels ps
levels_in (Block ∷ fs) ps = levels ps
levels_in (If ∷ fs) ps = levels ps
levels_in (Body behind ∷ fs) ps = levels ps
levels_in (Operands i behind ∷ fs) ps = option_map last_level (operands ps)
levels_in (Tests label of behind ∷ fs) ps = option_map last_level (arms label of ps)
levels_in (First others behind ∷ fs) ps = levels ps
levels_in (Second behind ∷ fs) ps = option_map last_level (second_part ps)

-- The steps of levels and of what comes behind all that is open; none where something has no form.
unfoldable pub under : List Frame → List Level → Option (List FlatStep)
under [] ls = option_map flat (only_level ls)
under (Block ∷ fs) [] = None
under (Block ∷ fs) (l ∷ ls) = block_ends l.instructions l.ending (under fs ls)
under (If ∷ fs) [] = None
under (If ∷ fs) (l ∷ ls) = if_ends l.instructions l.ending (under fs ls)
under (Body behind ∷ fs) ls =
    after (only_level ls) (step.End None ∷ []) (option_and_then (λ ps. option_and_then (λ ms. under fs ms) (levels_in fs ps)) (parts_of behind))
under (Operands i behind ∷ fs) ls =
    after (only_level ls) (step.One i ∷ []) (option_and_then (λ ps. option_and_then (λ ms. under fs ms) (levels_in fs ps)) (parts_of behind))
under (Tests label of behind ∷ fs) ls =
    after (only_level ls) [] (option_and_then (λ ps. option_and_then (λ ms. under fs ms) (levels_in fs ps)) (parts_of behind))
under (First others behind ∷ fs) ls =
    after (only_level ls) (step.Else None ∷ []) (after (option_and_then second_part (parts_of others)) (step.End None ∷ [])
    (option_and_then (λ ps. option_and_then (λ ms. under fs ms) (levels_in fs ps)) (parts_of behind)))
under (Second behind ∷ fs) ls =
    after (only_level ls) (step.End None ∷ []) (option_and_then (λ ps. option_and_then (λ ms. under fs ms) (levels_in fs ps)) (parts_of behind))

-- the steps of parts, and of what comes behind all that is open
unfoldable pub held : List Frame → List Part → Option (List FlatStep)
held fs ps = option_and_then (λ ms. under fs ms) (levels_in fs ps)

-- the steps of items, and of what comes behind all that is open
unfoldable pub to_come : List Frame → Items → Option (List FlatStep)
to_come fs items = option_and_then (λ ps. held fs ps) (parts_of items)

-- what may stand in what is open: instructions with their blocks, where no block is open, or one, or the first arm of an if; folded
-- instructions alone; or what belongs to a folded if
abbrev pub stands_in : List Frame → Stands
stands_in [] = stands.Row
stands_in (Block ∷ fs) = stands.Block
stands_in (If ∷ fs) = stands.If
stands_in (Body behind ∷ fs) = stands.Row
stands_in (Operands i behind ∷ fs) = stands.Operands
stands_in (Tests label of behind ∷ fs) = stands.Tests
stands_in (First others behind ∷ fs) = stands.Row
stands_in (Second behind ∷ fs) = stands.Second

abbrev pub is_row : Stands → Bool
is_row stands.Row = true
is_row stands.Block = true
is_row stands.If = true
is_row stands.Operands = false
is_row stands.Tests = false
is_row stands.Second = false

-- blocks that aren't folded are open in rows alone
abbrev pub IsNested : List Frame → Type 0
IsNested [] = Unit {0}
IsNested (Block ∷ fs) = (is_row (stands_in fs) ≡ true) × IsNested fs
IsNested (If ∷ fs) = (is_row (stands_in fs) ≡ true) × IsNested fs
IsNested (Body behind ∷ fs) = IsNested fs
IsNested (Operands i behind ∷ fs) = IsNested fs
IsNested (Tests label of behind ∷ fs) = IsNested fs
IsNested (First others behind ∷ fs) = IsNested fs
IsNested (Second behind ∷ fs) = IsNested fs

-- what the start of a block, a loop or an if opens
abbrev pub opened : Construct → Frame
opened (construct.Block k) = Block
opened construct.If = If

-- what is open behind the innermost
abbrev pub outer : List Frame → List Frame
outer [] = []
outer (f ∷ fs) = fs

-- the name of an `else`
abbrev pub is_else : Named → Bool
is_else named.Else = true
is_else n = false

-- a group that begins a folded instruction of this name
pub record Begins (keyword : List ℕ) (n : Named) : Type 0 where
  pub no_immediate : is_immediate keyword ≡ false
  pub no_arm : bytes_eq keyword (codes "then") ≡ false
  pub its_name : named_by keyword ≡ Some n
  pub no_else : is_else n ≡ false

-- a group that is the second arm of an if
pub record BeginsElse (keyword : List ℕ) (n : Named) : Type 0 where
  pub no_immediate : is_immediate keyword ≡ false
  pub no_arm : bytes_eq keyword (codes "then") ≡ false
  pub its_name : named_by keyword ≡ Some n
  pub its_else : is_else n ≡ true

-- ---- what the code keeps

abbrev pub seen_frame : List Token → kept.Frame → Frame
seen_frame tokens frame.Block = Block
seen_frame tokens frame.If = If
seen_frame tokens (frame.Body behind) = Body (at_place tokens behind)
seen_frame tokens (frame.Operands i behind) = Operands (seen_plain i) (at_place tokens behind)
seen_frame tokens (frame.Tests label leaves behind) = Tests (seen_name label) leaves (at_place tokens behind)
seen_frame tokens (frame.First others behind) = First (at_place tokens others) (at_place tokens behind)
seen_frame tokens (frame.Second behind) = Second (at_place tokens behind)

-- what is open, the innermost last
abbrev pub seen_frames : List Token → List kept.Frame → List Frame
seen_frames tokens fs = map (seen_frame tokens) (reverse fs)

-- ---- how much is left

unfoldable pub size : Items → ℕ
size Empty = 0
size (Word word rest) = size rest + 1
size (Text bytes rest) = size rest + 1
size (Group line inside rest) = size inside + size rest + 2

unfoldable pub frame_size : Frame → ℕ
frame_size Block = 0
frame_size If = 0
frame_size (Body behind) = size behind + 1
frame_size (Operands i behind) = size behind + 1
frame_size (Tests label of behind) = size behind + 1
frame_size (First others behind) = size others + size behind + 2
frame_size (Second behind) = size behind + 1

unfoldable pub frames_size : List Frame → ℕ
frames_size [] = 0
frames_size (f ∷ fs) = frame_size f + frames_size fs

-- the items that are left, and what is open
abbrev pub left : List Frame → Items → ℕ
left fs items = frames_size fs + size items

-- ---- a turn

-- A part is put behind steps: they and what is to come stay the same.
pub record Puts (steps steps' : List FlatStep) (fs fs' : List Frame) (p : Part) : Type 0 where
  pub same : (ps : List Part) → ahead steps (held fs (p ∷ ps)) ≡ ahead steps' (held fs' ps)
  pub size : frames_size fs' ≡ frames_size fs
  pub nested : IsNested fs'

-- a part is put behind steps, or may not stand there, unless memory ran out
abbrev pub PutsPart : (steps steps' : List FlatStep) (fs fs' : List Frame) → Part → Result (Unit {0}) Refusal → Type 0
PutsPart steps steps' fs fs' p (Ok x) = Puts steps steps' fs fs' p
PutsPart steps steps' fs fs' p (Err refusal.Form) = (ps : List Part) → held fs (p ∷ ps) ≡ None
PutsPart steps steps' fs fs' p (Err refusal.Memory) = Unit {0}

-- Steps and what is to come stay the same, while less is left.
pub record Moves (steps steps' : List FlatStep) (fs fs' : List Frame) (items items' : Items) : Type 0 where
  pub same : ahead steps (to_come fs items) ≡ ahead steps' (to_come fs' items')
  pub less : left fs' items' < left fs items
  pub nested : IsNested fs'

-- A turn ends at a place from which all is still to come; or there is nothing more; or what was to come has no form. Memory may run
-- out.
abbrev pub Turns : List Token → (steps steps' : List FlatStep) (fs fs' : List Frame) → Items → Result (Option Place) Refusal → Type 0
Turns tokens steps steps' fs fs' items (Ok (Some at)) = Moves steps steps' fs fs' items (at_place tokens at)
Turns tokens steps steps' fs fs' items (Ok None) = ahead steps (to_come fs items) ≡ Some steps'
Turns tokens steps steps' fs fs' items (Err refusal.Form) = to_come fs items ≡ None
Turns tokens steps steps' fs fs' items (Err refusal.Memory) = Unit {0}
