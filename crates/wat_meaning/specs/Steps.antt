-- What the steps of a function mean, one behind another: WebAssembly Core 1.0, section 6.5.
use Rattle.std.specs.Prelude.{ℕ, if◌then◌else◌, List, [], ◌∷◌, map, Option, Some, None}
use Rattle.std.specs.Option.{option_map, option_and_then}
use Rattle.wasm_ast.specs.declared.instr.VariableOp.{VariableOp}
use Rattle.wasm_ast.specs.declared.instr.VariableOp.TheVariants.{LocalGet, LocalSet, LocalTee, GlobalGet, GlobalSet}
use Rattle.wasm_ast.specs.declared.instr.Instr.{Instr}
use Rattle.wasm_ast.specs.Sequence.{Sequence}
use Rattle.wasm_ast.specs.Built.{Built, nothing_built, with_plain, with_open, takes_else, with_else, is_inside, with_end}
use Rattle.wat_spaces.specs.declared.bindings.Bindings.{Bindings}
use Rattle.wat_meaning.specs.declared.body_meaning.Walked.{Walked}
use Rattle.wat_syntax.specs.Parsed.{Identifier, Reference, TypeUse, Plain, Alone, Br, BrIf, BrTable, Call, CallIndirect, OnVariable}
use Rattle.wat_spaces.specs.Spaces.{index_in}
use Rattle.wat_spaces.specs.Types.{Found, meaning_of}
use Rattle.wat_meaning.specs.Meaning.{Context, all_some}
use Rattle.wat_spaces.specs.Labels.{is_repeated, outside}
use Rattle.wat_spaces.specs.KeptSpaces.{spaces_said}
use Rattle.wat_syntax.specs.Flat.{FlatStep}
use Rattle.wasm_ast.specs.declared.instr.Instr.TheVariants as instr
use Rattle.wat_syntax.specs.Flat as flat

-- the bindings of a module
abbrev pub bindings : Context → Bindings
bindings c = record { of = c.types; names = spaces_said c.fields }

abbrev pub type_for : Bindings → TypeUse → Option Found
type_for b of = meaning_of b.names.types b.of of

-- the index of a local or a global
abbrev pub variable_for : Bindings → List Identifier → VariableOp → Reference → Option ℕ
variable_for b locals LocalGet x = index_in locals x
variable_for b locals LocalSet x = index_in locals x
variable_for b locals LocalTee x = index_in locals x
variable_for b locals GlobalGet x = index_in b.names.globals x
variable_for b locals GlobalSet x = index_in b.names.globals x

abbrev pub table_for : List Identifier → List Reference → Reference → Option Instr
table_for labels targets default = option_and_then (λ ts. option_map (λ d. instr.BrTable (ts, d)) (index_in labels default)) (all_some (map (index_in labels) targets))

-- an instruction without inner instructions, within these labels, the innermost first
abbrev pub plain_for : Bindings → (locals labels : List Identifier) → Plain → Option Instr
plain_for b locals labels (Alone i) = Some i
plain_for b locals labels (Br label) = option_map instr.Br (index_in labels label)
plain_for b locals labels (BrIf label) = option_map instr.BrIf (index_in labels label)
plain_for b locals labels (BrTable targets default) = table_for labels targets default
plain_for b locals labels (Call function) = option_map instr.Call (index_in b.names.functions function)
plain_for b locals labels (CallIndirect of) = option_map (λ found. instr.CallIndirect found.index) (type_for b of)
plain_for b locals labels (OnVariable op x) = option_map (instr.Variable op) (variable_for b locals op x)

abbrev pub walked : List Identifier → Built → Walked
walked labels built = record { labels = labels; built = built }

-- behind an `else`, which has the label of the innermost block, if any
abbrev pub else_for : Identifier → List Identifier → Built → Option Walked
else_for label ls built = if takes_else built.opens then (if is_repeated ls label then Some (walked ls (with_else built)) else None) else None

-- behind an `end`
abbrev pub end_for : Identifier → List Identifier → Built → Option Walked
end_for label ls built = if is_inside built.opens then (if is_repeated ls label then Some (walked (outside ls) (with_end built)) else None) else None

-- behind a step, none where it names what is bound nowhere
abbrev pub after : Bindings → List Identifier → FlatStep → Walked → Option Walked
after b locals (flat.One i) w = option_map (λ j. walked w.labels (with_plain j w.built)) (plain_for b locals w.labels i)
after b locals (flat.Open of label leaves) w = Some (walked (label ∷ w.labels) (with_open of leaves w.built))
after b locals (flat.Else label) w = else_for label w.labels w.built
after b locals (flat.End label) w = end_for label w.labels w.built

abbrev pub walk : Bindings → List Identifier → List FlatStep → Walked → Option Walked
walk b locals [] w = Some w
walk b locals (s ∷ ss) w = option_and_then (walk b locals ss) (after b locals s w)

abbrev pub start : Walked
start = walked [] nothing_built

-- where no block is open
abbrev pub finished : Walked → Option Sequence
finished w = if is_inside w.built.opens then None else Some w.built.before

-- the body that steps are
abbrev pub body_for : Bindings → List Identifier → List FlatStep → Option Sequence
body_for b locals steps = option_and_then finished (walk b locals steps start)

-- ---- what reading gives
