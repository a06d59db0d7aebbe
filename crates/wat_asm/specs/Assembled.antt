-- The module of a text, or what is wrong with it: WebAssembly Core 1.0, chapter 6, with kinds and lines of this project's own.
use Rattle.std.specs.Prelude.{ℕ, if◌then◌else◌, List, [], ◌∷◌, ◌++◌, map, Option, Some, None, Result, Ok, Err}
use Rattle.std.specs.Option.{option_or}
use Rattle.wasm_ast.specs.declared.types.FuncType.{FuncType}
use Rattle.wasm_ast.specs.declared.module.Module.{Module}
use Rattle.wat_tokens.specs.Tokens.{Token, tokens}
use Rattle.wat_fields.specs.Items.{Items, items_of}
use Rattle.wat_asm.specs.declared.fault.AsmKind.{AsmKind}
use Rattle.wat_syntax.specs.Parsed.{Field, InLine}
use Rattle.wat_forms.specs.Fields.{groups_in_module, fields_of}
use Rattle.wat_spaces.specs.Spaces.{rebinds}
use Rattle.wat_spaces.specs.Types.{types_of_fields}
use Rattle.wat_meaning.specs.Meaning.{Context, nothing, given_by}
use Rattle.wat_asm.specs.declared.fault.AsmKind.TheVariants as kind

-- a fault of a text, with its line
pub record Fault : Type 0 where
  pub kind : AsmKind
  pub line : ℕ

abbrev pub fault : AsmKind → ℕ → Fault
fault k line = record { kind = k; line = line }

-- one part of a module in front of the rest
abbrev pub joined : Module → Module → Module
joined m rest = record {
  types = m.types ++ rest.types;
  imports = m.imports ++ rest.imports;
  functions = m.functions ++ rest.functions;
  tables = m.tables ++ rest.tables;
  memories = m.memories ++ rest.memories;
  globals = m.globals ++ rest.globals;
  exports = m.exports ++ rest.exports;
  start = option_or m.start rest.start;
  elements = m.elements ++ rest.elements;
  codes = m.codes ++ rest.codes;
  segments = m.segments ++ rest.segments;
}

abbrev pub in_front : Module → Result Module ℕ → Result Module ℕ
in_front m (Ok rest) = Ok (joined m rest)
in_front m (Err line) = Err line

abbrev pub if_given : ℕ → Option Module → Result Module ℕ → Result Module ℕ
if_given line None rest = Err line
if_given line (Some m) rest = in_front m rest

-- The parts of a module that fields give, which stand behind others; or the line of the first that binds an identifier anew, or
-- uses one that is bound nowhere.
abbrev pub parts_of : Context → List Field → List (InLine Field) → Result Module ℕ
parts_of c before [] = Ok nothing
parts_of c before (f ∷ fs) =
    if rebinds before f.value then Err f.line
    else if_given f.line (given_by c before f.value) (parts_of c (before ++ f.value ∷ []) fs)

abbrev pub with_types : List FuncType → Result Module ℕ → Result Module Fault
with_types types (Ok m) = Ok (record m { types = types })
with_types types (Err line) = Err (fault kind.Name line)

-- the module of fields
abbrev pub module_of_fields : List (InLine Field) → Result Module Fault
module_of_fields fs =
    let fields = map (λ f. f.value) fs in
    let types = types_of_fields fields in
    with_types types (parts_of (record { fields = fields; types = types }) [] fs)

abbrev pub if_formed : Result (List (InLine Field)) ℕ → Result Module Fault
if_formed (Ok fs) = module_of_fields fs
if_formed (Err line) = Err (fault kind.Syntax line)

-- the module of groups, and of items; without one balanced `(module ..)` of groups alone the line is 1
abbrev pub module_of_groups : Option (List (InLine Items)) → Result Module Fault
module_of_groups None = Err (fault kind.Syntax 1)
module_of_groups (Some groups) = if_formed (fields_of [] groups)

abbrev pub module_of_items : Option Items → Result Module Fault
module_of_items None = Err (fault kind.Syntax 1)
module_of_items (Some items) = module_of_groups (groups_in_module items)

abbrev pub module_of_tokens : Result (List Token) ℕ → Result Module Fault
module_of_tokens (Ok ts) = module_of_items (items_of ts)
module_of_tokens (Err line) = Err (fault kind.Token line)

-- the module of a text, or its first fault
unfoldable pub assembled : List ℕ → Result Module Fault
assembled text = module_of_tokens (tokens text)
