-- What the fields that the code keeps bind, and which types they make.
use Rattle.std.specs.Prelude.{List, [], ◌∷◌}
use Rattle.std.specs.List.{flat_map, fold}
use Rattle.wasm_ast.specs.declared.types.FuncType.{FuncType}
use Rattle.wat_syntax.specs.declared.field.FieldInLine.{FieldInLine}
use Rattle.wat_syntax.specs.Parsed.{TypeUse}
use Rattle.wat_spaces.specs.Types.{uses_by, with_use}
use Rattle.wat_syntax.specs.Seen.{seen_use, seen_type}
use Rattle.wat_syntax.specs.Flat.{FlatStep, One, seen_steps}
use Rattle.wat_syntax.specs.declared.field.Field as kept
use Rattle.wat_syntax.specs.declared.field.Field.TheVariants as field
use Rattle.wat_syntax.specs.declared.parsed.ImportOf as import_of
use Rattle.wat_syntax.specs.declared.parsed.ImportOf.TheVariants as imported

-- the uses of types by a step
abbrev pub step_uses : FlatStep → List TypeUse
step_uses (One i) = uses_by i
step_uses s = []

-- the types of a field for a type
abbrev pub kept_types : kept.Field → List FuncType
kept_types (field.Type f) = seen_type f.of ∷ []
kept_types f = []

abbrev pub import_uses : import_of.ImportOf → List TypeUse
import_uses (imported.Function name of) = seen_use of ∷ []
import_uses (imported.Memory name of) = []

-- the uses of types by a field
abbrev pub kept_uses : kept.Field → List TypeUse
kept_uses (field.Import f) = import_uses f.of
kept_uses (field.Function f) = seen_use f.of ∷ flat_map step_uses (seen_steps f.body.items)
kept_uses f = []

-- the types of a module
abbrev pub own_types_of : List FieldInLine → List FuncType
own_types_of fs = flat_map (λ (f : FieldInLine). kept_types f.field) fs

abbrev pub types_of_kept : List FieldInLine → List FuncType
types_of_kept fs = fold with_use (own_types_of fs) (flat_map (λ (f : FieldInLine). kept_uses f.field) fs)
