-- The identifiers that the fields that the code keeps bind.
use Rattle.std.specs.Prelude.{Bool, false, List, [], ◌∷◌, ◌++◌}
use Rattle.wat_spaces.specs.declared.spaces.Spaces.{Spaces}
use Rattle.wat_syntax.specs.declared.field.FieldInLine.{FieldInLine}
use Rattle.wat_syntax.specs.Parsed.{Field}
use Rattle.wat_spaces.specs.Spaces.{is_taken, Types, Functions, Tables, Memories, Globals, space_of}
use Rattle.wat_syntax.specs.Seen.{seen_name}
use Rattle.wat_syntax.specs.declared.field.Field as kept
use Rattle.wat_syntax.specs.declared.field.Field.TheVariants as field
use Rattle.wat_syntax.specs.declared.parsed.ImportOf as import_of
use Rattle.wat_syntax.specs.declared.parsed.ImportOf.TheVariants as imported

abbrev pub no_names : Spaces
no_names = record { types = []; functions = []; tables = []; memories = []; globals = [] }

-- those of fields
abbrev pub spaces_said : List Field → Spaces
spaces_said fs = record { types = space_of Types fs; functions = space_of Functions fs; tables = space_of Tables fs; memories = space_of Memories fs; globals = space_of Globals fs }

abbrev pub import_with : Spaces → import_of.ImportOf → Spaces
import_with s (imported.Function name of) = record s { functions = s.functions ++ seen_name name ∷ [] }
import_with s (imported.Memory name of) = record s { memories = s.memories ++ seen_name name ∷ [] }

-- with a field behind those before
abbrev pub spaces_with : Spaces → kept.Field → Spaces
spaces_with s (field.Type f) = record s { types = s.types ++ seen_name f.name ∷ [] }
spaces_with s (field.Import f) = import_with s f.of
spaces_with s (field.Function f) = record s { functions = s.functions ++ seen_name f.name ∷ [] }
spaces_with s (field.Table f) = record s { tables = s.tables ++ seen_name f.name ∷ [] }
spaces_with s (field.Memory f) = record s { memories = s.memories ++ seen_name f.name ∷ [] }
spaces_with s (field.Global f) = record s { globals = s.globals ++ seen_name f.name ∷ [] }
spaces_with s f = s

abbrev pub import_rebinds : Spaces → import_of.ImportOf → Bool
import_rebinds s (imported.Function name of) = is_taken s.functions (seen_name name)
import_rebinds s (imported.Memory name of) = is_taken s.memories (seen_name name)

-- a field binds a name that its space has
abbrev pub kept_rebinds : Spaces → kept.Field → Bool
kept_rebinds s (field.Type f) = is_taken s.types (seen_name f.name)
kept_rebinds s (field.Import f) = import_rebinds s f.of
kept_rebinds s (field.Function f) = is_taken s.functions (seen_name f.name)
kept_rebinds s (field.Table f) = is_taken s.tables (seen_name f.name)
kept_rebinds s (field.Memory f) = is_taken s.memories (seen_name f.name)
kept_rebinds s (field.Global f) = is_taken s.globals (seen_name f.name)
kept_rebinds s f = false

abbrev pub spaces_of_kept : Spaces → List FieldInLine → Spaces
spaces_of_kept s [] = s
spaces_of_kept s (f ∷ fs) = spaces_of_kept (spaces_with s f.field) fs
