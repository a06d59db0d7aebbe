-- The identifiers that fields bind, and the indices that they are bound to: WebAssembly Core 1.0, sections 6.3.5 and 6.6.1.
use Rattle.std.specs.Prelude.{ℕ, Bool, true, false, ◌||◌, if◌then◌else◌, List, [], ◌∷◌, Option, Some, None}
use Rattle.std.specs.List.{flat_map, list_any, position}
use Rattle.std.specs.Str.{bytes_eq}
use Rattle.wat_syntax.specs.Parsed.{Identifier, Reference, Number, Named, Field, TypeField, ImportFunction, ImportMemory, FunctionField, TableField, MemoryField, GlobalField}

-- whether an identifier is this one
abbrev pub is_named : List ℕ → Identifier → Bool
is_named name None = false
is_named name (Some other) = bytes_eq name other

-- a name that is bound among identifiers, which are those of the indices from 0 on
abbrev pub is_bound : List Identifier → List ℕ → Bool
is_bound space name = list_any (is_named name) space

-- the index of a reference, none where it names what is bound nowhere; an identifier means the first index that bears it
abbrev pub index_in : List Identifier → Reference → Option ℕ
index_in space (Number n) = Some n
index_in space (Named name) = position (is_named name) space

-- no two identifiers are the same
abbrev pub are_distinct : List Identifier → Bool
are_distinct [] = true
are_distinct (None ∷ rest) = are_distinct rest
are_distinct (Some name ∷ rest) = if is_bound rest name then false else are_distinct rest

-- what identifiers of a module name
pub data Space : Type 0 where
  Types : Space
  Functions : Space
  Tables : Space
  Memories : Space
  Globals : Space

-- the identifiers that a field has in a space: one for each index that it takes there
abbrev pub identifiers : Space → Field → List Identifier
identifiers Types (TypeField name of) = name ∷ []
identifiers Functions (ImportFunction from field name of) = name ∷ []
identifiers Functions (FunctionField f) = f.name ∷ []
identifiers Tables (TableField name of) = name ∷ []
identifiers Memories (ImportMemory from field name of) = name ∷ []
identifiers Memories (MemoryField name exports of) = name ∷ []
identifiers Globals (GlobalField name of mutable value) = name ∷ []
identifiers space f = []

-- those of all fields, in the order of the text, in which imports come first
abbrev pub space_of : Space → List Field → List Identifier
space_of space fs = flat_map (identifiers space) fs

abbrev pub is_taken : List Identifier → Identifier → Bool
is_taken space None = false
is_taken space (Some name) = is_bound space name

-- a field binds an identifier that its space has from the fields before it
abbrev pub rebinds_in : Space → List Field → Field → Bool
rebinds_in space before f = list_any (is_taken (space_of space before)) (identifiers space f)

abbrev pub rebinds : List Field → Field → Bool
rebinds before f = rebinds_in Types before f || rebinds_in Functions before f || rebinds_in Tables before f || rebinds_in Memories before f || rebinds_in Globals before f
