-- The fields of a module in the order of the text: WebAssembly Core 1.0, section 6.6.1.
use Rattle.std.specs.Prelude.{ℕ, Bool, true, false, ◌||◌, ◌&&◌, if◌then◌else◌, List, [], ◌∷◌, codes, Option, Some, None, Result, Ok, Err}
use Rattle.std.specs.Option.{option_map, option_and_then}
use Rattle.std.specs.List.{list_any}
use Rattle.std.specs.Str.{bytes_eq}
use Rattle.wat_fields.specs.Items.{Items, Empty, Group}
use Rattle.wat_syntax.specs.Parsed.{Field, ImportFunction, ImportMemory, FunctionField, TableField, MemoryField, GlobalField, StartField, InLine}
use Rattle.wat_syntax.specs.Immediates.{Keyed, keyed, is_empty, identifier_front}
use Rattle.wat_forms.specs.FieldForms.{field_of}

-- groups alone
abbrev pub groups_of : Items → Option (List (InLine Items))
groups_of Empty = Some []
groups_of (Group line inside rest) = option_map (λ gs. record { line = line; value = inside } ∷ gs) (groups_of rest)
groups_of items = None

-- behind `module $id?` where one such group is all
abbrev pub inside_of : Keyed → Option Items
inside_of k = if bytes_eq k.keyword (codes "module") && is_empty k.rest then Some (identifier_front k.inside).rest else None

abbrev pub module_inside : Items → Option Items
module_inside items = option_and_then inside_of (keyed items)

-- the fields of one group `(module $id? ..)`, whose fields are groups
abbrev pub groups_in_module : Items → Option (List (InLine Items))
groups_in_module items = option_and_then groups_of (module_inside items)

abbrev pub is_import : Field → Bool
is_import (ImportFunction from field name of) = true
is_import (ImportMemory from field name of) = true
is_import f = false

-- a function, a table, a memory or a global of the module's own
abbrev pub is_own : Field → Bool
is_own (FunctionField f) = true
is_own (TableField name of) = true
is_own (MemoryField name exports of) = true
is_own (GlobalField name of mutable value) = true
is_own f = false

abbrev pub is_start : Field → Bool
is_start (StartField function) = true
is_start f = false

-- imports come before functions, tables, memories and globals, and there is one start at most
abbrev pub is_misplaced : List Field → Field → Bool
is_misplaced before f = is_import f && list_any is_own before || is_start f && list_any is_start before

abbrev pub if_placed : List Field → ℕ → Option Field → (Field → Result (List (InLine Field)) ℕ) → Result (List (InLine Field)) ℕ
if_placed before line None behind = Err line
if_placed before line (Some f) behind = if is_misplaced before f then Err line else behind f

abbrev pub with_field : ℕ → Field → Result (List (InLine Field)) ℕ → Result (List (InLine Field)) ℕ
with_field line f (Err other) = Err other
with_field line f (Ok fs) = Ok (record { line = line; value = f } ∷ fs)

-- the fields of groups, which stand behind others, or the line of the first group that has no form or is misplaced
abbrev pub fields_of : List Field → List (InLine Items) → Result (List (InLine Field)) ℕ
fields_of before [] = Ok []
fields_of before (g ∷ gs) = if_placed before g.line (field_of g.value) (λ f. with_field g.line f (fields_of (f ∷ before) gs))
