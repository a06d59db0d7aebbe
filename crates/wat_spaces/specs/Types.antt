-- The types of a module, and what uses of types mean: WebAssembly Core 1.0, sections 6.6.2 and 6.6.3.
use Rattle.std.specs.Prelude.{ℕ, Bool, true, false, ◌&&◌, ◌||◌, if◌then◌else◌, List, [], ◌∷◌, ◌++◌, slice_get, Option, Some, None}
use Rattle.std.specs.List.{flat_map, list_any, position, fold}
use Rattle.std.specs.Option.{option_map, option_and_then}
use Rattle.std.specs.Cmp.Lexicographic.{pointwise}
use Rattle.wasm_ast.specs.Types.{same_type}
use Rattle.wasm_ast.specs.declared.types.ValType.{ValType}
use Rattle.wasm_ast.specs.declared.types.FuncType.{FuncType}
use Rattle.wat_syntax.specs.Parsed.{Identifier, Reference, TypeUse, Plain, CallIndirect, Instructions, Done, Then, Block, If, Field, TypeField, ImportFunction, FunctionField, function_type}
use Rattle.wat_spaces.specs.Spaces.{index_in}

abbrev pub same_function_type : FuncType → FuncType → Bool
same_function_type a b = pointwise same_type a.params b.params && pointwise same_type a.results b.results

-- the types of the fields for types
abbrev pub own_types : Field → List FuncType
own_types (TypeField name of) = of ∷ []
own_types f = []

-- the uses of types by instructions, in their order once they are unfolded
abbrev pub uses_by : Plain → List TypeUse
uses_by (CallIndirect of) = of ∷ []
uses_by i = []

abbrev pub uses_within : Instructions → List TypeUse
uses_within Done = []
uses_within (Then i rest) = uses_by i ++ uses_within rest
uses_within (Block kind label repeated of body rest) = uses_within body ++ uses_within rest
uses_within (If label repeated of first second rest) = uses_within first ++ (uses_within second ++ uses_within rest)

-- the uses of types by a field
abbrev pub uses_of : Field → List TypeUse
uses_of (ImportFunction from field name of) = of ∷ []
uses_of (FunctionField f) = f.of ∷ uses_within f.body
uses_of f = []

-- types with one more at the end, where none of them equals it
abbrev pub with_type : List FuncType → FuncType → List FuncType
with_type types of = if list_any (same_function_type of) types then types else types ++ of ∷ []

-- without `(type x)` a use makes its type, if there is none yet
abbrev pub made_by : List FuncType → Option Reference → TypeUse → List FuncType
made_by types None of = with_type types (function_type of)
made_by types (Some x) of = types

abbrev pub with_use : List FuncType → TypeUse → List FuncType
with_use types of = made_by types of.named of

-- the types of a module: those of the fields for types, and behind them those that uses make, in the order of the text
abbrev pub types_of_fields : List Field → List FuncType
types_of_fields fs = fold with_use (flat_map own_types fs) (flat_map uses_of fs)

-- a type with its index
pub record Found : Type 0 where
  pub index : ℕ
  pub of : FuncType

abbrev pub found_at : List FuncType → ℕ → Option Found
found_at types n = option_map (λ of. record { index = n; of = of }) (slice_get types n)

abbrev pub is_empty : List ValType → Bool
is_empty [] = true
is_empty (t ∷ ts) = false

-- a use has no inline parts
abbrev pub has_no_parts : FuncType → Bool
has_no_parts of = is_empty of.params && is_empty of.results

-- inline parts beside `(type x)` are those of the type
abbrev pub if_agrees : FuncType → Found → Option Found
if_agrees of found = if has_no_parts of || same_function_type of found.of then Some found else None

-- The type that a use means, none where it names no type or its inline parts differ from it. Without `(type x)` it is the first
-- that equals the inline parts.
abbrev pub meant_by : List Identifier → List FuncType → Option Reference → FuncType → Option Found
meant_by names types None of = option_and_then (found_at types) (position (same_function_type of) types)
meant_by names types (Some x) of = option_and_then (if_agrees of) (option_and_then (found_at types) (index_in names x))

abbrev pub meaning_of : List Identifier → List FuncType → TypeUse → Option Found
meaning_of names types of = meant_by names types of.named (function_type of)
