-- Types with a map from each to its first index, by a key of its value types.
use Rattle.std.specs.Prelude.{◌≡◌, ℕ, List, ◌∷◌, ◌++◌, map}
use Rattle.std.specs.BTreeMap.{BTreeMap}
use Rattle.std.specs.Global.{Vec}
use Rattle.std.specs.List.{position}
use Rattle.wasm_ast.specs.declared.types.ValType.{ValType}
use Rattle.wasm_ast.specs.declared.types.ValType.TheVariants.{I32, I64, F32, F64}
use Rattle.wasm_ast.specs.declared.types.FuncType.{FuncType}
use Rattle.wat_spaces.specs.Types.{Found, same_function_type}
use Rattle.wat_spaces.specs.Names.{at_name}
use denote.Ref.{Bor}

abbrev pub type_code : ValType → ℕ
type_code I32 = 0
type_code I64 = 1
type_code F32 = 2
type_code F64 = 3

-- the types of the parameters, a 4, and those of the results
abbrev pub type_key : FuncType → List ℕ
type_key of = map type_code of.params ++ 4 ∷ map type_code of.results

-- a map has the first index of each type
abbrev pub HasTypes : List FuncType → BTreeMap (Vec ℕ) ℕ → Type 0
HasTypes types map = (of : FuncType) → at_name map (type_key of) ≡ position (same_function_type of) types

-- a type with its index, as the code hands it on
abbrev pub seen_found : ℕ × Bor FuncType → Found
seen_found p = record { index = p.0; of = p.1.now }
