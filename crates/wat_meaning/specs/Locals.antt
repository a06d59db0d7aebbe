-- The names of the parameters and the locals of a function.
use Rattle.std.specs.Prelude.{ℕ, if◌then◌else◌, List, [], ◌∷◌, ◌++◌, length, map, Option, Some, None, replicate}
use Rattle.std.specs.Option.{option_map, option_and_then}
use Rattle.wasm_ast.specs.declared.types.FuncType.{FuncType}
use Rattle.wat_syntax.specs.Parsed.{Identifier, Variable}
use Rattle.wat_spaces.specs.Spaces.{is_taken}
use Rattle.wat_meaning.specs.Meaning.{param_names}

-- the names of the parameters and the locals of a function
abbrev pub local_names : FuncType → (params locals : List Variable) → List Identifier
local_names of params locals = param_names of params ++ map (λ v. v.name) locals

-- identifiers with further ones behind them, none where one is taken
abbrev pub distinct_behind : List Identifier → List Identifier → Option (List Identifier)
distinct_behind done [] = Some done
distinct_behind done (x ∷ xs) = if is_taken done x then None else distinct_behind (done ++ x ∷ []) xs

abbrev pub variable_names : List Variable → List Identifier
variable_names vs = map (λ v. v.name) vs

-- how many parameters only a type says
abbrev pub unnamed_params : FuncType → List Variable → ℕ
unnamed_params of [] = length of.params
unnamed_params of (v ∷ vs) = 0

-- the names of variables and then of others, where all differ
abbrev pub both_distinct : (first second : List Variable) → Option (List Identifier)
both_distinct first second = option_and_then (λ done. distinct_behind done (variable_names second)) (distinct_behind [] (variable_names first))

-- the names of the parameters and locals of a function, where all differ
abbrev pub locals_for : FuncType → (params locals : List Variable) → Option (List Identifier)
locals_for of params locals = option_map (λ names. replicate (unnamed_params of params) None ++ names) (both_distinct params locals)
