-- Functions and their locals.
use Rattle.std.proofs.Common.{◌≡◌, ℕ, ◌≤◌, false, nat_lt, List, [], ◌∷◌, length, drop, refl, ap, ◌∙◌, arith}
use Rattle.std.proofs.lemmas.List.{drop_all}
use Rattle.wasm_ast.specs.declared.types.FuncType.{FuncType}
use Rattle.wasm_ast.specs.declared.module.Code.{Code}
use Rattle.wasm_decode.specs.Bounds.{any_has_many}

no_codes : (types : List FuncType) (functions : List ℕ) → any_has_many types functions [] ≡ false
no_codes types [] = refl
no_codes types (of ∷ ofs) = refl

at_least : (i n : ℕ) → false ≡ nat_lt i n → n ≤ i
at_least i n h = grind arith

-- where no code is left
pub none_left : (types : List FuncType) (functions : List ℕ) (codes : List Code) (i : ℕ) → false ≡ nat_lt i (length codes) → any_has_many types (drop i functions) (drop i codes) ≡ false
none_left types functions codes i h = ap (any_has_many types (drop i functions)) (drop_all i codes (at_least i (length codes) h)) ∙ no_codes types (drop i functions)
