-- Keys of types.
use Rattle.std.proofs.Common.{◌≡◌, ℕ, ◌==◌, true, false, ◌&&◌, List, [], ◌∷◌, ◌++◌, length, map, Some, None, refl, sym, ◌∙◌, ap, subst, arith}
use Rattle.std.specs.BTreeMap.{BTreeMap}
use Rattle.std.specs.Cmp.Lexicographic.{pointwise, nat_list_eq_equiv}
use Rattle.std.specs.Global.{Vec}
use Rattle.std.specs.List.{position, list_any}
use Rattle.std.specs.Option.{is_some}
use Rattle.std.specs.Str.{bytes_eq}
use Rattle.std.proofs.lemmas.Bool.Decides.{nat_tests}
use Rattle.std.proofs.lemmas.Bool.{cond-true, cond-false}
use Rattle.wasm_ast.specs.Types.{same_type}
use Rattle.wasm_ast.specs.declared.types.ValType.{ValType}
use Rattle.wasm_ast.specs.declared.types.ValType.TheVariants.{I32, I64, F32, F64}
use Rattle.wasm_ast.specs.declared.types.FuncType.{FuncType}
use Rattle.wat_spaces.specs.Types.{same_function_type, with_type, is_empty}
use Rattle.wat_spaces.specs.TypeKeys.{type_code, type_key, HasTypes}
use Rattle.wat_spaces.specs.Names.{GivesFirst}
use Rattle.wat_spaces.proofs.NameMaps.{first_more}
use Rattle.wat_spaces.proofs.PositionLemmas.{some_position}

results_same : (a b : List ValType) → bytes_eq (map type_code a) (map type_code b) ≡ pointwise same_type a b
results_same [] [] = refl
results_same (I32 ∷ a) (I32 ∷ b) = results_same a b
results_same (I64 ∷ a) (I64 ∷ b) = results_same a b
results_same (F32 ∷ a) (F32 ∷ b) = results_same a b
results_same (F64 ∷ a) (F64 ∷ b) = results_same a b
results_same a b = refl

-- equal keys are those of equal types
params_same : (a b r s : List ValType) → bytes_eq (map type_code a ++ 4 ∷ map type_code r) (map type_code b ++ 4 ∷ map type_code s) ≡ (pointwise same_type a b && pointwise same_type r s)
params_same [] [] r s = results_same r s
params_same [] (I32 ∷ b) r s = refl
params_same (I32 ∷ a) (I32 ∷ b) r s = params_same a b r s
params_same (I64 ∷ a) (I64 ∷ b) r s = params_same a b r s
params_same (F32 ∷ a) (F32 ∷ b) r s = params_same a b r s
params_same (F64 ∷ a) (F64 ∷ b) r s = params_same a b r s
params_same a b r s = refl

pub keys_same : (s t : FuncType) → bytes_eq (type_key s) (type_key t) ≡ same_function_type s t
keys_same s t = params_same s.params t.params s.results t.results

-- one more type, behind the others
pub type_more : (types : List FuncType) (of : FuncType) (key : List ℕ) (index : ℕ) (m n : BTreeMap (Vec ℕ) ℕ) → key ≡ type_key of → index ≡ length types → HasTypes types m → GivesFirst key index m n → HasTypes (types ++ of ∷ []) n
type_more types of key index m n k l h g other =
    first_more (same_function_type other) types of key (type_key other) m n
    (sym (keys_same other of) ∙ nat_list_eq_equiv.symm (type_key other) (type_key of) ∙ ap (λ l. bytes_eq l (type_key other)) (sym k)) (h other) (subst (λ j. GivesFirst key j m n) l g)

-- a type that is made, by its place
pub with_found : (types : List FuncType) (of : FuncType) (k : ℕ) → Some k ≡ position (same_function_type of) types → types ≡ with_type types of
with_found types of k e = let there : list_any (same_function_type of) types ≡ true = sym (some_position (same_function_type of) types) ∙ ap is_some (sym e) in sym (cond-true _ types (types ++ of ∷ []) there)

pub with_missing : (types : List FuncType) (of : FuncType) → None ≡ position (same_function_type of) types → types ++ of ∷ [] ≡ with_type types of
with_missing types of e = let there : list_any (same_function_type of) types ≡ false = sym (some_position (same_function_type of) types) ∙ ap is_some (sym e) in sym (cond-false _ types (types ++ of ∷ []) there)

pub none_empty : (ts : List ValType) → (length ts == 0) ≡ is_empty ts
none_empty [] = refl
none_empty (t ∷ ts) = grind (arith, nat_tests)
