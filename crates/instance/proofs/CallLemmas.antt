-- The number of a call by the table.
use Rattle.std.proofs.Common.{◌≡◌, ℕ, true, false, List, if◌then◌else◌, Option, Some, None, option_and_then, find, refl, ap, ◌∙◌}
use Rattle.wasm_ast.specs.declared.types.FuncType.{FuncType}
use Rattle.wasm_ast.specs.Table.{same_types}
use Rattle.instance.specs.Calls.{Call, calls, is_named, is_nosys, nosys_call, number_with_type, results_of, call_number}

-- the number of the call that was found among the rows
pub number_found : (from name : List ℕ) (of : FuncType) (rows : List Call) (found : Option Call) (number : Option ℕ) → false ≡ is_nosys from name → rows ≡ calls → found ≡ find (is_named from name) rows
    → number ≡ option_and_then (number_with_type of) found → number ≡ call_number from name of
number_found from name of rows found number other all is its =
    its ∙ ap (option_and_then (number_with_type of)) (is ∙ ap (find (is_named from name)) all)
    ∙ ap (λ b. if b then (if same_types of.results (results_of true) then Some nosys_call else None) else option_and_then (number_with_type of) (find (is_named from name) calls)) other
