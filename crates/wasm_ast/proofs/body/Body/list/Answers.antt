use Rattle.std.proofs.Common.{◌≡◌, ℕ, List, [], arith, sym, subst}
use Rattle.std.proofs.lemmas.Grind.{common_steps}
use Rattle.std.proofs.lemmas.Option.{gets}
use Rattle.wasm_ast.specs.declared.instr.Instr.{Instr}
use Rattle.wasm_ast.specs.Sequence.{Sequence}
use Rattle.wasm_ast.specs.Numbering.{list_at, lists_of, nested}
use Rattle.wasm_ast.specs.Position.{IsList}
use Rattle.wasm_ast.proofs.TextOrder.{is_list, nested_plain}
use Rattle.wasm_ast.proofs.body.Body.list.Goals as goal

-- what a list means, by the view of the body that holds it
of_view : (lists : List (List Instr)) (s : Sequence) (n : ℕ) (is : List Instr) → lists ≡ lists_of (nested lists 0) → nested lists 0 ≡ s → is ≡ list_at lists n → IsList s n is
of_view lists s n is e v p = subst (λ (t : Sequence). IsList t n is) v (subst (λ (js : List Instr). IsList (nested lists 0) n js) (sym p) (is_list (nested lists 0) lists n (nested_plain lists 0) e))

pub returns-in-None : goal.returns-in-None
returns-in-None c =
    let none : [] ≡ list_at c.self.inside.lists.items c.args.list = grind (arith, common_steps, gets) in
    of_view c.self.inside.lists.items c.args.self.now c.args.list [] c.self.invariant c.self.view_is none

pub returns-in-Some : goal.returns-in-Some
returns-in-Some c =
    let found : c.as_slice.result.now ≡ list_at c.self.inside.lists.items c.args.list = grind (arith, common_steps, gets) in
    of_view c.self.inside.lists.items c.args.self.now c.args.list c.as_slice.result.now c.self.invariant c.self.view_is found
