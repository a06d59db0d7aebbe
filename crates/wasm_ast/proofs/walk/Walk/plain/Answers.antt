use Rattle.std.proofs.Common.{sym, ap, ◌∙◌, reverse}
use Rattle.wasm_ast.specs.Walk.{first_plain, walk_events}
use Rattle.wasm_ast.proofs.WalkLemmas.{none_left, none_plain}
use Rattle.wasm_ast.proofs.walk.Walk.plain.Goals as goal

pub returns-in_err-instr-clause-none : goal.returns-in_err-instr-clause-none
returns-in_err-instr-clause-none c h =
    let w = c.self.inside in
    ap first_plain (sym c.self.view_is ∙ ap (λ is. walk_events w.body.now is (reverse w.outer.items)) (none_left w.rest.now c.in_err-instr.ensures.cases)) ∙ none_plain w.body.now (reverse w.outer.items)
