use Rattle.std.proofs.Common.{ap, ◌∙◌}
use Rattle.wasm_ast.specs.Built.{with_open}
use Rattle.wasm_ast.proofs.BuilderLemmas.{open_made, pushed}
use Rattle.wasm_ast.proofs.builder.BodyBuilder.open.Goals as goal

pub invariant_of-self-2 : goal.invariant_of-self-2
invariant_of-self-2 c = (pushed _ _ c.push.new.self.items _ _ _ c.in-Ok.ensures.items (open_made _ _ _ c.self.invariant _ _ c.args.construct c.args.of c.in_ok-list.ensures.ok.1 c.in_ok-list.ensures.ok.0)).1

pub returns-clause-ok : goal.returns-clause-ok
returns-clause-ok c =
    (pushed _ _ c.push.new.self.items _ _ _ c.in-Ok.ensures.items (open_made _ _ _ c.self.invariant _ _ c.args.construct c.args.of c.in_ok-list.ensures.ok.1 c.in_ok-list.ensures.ok.0)).0
    ∙ ap (with_open c.args.construct c.args.of) c.self.view_is
