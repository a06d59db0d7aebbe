use Rattle.std.proofs.Common.{Some, sym, ap, ◌∙◌}
use Rattle.wasm_validate.specs.Prelude.{context, fitting, behind}
use Rattle.wasm_validate.proofs.AlgorithmLemmas.{leave, body_typed, refused}
use Rattle.wasm_validate.proofs.context.Context.is_body.Goals as goal

pub returns-then-not-fits : goal.returns-then-not-fits
returns-then-not-fits c =
    let here = rw c.in-Some.is at c.in_ok-fits.ensures in
    refused (context c.args.self.now) c.args.body.now here.0 c.next_step.new.walk c.events.blocks c.next_step.new.blocks
    (ap (λ es. behind (context c.args.self.now) es (Some c.events.blocks)) (sym here.1) ∙ c.events.invariant)
    (ap (λ fits. fitting fits c.next_step.new.blocks) (sym c.if-not-fits.true) ∙ here.2)

pub returns : goal.returns
returns c =
    let here = rw c.in_default.is at c.in_ok-fits.ensures in
    c.is_left.ensures.value
    ∙ ap (λ v. leave c.args.self.now.result (Some v)) here.1
    ∙ ap (leave c.args.self.now.result) (ap (λ es. behind (context c.args.self.now) es (Some c.events.blocks)) (sym here.0) ∙ c.events.invariant)
    ∙ body_typed (context c.args.self.now) c.args.body.now
