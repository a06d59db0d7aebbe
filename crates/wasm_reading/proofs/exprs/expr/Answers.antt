use Rattle.std.proofs.Common.{Some, ◌∙◌, ap, sym}
use Rattle.std.proofs.lemmas.Result.{err_from_is_err_and}
use Rattle.wasm_reading.specs.ReadExpr.{Continue, Complete, step_of}
use Rattle.wasm_reading.proofs.ItemLemmas.{handed_on}
use Rattle.wasm_reading.proofs.Steps.{step_to, step_none, step_shorter}
use Rattle.wasm_reading.proofs.exprs.expr.Goals as goal

pub returns-in_err-next_step : goal.returns-in_err-next_step
returns-in_err-next_step c =
    let p = err_from_is_err_and c.from_residual-in_err-next_step.result c.from_residual-in_err-next_step.ensures.1 in
    rw (p.1, p.2) (handed_on c.in_err-next_step.field-0.0 _ _ c.in_err-next_step.ensures.step (λ h. c.steps.invariant ∙ step_none c.steps.built c.steps.cursor h))

pub returns-then-branch : goal.returns-then-branch
returns-then-branch c =
    let v = c.next_step.new.built in
    let rest = c.next_step.new.cursor in
    c.steps.invariant
    ∙ step_to c.steps.built c.steps.cursor (Complete v.before) rest (c.in_ok-next_step.ensures.step ∙ ap (λ b. Some (step_of b v, rest)) c.if-branch.true)
    ∙ ap (λ s. Some (s, rest)) (sym c.finish.ensures)

pub steps-smaller : goal.steps-smaller
steps-smaller c = step_shorter c.steps.built c.steps.cursor _ c.next_step.new.cursor c.in_ok-next_step.ensures.step

pub steps-preserved : goal.steps-preserved
steps-preserved c =
    let v = c.next_step.new.built in
    let rest = c.next_step.new.cursor in
    c.steps.invariant ∙ step_to c.steps.built c.steps.cursor (Continue v) rest (c.in_ok-next_step.ensures.step ∙ ap (λ b. Some (step_of b v, rest)) c.if-branch.false)
