use Rattle.std.proofs.Common.{◌+◌, ◌∙◌, None, Some, ap, sym, drop}
use Rattle.wat_asm.specs.Taken.{all_taken}
use Rattle.wat_asm.proofs.TakenLemmas.{turn}
use Rattle.wat_asm.proofs.module.parts_of.Goals as goal

pub returns-in-Err-Name : goal.returns-in-Err-Name
returns-in-Err-Name c =
    sym (turn c.args.bindings.now c.args.fields.now c.loop-field.field-index c.field-item.result c.loop-field.before c.loop-field.module None _ c.loop-field-test.true c.field-item.is c.loop-field.invariant
    (sym c.rebinds.ensures ∙ c.if-rebinds.false) (rw c.in-Err-Name.field-0-is at c.in-Err-Name.ensures))

pub loop-field-preserved : goal.loop-field-preserved
loop-field-preserved c =
    ap (λ s. all_taken c.args.bindings.now s (drop (c.loop-field.field-index + 1) c.args.fields.now) c.take.new.made) c.in_ok-before.ensures
    ∙ turn c.args.bindings.now c.args.fields.now c.loop-field.field-index c.field-item.result c.loop-field.before c.loop-field.module (Some c.take.new.made) _ c.loop-field-test.true c.field-item.is c.loop-field.invariant
    (sym c.rebinds.ensures ∙ c.if-rebinds.false) c.in-Ok.ensures
