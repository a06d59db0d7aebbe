use Rattle.std.proofs.Common.{[], sym, subst}
use Rattle.wat_forms.specs.Fields.{fields_of}
use Rattle.wat_syntax.specs.SeenFields.{SeesFields}
use Rattle.wat_asm.specs.Assembled.{if_formed}
use Rattle.wat_asm.specs.Answers.{Answers}
use Rattle.wat_asm.proofs.assembler.module_of_groups.Goals as goal

pub returns-in-Ok : goal.returns-in-Ok
returns-in-Ok c groups g =
    let r = c.in-Ok.ensures groups g in
    let sees = subst (λ read. SeesFields read r.0) (sym c.as_slice.ensures.value) r.2 in
    subst (λ fs. Answers (if_formed fs) c.module_of_fields.result) (sym r.1) (c.module_of_fields.ensures r.0 sees)

pub returns-in-Err : goal.returns-in-Err
returns-in-Err c groups g = c.formless.ensures (fields_of [] groups) (c.in-Err.ensures groups g)
