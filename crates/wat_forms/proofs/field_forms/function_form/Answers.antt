use Rattle.std.proofs.Common.{refl}
use Rattle.wat_syntax.specs.Parsed.{FunctionField}
use Rattle.wat_forms.proofs.field_forms.function_form.Goals as goal

pub returns-in-Ok : goal.returns-in-Ok
returns-in-Ok c = (FunctionField c.in-Ok.ensures.0, c.in-Ok.ensures.1, (c.in-Ok.ensures.0, refl, c.in-Ok.ensures.2))
