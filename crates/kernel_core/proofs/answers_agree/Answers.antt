use Rattle.kernel_core.proofs.AgreementAnswers.{answers_agreed}
use Rattle.kernel_core.proofs.answers_agree.Goals as goal

pub returns : goal.returns
returns c = answers_agreed
