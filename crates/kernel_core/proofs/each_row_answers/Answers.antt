use Rattle.kernel_core.proofs.AgreementAnswers.{answers_all}
use Rattle.kernel_core.proofs.each_row_answers.Goals as goal

pub returns : goal.returns
returns c = answers_all
