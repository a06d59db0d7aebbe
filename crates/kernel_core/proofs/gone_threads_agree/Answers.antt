use Rattle.kernel_core.proofs.AgreementAnswers.{gone_agreed}
use Rattle.kernel_core.proofs.gone_threads_agree.Goals as goal

pub returns : goal.returns
returns c = gone_agreed
