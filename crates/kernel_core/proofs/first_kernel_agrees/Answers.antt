use Rattle.kernel_core.proofs.AgreementBeginning.{begins_agreed}
use Rattle.kernel_core.proofs.first_kernel_agrees.Goals as goal

pub returns : goal.returns
returns c = begins_agreed
