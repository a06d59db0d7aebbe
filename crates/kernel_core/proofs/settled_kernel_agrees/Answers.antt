use Rattle.kernel_core.proofs.AgreementSettling.{settles_agreed}
use Rattle.kernel_core.proofs.settled_kernel_agrees.Goals as goal

pub returns : goal.returns
returns c = settles_agreed
