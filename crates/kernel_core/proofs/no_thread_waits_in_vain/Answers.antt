use Rattle.kernel_core.proofs.Settled.{settled_all}
use Rattle.kernel_core.proofs.no_thread_waits_in_vain.Goals as goal

pub returns : goal.returns
returns c = settled_all
