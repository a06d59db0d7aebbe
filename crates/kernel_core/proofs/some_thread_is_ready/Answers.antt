use Rattle.kernel_core.proofs.Settled.{settled_ready}
use Rattle.kernel_core.proofs.some_thread_is_ready.Goals as goal

pub returns : goal.returns
returns c = settled_ready
