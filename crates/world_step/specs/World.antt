-- The world: the kernel, the processes and the slice.
use Rattle.std.specs.Prelude.{ℕ}
use Rattle.kernel_core.specs.Kernel.{Kernel}
use Rattle.process.specs.Processes.{Processes}

pub record World : Type 0 where
  pub kernel : Kernel
  -- the live processes by their numbers
  pub processes : Processes
  -- the steps of one slice at most
  pub slice : ℕ
