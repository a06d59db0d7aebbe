-- How a process ended (POSIX.1-2017, `wait`): with an exit status, or by a signal.
use Rattle.std.specs.Prelude.{ℕ}

pub data End : Type 0 where
  Exited : (code : ℕ) → End
  Killed : (signal : ℕ) → End
