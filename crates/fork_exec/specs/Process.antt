-- A process: one memory, its guest threads by their numbers, and the program that it runs.
use Rattle.std.specs.Prelude.{ℕ, ◌-◌, List, Option}
use Rattle.std.specs.Ordering.{nat_cmp}
use Rattle.std.specs.FinMap.{FinMap}
use Rattle.guest_state.specs.GuestThread.{GuestThread}
use Rattle.instance.specs.Program.{Program}
use Rattle.linear_memory.specs.LinearMemory.{LinearMemory}

pub record Process : Type 0 where
  pub memory : LinearMemory
  pub threads : FinMap nat_cmp GuestThread
  pub program : Program
  pub arguments : List (List ℕ)
  pub environment : List (List ℕ)
  -- the index of the function that handles signals, where one was named
  pub handler : Option ℕ
  -- the steps that it may run in all, and those that it has run
  pub fuel : ℕ
  pub used : ℕ

abbrev pub fuel_left : Process → ℕ
fuel_left process = process.fuel - process.used
