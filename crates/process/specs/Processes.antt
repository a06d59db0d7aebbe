-- The live processes after a turn of one of them.
use Rattle.std.specs.Prelude.{ℕ, Bool, Option, Some, None, option_map}
use Rattle.std.specs.Ordering.{nat_cmp}
use Rattle.std.specs.FinMap.{FinMap, insert, retain_keys}
use Rattle.fork_exec.specs.Process.{Process}
use Rattle.kernel_ask.specs.Answer.{Answer}
use Rattle.process.specs.Apply.{apply, made}
use Rattle.wx_types.specs.declared.requests.Request.{Request}

-- processes by their numbers
abbrev pub Processes : Type 0
Processes = FinMap nat_cmp Process

abbrev pub with_made : Processes → Option (ℕ × Process) → Processes
with_made processes None = processes
with_made processes (Some new) = insert processes new.0 new.1

-- The caller as the answer leaves it, the process that the answer makes, and of all these the ones that live on. None is where the
-- caller can take no such answer.
abbrev pub processes_after : Processes → ℕ → ℕ → Process → Request → Answer → (ℕ → Bool) → Option Processes
processes_after processes pid tid stopped request answer lives =
    option_map (λ (own : Process). retain_keys (with_made (insert processes pid own) (made stopped tid request answer)) lives)
    (apply stopped tid request answer)
