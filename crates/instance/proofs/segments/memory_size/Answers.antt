use Rattle.std.proofs.Common.{◌*◌, length, sym, ap, ◌∙◌}
use Rattle.instance.specs.Program.{empty_memory}
use Rattle.instance.proofs.MemoryLemmas.{zero_size}
use Rattle.instance.proofs.segments.memory_size.Goals as goal

pub returns-in-Some : goal.returns-in-Some
returns-in-Some c = ap (λ n. n * 65536) c.from.ensures ∙ sym (zero_size c.in-Some.limits.min) ∙ ap (λ l. length (empty_memory l).bytes) (sym c.in-Some.is ∙ c.memory_limits.ensures)

pub returns-in-None : goal.returns-in-None
returns-in-None c = sym (zero_size 0) ∙ ap (λ l. length (empty_memory l).bytes) (sym c.in-None.is ∙ c.memory_limits.ensures)
