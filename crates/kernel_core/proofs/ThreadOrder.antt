-- Threads are ordered by process and by number in it.
use Rattle.std.specs.Ordering.{nat_cmp}
use Rattle.std.specs.Cmp.{IsTotalOrder}
use Rattle.std.proofs.lemmas.Cmp.{nat_cmp_total, on_total, then_total}
use Rattle.std.specs.FinMap.{IsAntisymmetric}
use Rattle.std.proofs.lemmas.Map.Lookups.{exact_pairs, exact_unsigned}
use Rattle.kernel_core.specs.Threads.{ThreadId, thread_cmp}

pub thread_cmp_total : IsTotalOrder thread_cmp
thread_cmp_total = then_total (on_total (λ (t : ThreadId). t.0) nat_cmp_total) (on_total (λ (t : ThreadId). t.1) nat_cmp_total)

-- threads that compare alike are one
pub thread_cmp_exact : IsAntisymmetric thread_cmp
thread_cmp_exact a b e = exact_pairs nat_cmp nat_cmp exact_unsigned exact_unsigned (a.0, a.1) (b.0, b.1) e
