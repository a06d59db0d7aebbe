-- The memory that a process begins with.
use Rattle.std.proofs.Common.{◌≡◌, ℕ, ◌*◌, length, arith}
use Rattle.std.proofs.lemmas.List.{length-replicate}
use Rattle.linear_memory.specs.LinearMemory.{zero_pages}

pub zero_size : (pages : ℕ) → length (zero_pages pages) ≡ pages * 65536
unfolding zero_pages
zero_size pages = omega (arith, length-replicate {A = ℕ} (65536 * pages) 0)
