use Rattle.std.proofs.Common.{◌≤◌, vec_len}
use Rattle.wasix_run.proofs.file_shelf.read_within.Given as goal

abbrev pub invariant-loop : goal.invariant-loop
invariant-loop g l = vec_len l.items ≤ l.limit
