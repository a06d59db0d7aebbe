use Rattle.std.proofs.Common.{◌≡◌, length, drop, arith}
use Rattle.guest_state.proofs.SnapshotLemmas.{taken_count_is}
use Rattle.guest_state.proofs.thread.Thread.below_arguments.Goals as goal

pub returns-clause-value : goal.returns-clause-value
returns-clause-value c =
    let s = c.args.self.now in
    let taken = taken_count_is c.args.module.now s c.innermost.result (drop 1 s.frames) c.innermost.ensures c.args.count in
    let size : c.len.result ≡ length s.values = rw (← c.self.view_is) c.len.ensures.value in
    omega (arith, taken, size, c.over_arguments-over.ensures)
