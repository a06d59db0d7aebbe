-- the log has one more file at the new spot
use Rattle.std.proofs.Common.{◌≡◌, arith, length}
use Rattle.wx_types.proofs.LogLemmas.{files_at-push}
use Rattle.wx_types.proofs.memory_shelf.append.Goals as goal

pub returns-clause-files : goal.returns-clause-files
returns-clause-files c =
    let named = rw c.if-is_err.ensures.negation at c.extend_from_slice.ensures.items in
    let filled = rw c.if-is_err-2.ensures.negation at c.extend_from_slice-2.ensures.items in
    let pushed = rw c.if-is_err-3.ensures.negation at c.push.ensures.items in
    let start : c.len-start.result ≡ length c.args.log.now.items = omega (arith, c.args.log.now.ok) in
    rw (pushed, filled, named) (files_at-push _ _ _ _ _ start (omega arith) (omega arith) c.requires.within)
