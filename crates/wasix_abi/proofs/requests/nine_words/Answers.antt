use Rattle.std.proofs.Common.{◌≡◌, length, arith}
use Rattle.wasix_abi.proofs.Words.{all_words}
use Rattle.wasix_abi.proofs.requests.nine_words.Goals as goal

pub returns : goal.returns
returns c =
    let all : c.loop-i.i ≡ length c.args.arguments.now = omega arith in
    rw (c.loop-i.invariant, all) (all_words c.args.arguments.now c.requires)
