use Rattle.std.proofs.Common.{◌≡◌, ◌+◌, ◌≤◌, true, length, refl, ◌∙◌, arith}
use Rattle.std.proofs.lemmas.Bool.Decides.{nat_tests}
use Rattle.wasix_abi.specs.Buffers.{all_within, total_len}
use Rattle.wasix_abi.proofs.Steps.{left_from, left_from-start, left_from-end, within_next, not_within, total_next}
use Rattle.wasix_abi.proofs.buffers.total_len.Goals as goal

pub loop-i-init : goal.loop-i-init
loop-i-init c =
    let start = left_from-start c.args.memory.now.bytes c.args.list c.args.n in
    record { within = rw start refl; sum = rw start (omega arith); bound = omega arith }

pub returns-then-not-holds : goal.returns-then-not-holds
returns-then-not-holds c =
    c.loop-i.invariant.within
    ∙ not_within c.args.memory.now.bytes c.args.list c.args.n c.loop-i.i c.loop-i-test.true (grind (arith, nat_tests, c.word_at-address.ensures.value, c.word_at-len.ensures.value))

pub loop-i-preserved : goal.loop-i-preserved
loop-i-preserved c =
    let memory = c.args.memory.now.bytes in
    let address = c.word_at-address.ensures.value in
    let len = c.word_at-len.ensures.value in
    let within : c.word_at-address.result + c.word_at-len.result ≤ length memory = grind (arith, nat_tests) in
    record {
      within = c.loop-i.invariant.within ∙ within_next memory c.args.list c.args.n c.loop-i.i c.loop-i-test.true (omega (arith, address, len, within));
      sum = omega (arith, len, c.loop-i.invariant.sum, total_next memory c.args.list c.args.n c.loop-i.i c.loop-i-test.true);
      bound = omega (arith, c.loop-i.invariant.bound, c.word_at-len.ensures.fits);
    }

pub returns : goal.returns
returns c =
    let all : c.loop-i.i ≡ c.args.n = omega arith in
    let none = left_from-end c.args.memory.now.bytes c.args.list c.args.n in
    let within : all_within c.args.memory.now.bytes (left_from c.args.memory.now.bytes c.args.list c.args.n c.loop-i.i) ≡ true = rw (all, none) refl in
    let sum : total_len (left_from c.args.memory.now.bytes c.args.list c.args.n c.loop-i.i) ≡ 0 = rw (all, none) refl in
    (c.loop-i.invariant.within ∙ within, omega (arith, sum, c.loop-i.invariant.sum))
