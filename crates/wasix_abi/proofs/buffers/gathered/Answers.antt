use Rattle.std.proofs.Common.{◌≡◌, ◌+◌, ◌++◌, take, drop, [], refl, sym, ◌∙◌, arith}
use Rattle.std.proofs.lemmas.Grind.{common_steps}
use Rattle.wasix_abi.specs.Buffers.{gathered}
use Rattle.wasix_abi.proofs.Steps.{left_from, left_from-start, left_from-end, within_next, entry_within, gathered_next}
use Rattle.wasix_abi.proofs.buffers.gathered.Goals as goal

pub loop-i-init : goal.loop-i-init
loop-i-init c =
    let start = left_from-start c.args.memory.now.bytes c.args.list c.args.n in
    record { within = rw start c.requires.buffers_within; joined = rw (c.in_ok-bytes.ensures.items, start) refl }

pub loop-i-preserved : goal.loop-i-preserved
loop-i-preserved c =
    let memory = c.args.memory.now.bytes in
    let entry = entry_within memory c.args.list c.args.n c.loop-i.i c.loop-i-test.true c.loop-i.invariant.within in
    let next : gathered memory (left_from memory c.args.list c.args.n c.loop-i.i) ≡ take c.word_at-len.result (drop c.word_at-address.result memory) ++ gathered memory (left_from memory c.args.list c.args.n (c.loop-i.i + 1)) =
    rw (c.word_at-address.ensures.value, c.word_at-len.ensures.value) (gathered_next memory c.args.list c.args.n c.loop-i.i c.loop-i-test.true) in
    record {
      within = sym (within_next memory c.args.list c.args.n c.loop-i.i c.loop-i-test.true entry) ∙ c.loop-i.invariant.within;
      joined = grind (arith, common_steps, next, c.append_bytes.ensures.copy, c.loop-i.invariant.joined);
    }

pub returns : goal.returns
returns c =
    let all : c.loop-i.i ≡ c.args.n = omega arith in
    let none = left_from-end c.args.memory.now.bytes c.args.list c.args.n in
    let rest : gathered c.args.memory.now.bytes (left_from c.args.memory.now.bytes c.args.list c.args.n c.loop-i.i) ≡ [] = rw (all, none) refl in
    grind (arith, common_steps, rest, c.from_vec.ensures, c.loop-i.invariant.joined)
