use Rattle.std.proofs.Common.{◌≡◌, ◌≤◌, true, arith}
use Rattle.wasm_ast.specs.TypingModule.{is_typed}
use Rattle.linear_memory.specs.LinearMemory.{page_count}
use Rattle.guest_state.specs.Fits.{IsAnsweredBy}
use Rattle.guest_state.specs.GuestThread.{value_count}
use Rattle.guest_state.specs.Snapshot.{thread_of}
use Rattle.wasm_steps.specs.Kept.{IsAnswer, IsMemory}
use Rattle.wasm_steps.specs.Step.{step}
use Rattle.wasm_steps.proofs.Kept.{answer_kept}
use Rattle.step_suite.proofs.TypeLemmas.{taken_more}
use Rattle.step_suite.proofs.answer.answer.Goals as goal

pub answer-requires-clause-room : goal.answer-requires-clause-room
answer-requires-clause-room c =
    let m = c.module-module.result.now in
    let more = taken_more (thread_of m c.args.thread.now) c.in-Some.count in
    let count : c.value_count.result ≡ value_count (thread_of m c.args.thread.now) = c.value_count.ensures.rest m in
    omega (arith, more, count, c.if-not-finds_room.ensures)

pub returns : goal.returns
returns c =
    let m = c.args.valid.now in
    let memory = c.args.memory.now in
    let t = thread_of m c.args.thread.now in
    let pages : page_count memory ≤ 65536 = omega (arith, c.size-pages.ensures.value, c.size-pages.ensures.most) in
    let is : IsMemory memory = record { bytes = c.size-pages.ensures.bytes; pages = pages } in
    let typed : is_typed m ≡ true = rw c.module-module.ensures.value at c.module-module.ensures.typed in
    let answers : IsAnswer m (step m memory t) c.in-Some.count c.args.value = c.in-Some.ensures (step m memory t) c.requires.stands in
    let by : IsAnsweredBy m t c.in-Some.count c.args.value = answer_kept m memory t c.in-Some.count c.args.value typed is c.requires.fits answers in
    (rw c.module-module.ensures.value at c.answer.ensures.fits) by c.requires.fits
