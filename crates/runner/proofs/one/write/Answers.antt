use Rattle.std.proofs.Common.{◌<◌, ◌≤◌, ◌^◌, List, ℕ, Some, sym, subst, ◌∙◌, arith}
use Rattle.guest_state.specs.Fits.{HaveTypes, IsAnsweredBy}
use Rattle.guest_state.specs.Snapshot.{thread_of}
use Rattle.guest_state.specs.Steps.{taken_count}
use Rattle.instance.specs.Calls.{i32s}
use Rattle.wasm_steps.specs.Kept.{IsMemory}
use Rattle.runner.proofs.Slices.{awaits_call}
use Rattle.runner.proofs.one.write.Goals as goal

pub arguments-requires : goal.arguments-requires
arguments-requires c =
    let m = c.args.program.now.module in
    let is = c.module-module.ensures.value ∙ c.valid-valid.ensures.value in
    let memory : IsMemory c.args.memory.now = record { bytes = c.size-pages.ensures.bytes; pages = omega (arith, c.size-pages.ensures.value, c.size-pages.ensures.most) } in
    let at = awaits_call m c.module-module.result.now c.args.memory.now c.args.thread.now c.args.import _ is c.module-module.ensures.typed memory c.requires.fits c.requires.stands c.requires.its_type in
    record { some = at.0; stands = at.1.enough }

pub four-arguments-requires : goal.four-arguments-requires
four-arguments-requires c =
    let m = c.args.program.now.module in
    let is = c.module-module.ensures.value ∙ c.valid-valid.ensures.value in
    let memory : IsMemory c.args.memory.now = record { bytes = c.size-pages.ensures.bytes; pages = omega (arith, c.size-pages.ensures.value, c.size-pages.ensures.most) } in
    let at = awaits_call m c.module-module.result.now c.args.memory.now c.args.thread.now c.args.import _ is c.module-module.ensures.typed memory c.requires.fits c.requires.stands c.requires.its_type in
    subst (λ (vs : List ℕ). HaveTypes (i32s 4) vs) (sym c.arguments.ensures) at.1.arguments

pub answer-requires : goal.answer-requires
answer-requires c =
    let m = c.args.program.now.module in
    let is = c.module-module.ensures.value ∙ c.valid-valid.ensures.value in
    let memory : IsMemory c.args.memory.now = record { bytes = c.size-pages.ensures.bytes; pages = omega (arith, c.size-pages.ensures.value, c.size-pages.ensures.most) } in
    let at = awaits_call m c.module-module.result.now c.args.memory.now c.args.thread.now c.args.import _ is c.module-module.ensures.typed memory c.requires.fits c.requires.stands c.requires.its_type in
    let takes : 4 ≤ taken_count (thread_of c.module-module.result.now c.args.thread.now) 4 = at.1.takes in
    record { some = at.0; stands = at.1.enough; room = omega (arith, takes, c.value_count-values.ensures.rest c.module-module.result.now, c.value_count-values.ensures.within) }

pub returns-clause-fits_after : goal.returns-clause-fits_after
returns-clause-fits_after c =
    let m = c.args.program.now.module in
    let is = c.module-module.ensures.value ∙ c.valid-valid.ensures.value in
    let memory : IsMemory c.args.memory.now = record { bytes = c.size-pages.ensures.bytes; pages = omega (arith, c.size-pages.ensures.value, c.size-pages.ensures.most) } in
    let at = awaits_call m c.module-module.result.now c.args.memory.now c.args.thread.now c.args.import _ is c.module-module.ensures.typed memory c.requires.fits c.requires.stands c.requires.its_type in
    let small : c.from.result < 2 ^ 32 = omega (arith, c.from.ensures, c.answer_write-reply.ensures.small) in
    let answered : IsAnsweredBy c.module-module.result.now (thread_of c.module-module.result.now c.args.thread.now) 4 (Some c.from.result) = at.1.answers (Some c.from.result) (small, tt) in
    let after = rw is at (c.answer.ensures.fits answered) in
    after c.requires.fits
