use Rattle.std.proofs.Common.{refl, sym, ap, ◌∙◌, arith, Some}
use Rattle.wasm_ast.specs.Position.{next}
use Rattle.guest_state.specs.Module.{body_of}
use Rattle.guest_state.specs.Snapshot.{thread_at, thread_of}
use Rattle.interp.specs.Reached.{first_place}
use Rattle.interp.proofs.AfterLemmas.{function_there, never_spent, went_on}
use Rattle.interp.proofs.run.advance.Goals as goal
use Rattle.interp.proofs.run.advance.Goals.{in-Behind, in-At, in-Called}

pub next-place-requires : goal.next-place-requires
next-place-requires c = c.in_ok-step.ensures.room c.in-Behind.is

pub body-code-requires-in-Called : goal.body-code-requires-in-Called
body-code-requires-in-Called c =
    let m = c.args.valid.now in
    let inv = c.loop-ran.invariant in
    let s = c.loop-ran.own in
    let place = c.loop-ran.place in
    let typed = rw c.module-module.ensures.value at c.module-module.ensures.typed in
    let reached = rw c.in-Called.is at c.in_ok-step.ensures.reaches in
    let went = went_on c.loop-ran.ran m c.args.memory.now c.loop-ran.memory c.step.new.memory (thread_of m c.args.thread.now) (thread_at m place s) (thread_at m first_place c.step.new.thread) typed inv.bytes inv.fits inv.steps reached.step in
    let there = function_there m first_place c.step.new.thread reached.keeps.0 went.fits in
    rw (c.function-in-Called.ensures, c.module-module.ensures.value) there

pub returns-then-is_finished-2-clause-steps : goal.returns-then-is_finished-2-clause-steps
returns-then-is_finished-2-clause-steps c =
    let m = c.args.valid.now in
    let inv = c.loop-ran.invariant in
    let s = c.loop-ran.own in
    let place = c.loop-ran.place in
    let typed = rw c.module-module.ensures.value at c.module-module.ensures.typed in
    let reached = rw c.in-Returned.is at c.in_ok-step.ensures.reaches in
    let went = went_on c.loop-ran.ran m c.args.memory.now c.loop-ran.memory c.step.new.memory (thread_of m c.args.thread.now) (thread_at m place s) (thread_of m c.step.new.thread) typed inv.bytes inv.fits inv.steps reached.step in
    went.steps

pub returns-then-is_finished-2-clause-fits : goal.returns-then-is_finished-2-clause-fits
returns-then-is_finished-2-clause-fits c =
    let m = c.args.valid.now in
    let inv = c.loop-ran.invariant in
    let s = c.loop-ran.own in
    let place = c.loop-ran.place in
    let typed = rw c.module-module.ensures.value at c.module-module.ensures.typed in
    let reached = rw c.in-Returned.is at c.in_ok-step.ensures.reaches in
    let went = went_on c.loop-ran.ran m c.args.memory.now c.loop-ran.memory c.step.new.memory (thread_of m c.args.thread.now) (thread_at m place s) (thread_of m c.step.new.thread) typed inv.bytes inv.fits inv.steps reached.step in
    went.fits

pub body-code-requires-in-Returned : goal.body-code-requires-in-Returned
body-code-requires-in-Returned c =
    let m = c.args.valid.now in
    let inv = c.loop-ran.invariant in
    let s = c.loop-ran.own in
    let place = c.loop-ran.place in
    let typed = rw c.module-module.ensures.value at c.module-module.ensures.typed in
    let reached = rw c.in-Returned.is at c.in_ok-step.ensures.reaches in
    let went = went_on c.loop-ran.ran m c.args.memory.now c.loop-ran.memory c.step.new.memory (thread_of m c.args.thread.now) (thread_at m place s) (thread_of m c.step.new.thread) typed inv.bytes inv.fits inv.steps reached.step in
    let at = c.place-place-in-Returned.ensures m in
    let there = function_there m c.place-place-in-Returned.result c.step.new.thread c.if-is_finished-2.ensures.runs (rw at went.fits) in
    rw (c.function-in-Returned.ensures, c.module-module.ensures.value) there

pub loop-ran-preserved-in-Returned : goal.loop-ran-preserved-in-Returned
loop-ran-preserved-in-Returned c =
    let m = c.args.valid.now in
    let inv = c.loop-ran.invariant in
    let s = c.loop-ran.own in
    let place = c.loop-ran.place in
    let typed = rw c.module-module.ensures.value at c.module-module.ensures.typed in
    let reached = rw c.in-Returned.is at c.in_ok-step.ensures.reaches in
    let went = went_on c.loop-ran.ran m c.args.memory.now c.loop-ran.memory c.step.new.memory (thread_of m c.args.thread.now) (thread_at m place s) (thread_of m c.step.new.thread) typed inv.bytes inv.fits inv.steps reached.step in
    let at = c.place-place-in-Returned.ensures m in
    record {
      steps = rw at went.steps;
      most = omega arith;
      fits = rw at went.fits;
      bytes = went.bytes;
      frames = c.if-is_finished-2.ensures.runs;
      free = reached.keeps.full ∙ inv.free;
      main = reached.keeps.main ∙ inv.main;
      code = rw (c.body-code-in-Returned.ensures, c.module-module.ensures.value) (ap (body_of m) c.function-in-Returned.ensures);
      list = c.list-list-in-Returned.ensures;
    }

pub returns-in-Stands-clause-spent : goal.returns-in-Stands-clause-spent
returns-in-Stands-clause-spent c spent =
    let reached = rw c.in-Stands.is at c.in_ok-step.ensures.reaches in
    absurd (never_spent _ (reached.step ∙ ap Some spent))

pub loop-ran-preserved : goal.loop-ran-preserved
loop-ran-preserved c =
    let m = c.args.valid.now in
    let inv = c.loop-ran.invariant in
    let s = c.loop-ran.own in
    let place = c.loop-ran.place in
    let typed = rw c.module-module.ensures.value at c.module-module.ensures.typed in
    elim c.match-branch-3.branch [
      | in-Behind w ↦
          let reached = rw w.in-Behind.is at c.in_ok-step.ensures.reaches in
          let went = went_on c.loop-ran.ran m c.args.memory.now c.loop-ran.memory c.step.new.memory (thread_of m c.args.thread.now) (thread_at m place s) (thread_at m (next place) c.step.new.thread) typed inv.bytes inv.fits inv.steps reached.step in
          rw (w.place-is, w.code-is, w.list-is, w.next-place.ensures) (record {
            steps = went.steps;
            most = omega arith;
            fits = went.fits;
            bytes = went.bytes;
            frames = rw reached.keeps.frames inv.frames;
            free = reached.keeps.full ∙ inv.free;
            main = reached.keeps.main ∙ inv.main;
            code = inv.code ∙ ap (body_of m) (sym reached.keeps.function);
            list = inv.list;
          })
      | in-At w ↦
          let reached = rw w.in-At.is at c.in_ok-step.ensures.reaches in
          let went = went_on c.loop-ran.ran m c.args.memory.now c.loop-ran.memory c.step.new.memory (thread_of m c.args.thread.now) (thread_at m place s) (thread_at m w.in-At.to c.step.new.thread) typed inv.bytes inv.fits inv.steps reached.step in
          rw (w.place-is, w.code-is, w.list-is) (record {
            steps = went.steps;
            most = omega arith;
            fits = went.fits;
            bytes = went.bytes;
            frames = rw reached.keeps.frames inv.frames;
            free = reached.keeps.full ∙ inv.free;
            main = reached.keeps.main ∙ inv.main;
            code = inv.code ∙ ap (body_of m) (sym reached.keeps.function);
            list = w.list-list-in-At.ensures;
          })
      | in-Called w ↦
          let reached = rw w.in-Called.is at c.in_ok-step.ensures.reaches in
          let went = went_on c.loop-ran.ran m c.args.memory.now c.loop-ran.memory c.step.new.memory (thread_of m c.args.thread.now) (thread_at m place s) (thread_at m first_place c.step.new.thread) typed inv.bytes inv.fits inv.steps reached.step in
          rw (w.place-is, w.code-is, w.list-is, w.start-place.ensures) (record {
            steps = went.steps;
            most = omega arith;
            fits = went.fits;
            bytes = went.bytes;
            frames = reached.keeps.0;
            free = reached.keeps.1.full ∙ inv.free;
            main = reached.keeps.1.main ∙ inv.main;
            code = w.body-code-in-Called.ensures ∙ (rw (w.function-in-Called.ensures, c.module-module.ensures.value) refl);
            list = w.list-list-in-Called.ensures;
          })
    ]
