use Rattle.std.proofs.Common.{◌≤◌, ◌-◌, sym, subst, ◌∙◌, arith}
use Rattle.std.proofs.lemmas.Bool.{eq-eqb, ne_eqb}
use Rattle.guest_state.specs.Snapshot.{thread_of}
use Rattle.runner.specs.OneThread.{LeadsOn, reply_entry}
use Rattle.runner.proofs.OneThreadLeads.{as_turn, fuel_leads, return_leads, spent_leads, trap_leads}
use Rattle.runner.proofs.one.take_turn.Goals as goal

pub returns-then-ran-left-clause-leads : goal.returns-then-ran-left-clause-leads
returns-then-ran-left-clause-leads c = λ world stands.
    let program = c.args.program.now in
    let m = program.module in
    let ran = rw c.in-Spent.is at c.in_ok-ran.ensures.ran in
    let none = eq-eqb (c.args.left - c.in_ok-ran.field-0.ran) 0 (omega (arith, c.if-ran-left.true)) in
    as_turn world program c.run_slice.new.memory (thread_of m c.run_slice.new.thread) c.args.slice c.args.left _ _ _ _ c.end_turn.ensures.entry c.end_turn.ensures.ended
    (fuel_leads world program c.args.memory.now (thread_of m c.args.thread.now) c.args.slice c.args.left stands c.min-most.result c.in_ok-ran.field-0.ran c.run_slice.new.memory (thread_of m c.run_slice.new.thread) c.min-most.ensures ran none)

pub returns-else-ran-left-clause-leads : goal.returns-else-ran-left-clause-leads
returns-else-ran-left-clause-leads c = λ world stands.
    let program = c.args.program.now in
    let m = program.module in
    let n = c.in_ok-ran.field-0.ran in
    let ran = rw c.in-Spent.is at c.in_ok-ran.ensures.ran in
    let within : n ≤ c.args.left = omega (arith, ran.within, c.min-most.ensures) in
    let some = ne_eqb (c.args.left - n) 0 (λ e. c.if-ran-left.false (omega (arith, e, within))) in
    let entry = c.reply_turn.ensures.entry ∙ (λ i. reply_entry n 1 (record { errno = c.bare.ensures.errno i; bytes = c.bare.ensures.bytes i; place = c.bare.ensures.place i })) in
    as_turn world program c.run_slice.new.memory (thread_of m c.run_slice.new.thread) c.args.slice c.args.left _ _ _ _ entry c.reply_turn.ensures.ended
    (spent_leads world program c.args.memory.now (thread_of m c.args.thread.now) c.args.slice c.args.left stands c.min-most.result n c.run_slice.new.memory (thread_of m c.run_slice.new.thread) c.min-most.ensures ran some)

pub returns-in-Trap-clause-leads : goal.returns-in-Trap-clause-leads
returns-in-Trap-clause-leads c = λ world stands.
    let program = c.args.program.now in
    let m = program.module in
    let ran = rw c.in-Trap.is at c.in_ok-ran.ensures.ran in
    as_turn world program c.run_slice.new.memory (thread_of m c.run_slice.new.thread) c.args.slice c.args.left _ _ _ _ c.end_turn-in-Trap.ensures.entry c.end_turn-in-Trap.ensures.ended
    (trap_leads world program c.args.memory.now (thread_of m c.args.thread.now) c.args.slice c.args.left stands c.min-most.result c.in_ok-ran.field-0.ran c.run_slice.new.memory (thread_of m c.run_slice.new.thread) c.min-most.ensures c.in-Trap.field-0 ran)

pub returns-in-Finished-clause-leads : goal.returns-in-Finished-clause-leads
returns-in-Finished-clause-leads c = λ world stands.
    let program = c.args.program.now in
    let m = program.module in
    let ran = rw c.in-Finished.is at c.in_ok-ran.ensures.ran in
    as_turn world program c.run_slice.new.memory (thread_of m c.run_slice.new.thread) c.args.slice c.args.left _ _ _ _ c.end_turn-in-Finished.ensures.entry c.end_turn-in-Finished.ensures.ended
    (return_leads world program c.args.memory.now (thread_of m c.args.thread.now) c.args.slice c.args.left stands c.min-most.result c.in_ok-ran.field-0.ran c.run_slice.new.memory (thread_of m c.run_slice.new.thread) c.min-most.ensures ran (c.in_ok-ran.ensures.main ∙ c.requires.main))

pub returns-in_ok-called-in-Call-clause-leads : goal.returns-in_ok-called-in-Call-clause-leads
returns-in_ok-called-in-Call-clause-leads c = λ world stands.
    let program = c.args.program.now in
    let m = program.module in
    let ran = rw c.in-Call.is at c.in_ok-ran.ensures.ran in
    let leads = c.in_ok-called-in-Call.ensures.leads world c.args.memory.now (thread_of m c.args.thread.now) c.args.slice c.args.left c.min-most.result stands c.min-most.ensures ran in
    subst (λ n. LeadsOn world program c.call.new.memory (thread_of m c.call.new.thread) c.args.slice (c.args.left - n) c.in_ok-called-in-Call.called.entry c.in_ok-called-in-Call.called.ended) (sym c.in_ok-called-in-Call.ensures.ran) leads
