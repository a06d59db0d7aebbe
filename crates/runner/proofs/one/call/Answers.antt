use Rattle.std.proofs.Common.{◌≡◌, List, ℕ, Some, sym, ap, subst, ◌∙◌, refl, arith}
use Rattle.std.specs.Prelude.{option_map}
use Rattle.guest_state.specs.Fits.{HaveTypes}
use Rattle.guest_state.specs.Module.{param_count}
use Rattle.guest_state.specs.Snapshot.{thread_of}
use Rattle.guest_state.specs.Steps.{arguments_of}
use Rattle.instance.specs.Calls.{call_numbered, i32s, type_of_call}
use Rattle.wasm_ast.specs.Table.{function_type}
use Rattle.wasm_ast.specs.declared.module.Module.{Module}
use Rattle.wasm_steps.specs.Kept.{IsMemory}
use Rattle.wasm_steps.proofs.Kept.{at_import}
use Rattle.runner.proofs.Slices.{awaits_call}
use Rattle.runner.proofs.OneThreadLeads.{as_leads, built_exit, exit_leads, write_leads}
use Rattle.runner.proofs.one.call.Goals as goal

pub arguments-requires : goal.arguments-requires
arguments-requires c =
    let m = c.args.program.now.module in
    let is = c.module-module.ensures.value ∙ c.valid-valid.ensures.value in
    let memory : IsMemory c.args.memory.now = record { bytes = c.size-pages.ensures.bytes; pages = omega (arith, c.size-pages.ensures.value, c.size-pages.ensures.most) } in
    let type = subst (λ k. function_type m c.args.import ≡ option_map type_of_call (call_numbered k)) (built_exit c.in-Some.field-0 c.in-Some.ensures.built c.in-Some.field-0-test.1) c.in-Some.ensures.its_type in
    let at = awaits_call m c.module-module.result.now c.args.memory.now c.args.thread.now c.args.import _ is c.module-module.ensures.typed memory c.requires.fits c.requires.stands type in
    record { some = at.0; stands = at.1.enough }

pub exit_code-code-requires : goal.exit_code-code-requires
exit_code-code-requires c =
    let m = c.args.program.now.module in
    let is = c.module-module.ensures.value ∙ c.valid-valid.ensures.value in
    let memory : IsMemory c.args.memory.now = record { bytes = c.size-pages.ensures.bytes; pages = omega (arith, c.size-pages.ensures.value, c.size-pages.ensures.most) } in
    let type = subst (λ k. function_type m c.args.import ≡ option_map type_of_call (call_numbered k)) (built_exit c.in-Some.field-0 c.in-Some.ensures.built c.in-Some.field-0-test.1) c.in-Some.ensures.its_type in
    let at = awaits_call m c.module-module.result.now c.args.memory.now c.args.thread.now c.args.import _ is c.module-module.ensures.typed memory c.requires.fits c.requires.stands type in
    subst (λ (vs : List ℕ). HaveTypes (i32s 1) vs) (sym c.arguments.ensures) at.1.arguments

pub unreachable-requires : goal.unreachable-requires
unreachable-requires c =
    let m = c.args.program.now.module in
    let is = c.module-module.ensures.value ∙ c.valid-valid.ensures.value in
    let memory : IsMemory c.args.memory.now = record { bytes = c.size-pages.ensures.bytes; pages = omega (arith, c.size-pages.ensures.value, c.size-pages.ensures.most) } in
    let at = at_import m c.args.memory.now (thread_of m c.args.thread.now) c.args.import (rw is at c.module-module.ensures.typed) memory c.requires.fits c.requires.stands in
    let known = c.in-None.ensures.known at.imported in
    cc

pub returns-in_ok-written-in-Some-eq17-clause-leads : goal.returns-in_ok-written-in-Some-eq17-clause-leads
returns-in_ok-written-in-Some-eq17-clause-leads c = λ world first before slice left most stands its_most ran.
    let program = c.args.program.now in
    let m = program.module in
    let t = thread_of m c.args.thread.now in
    let type = subst (λ k. function_type m c.args.import ≡ option_map type_of_call (call_numbered k)) c.in-Some-eq17.field-0-test c.in-Some-eq17.ensures.its_type in
    let known = sym c.call_of.ensures.value ∙ c.in-Some-eq17.is ∙ ap Some c.in-Some-eq17.field-0-test in
    let four = ap param_count type in
    as_leads world program _ _ _ _ slice _ _ _ _ _ c.in_ok-written-in-Some-eq17.ensures.memory c.in_ok-written-in-Some-eq17.ensures.thread c.in_ok-written-in-Some-eq17.ensures.entry c.in_ok-written-in-Some-eq17.ensures.ended
    (write_leads world program first before slice left stands most c.args.ran c.args.memory.now t its_most c.args.import (arguments_of t 4) ran c.requires.stands known (ap (arguments_of t) (sym four)) four)

pub returns-in-Some-clause-leads : goal.returns-in-Some-clause-leads
returns-in-Some-clause-leads c = λ world first before slice left most stands its_most ran.
    let program = c.args.program.now in
    let m = program.module in
    let s = c.args.thread.now in
    let t = thread_of m s in
    let is = c.module-module.ensures.value ∙ c.valid-valid.ensures.value in
    let exit = built_exit c.in-Some.field-0 c.in-Some.ensures.built c.in-Some.field-0-test.1 in
    let type = subst (λ k. function_type m c.args.import ≡ option_map type_of_call (call_numbered k)) exit c.in-Some.ensures.its_type in
    let known = sym c.call_of.ensures.value ∙ c.in-Some.is ∙ ap Some exit in
    let arguments = c.exit_code-code.ensures ∙ c.arguments.ensures ∙ ap (λ (x : Module). arguments_of (thread_of x s) 1) is ∙ ap (arguments_of t) (sym (ap param_count type)) in
    as_leads world program _ _ _ _ slice _ _ _ _ _ refl refl c.end_turn.ensures.entry c.end_turn.ensures.ended
    (exit_leads world program first before slice left stands most c.args.ran c.args.memory.now t its_most c.args.import c.exit_code-code.result ran c.requires.stands known arguments)
