use Rattle.std.proofs.Common.{◌≡◌, ℕ, ◌-◌, ◌≤◌, [], length, refl, sym, ap, ◌∙◌, arith}
use Rattle.wasm_ast.specs.TypingModule.{functions_of}
use Rattle.guest_state.specs.GuestThread.{GuestThread}
use Rattle.guest_state.specs.Module.{further_locals}
use Rattle.guest_state.specs.Snapshot.{thread_at}
use Rattle.guest_state.specs.Steps.{has_room, with_operands}
use Rattle.interp.specs.Reached.{first_place}
use Rattle.interp.specs.Stops.{stop_of}
use Rattle.interp.proofs.CallLemmas.{arguments_there, call_known, called_marks, called_room, own_full, own_goes, removed_operands}
use Rattle.interp.proofs.ControlLemmas.{has_first}
use Rattle.interp.proofs.RowLemmas.{any_place, keeps_by}
use Rattle.interp.proofs.call.call.Goals as goal

pub returns-then-not-call_fits : goal.returns-then-not-call_fits
returns-then-not-call_fits c memory place =
    let m = c.args.valid.now in
    let s = c.args.thread.now in
    let x = c.args.function in
    let over = c.args.over in
    let known = call_known m x over s c.requires.frames c.requires.moves in
    let number : x - c.imported_functions-imported.result ≡ x - length (functions_of m.imports) = ap (λ (k : ℕ). x - k) c.imported_functions-imported.ensures in
    let own : length (functions_of m.imports) ≤ x = rw c.imported_functions-imported.ensures at c.if-function-imported.false in
    let head = has_first m place s c.requires.frames in
    let full = rw c.module-module.ensures.value at (c.if-not-call_fits.ensures place) in
    record {
      step = ap stop_of (own_full m place s head.0 head.1 head.2 memory c.args.behind x over (x - c.imported_functions-imported.result) known.0 known.1 known.2 own number (sym full));
      keeps = (refl, refl);
    }

pub call-requires-clause-enough : goal.call-requires-clause-enough
call-requires-clause-enough c =
    let m = c.args.valid.now in
    let s = c.args.thread.now in
    let x = c.args.function in
    let over = c.args.over in
    let known = call_known m x over s c.requires.frames c.requires.moves in
    let number : x - c.imported_functions-imported.result ≡ x - length (functions_of m.imports) = ap (λ (k : ℕ). x - k) c.imported_functions-imported.ensures in
    let own : length (functions_of m.imports) ≤ x = rw c.imported_functions-imported.ensures at c.if-function-imported.false in
    let removed = removed_operands m any_place over s c.drop_operands.new.self c.requires.frames (c.drop_operands.ensures.value m any_place) in
    let there = arguments_there m x (x - c.imported_functions-imported.result) known.0 known.1 own number in
    let size = ap length removed in
    let few = known.2 in
    rw c.module-module.ensures.value (omega (arith, there, size, few))

pub returns-in-Ok : goal.returns-in-Ok
returns-in-Ok c memory place =
    let m = c.args.valid.now in
    let s = c.args.thread.now in
    let x = c.args.function in
    let over = c.args.over in
    let known = call_known m x over s c.requires.frames c.requires.moves in
    let number : x - c.imported_functions-imported.result ≡ x - length (functions_of m.imports) = ap (λ (k : ℕ). x - k) c.imported_functions-imported.ensures in
    let own : length (functions_of m.imports) ≤ x = rw c.imported_functions-imported.ensures at c.if-function-imported.false in
    let mid = c.drop_operands.new.self in
    let new = c.call.new.self in
    let head = has_first m place s c.requires.frames in
    let removed = c.drop_operands.ensures.value m c.args.behind in
    let kept = keeps_by m c.args.behind (with_operands over []) s mid (λ f. refl) c.drop_operands.ensures.frames removed in
    let goes = rw c.module-module.ensures.value at c.in-Ok.ensures.ok in
    let marks = called_marks m (x - c.imported_functions-imported.result) (thread_at m c.args.behind mid) (thread_at m first_place new) goes in
    record {
      step = own_goes m place s head.0 head.1 head.2 memory c.args.behind x over (x - c.imported_functions-imported.result) known.0 mid new known.1 known.2 own number removed goes;
      keeps = (omega (arith, c.in-Ok.ensures.frames), record { main = marks.0 ∙ kept.main; full = marks.1 ∙ kept.full });
    }

pub returns-in-Err : goal.returns-in-Err
returns-in-Err c memory place =
    let m = c.args.valid.now in
    let s = c.args.thread.now in
    let n = c.args.function - c.imported_functions-imported.result in
    let behind = c.args.behind in
    let fits = rw c.module-module.ensures.value at (c.if-not-call_fits.ensures behind) in
    let trap = rw c.module-module.ensures.value at c.in-Err.ensures.err in
    let room = ap (λ (t : GuestThread). has_room t (further_locals m n)) (c.drop_operands.ensures.value m behind) ∙ sym fits in
    absurd (called_room m n (thread_at m behind c.drop_operands.new.self) c.in-Err.cause room trap)
