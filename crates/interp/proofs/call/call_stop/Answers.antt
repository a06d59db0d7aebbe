use Rattle.std.proofs.Common.{◌≡◌, ℕ, ◌-◌, ◌≤◌, length, sym, ap}
use Rattle.wasm_ast.specs.TypingModule.{functions_of}
use Rattle.interp.specs.Stops.{stop_of}
use Rattle.interp.proofs.CallLemmas.{call_known, own_fits, own_full}
use Rattle.interp.proofs.ControlLemmas.{has_first}
use Rattle.interp.proofs.call.call_stop.Goals as goal

pub returns-then-call_fits : goal.returns-then-call_fits
returns-then-call_fits c memory place next =
    let m = c.args.valid.now in
    let s = c.args.thread.now in
    let x = c.args.function in
    let over = c.args.over in
    let known = call_known m x over s c.requires.frames c.requires.moves in
    let number : x - c.imported_functions-imported.result ≡ x - length (functions_of m.imports) = ap (λ (k : ℕ). x - k) c.imported_functions-imported.ensures in
    let own : length (functions_of m.imports) ≤ x = rw c.imported_functions-imported.ensures at c.if-function-imported.false in
    let head = has_first m place s c.requires.frames in
    let fits = rw c.module.ensures.value at (c.if-call_fits.ensures place) in
    sym (own_fits m place s head.0 head.1 head.2 memory next x over (x - c.imported_functions-imported.result) known.0 known.1 known.2 own number (sym fits))

pub returns : goal.returns
returns c memory place next =
    let m = c.args.valid.now in
    let s = c.args.thread.now in
    let x = c.args.function in
    let over = c.args.over in
    let known = call_known m x over s c.requires.frames c.requires.moves in
    let number : x - c.imported_functions-imported.result ≡ x - length (functions_of m.imports) = ap (λ (k : ℕ). x - k) c.imported_functions-imported.ensures in
    let own : length (functions_of m.imports) ≤ x = rw c.imported_functions-imported.ensures at c.if-function-imported.false in
    let head = has_first m place s c.requires.frames in
    let full = rw c.module.ensures.value at (c.if-call_fits.ensures place) in
    sym (ap stop_of (own_full m place s head.0 head.1 head.2 memory next x over (x - c.imported_functions-imported.result) known.0 known.1 known.2 own number (sym full)))
