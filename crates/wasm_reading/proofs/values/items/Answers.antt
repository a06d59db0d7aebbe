use Rattle.std.proofs.Common.{[], Some, sym, ap, arith}
use Rattle.std.proofs.lemmas.Result.{err_from_is_err_and}
use Rattle.wasm_reading.specs.ReadValues.{with_item}
use Rattle.wasm_reading.proofs.ItemLemmas.{begun_more, begun_cut, begun_all, handed_on}
use Rattle.wasm_reading.proofs.values.items.Goals as goal

pub returns-in_err-read : goal.returns-in_err-read
returns-in_err-read g c =
    let p = err_from_is_err_and c.from_residual.result c.from_residual.ensures.1 in
    rw (p.1, p.2) (handed_on c.in_err-read.field-0.0 _ _ c.in_err-read.ensures
    (begun_cut with_item g.T.Read.read_at c.args.n [] c.args.cursor.now c.loop.counter _ _ c.loop.invariant c.loop-test.true))

pub loop-preserved : goal.loop-preserved
loop-preserved g c = begun_more with_item g.T.Read.read_at c.args.n [] c.args.cursor.now c.loop.counter _ _ _ _ _ c.loop.invariant c.in_ok-read.ensures (ap Some (sym c.in_ok-push.ensures.items))

pub returns : goal.returns
returns g c = begun_all with_item g.T.Read.read_at c.args.n [] c.args.cursor.now c.loop.counter _ _ c.loop.invariant (omega arith)
