use Rattle.std.proofs.Common.{◌<◌, ◌+◌, ◌++◌, length, take, List, ℕ, Some, refl, arith, sym, subst, ap, ◌∙◌}
use Rattle.wx_types.specs.Outside.{GrewByFront}
use Rattle.wasix_run.specs.Printed.{printed}
use Rattle.wasix_run.proofs.Printing.{printed_more, told_more, front_more, none_within}
use Rattle.wasix_run.proofs.print.print.Goals as goal

pub unreachable-requires : goal.unreachable-requires
unreachable-requires g c =
    let lt : c.loop-index.index < length c.args.journal.now = omega (arith, c.loop-index.invariant.within) in
    none_within c.args.journal.now c.loop-index.index lt c.in_default.ensures

pub returns-in-Err-clause-front : goal.returns-in-Err-clause-front
returns-in-Err-clause-front g c =
    let lt : c.loop-index.index < length c.args.journal.now = omega (arith, c.loop-index.invariant.within) in
    front_more c.args.stream c.args.journal.now c.loop-index.index (Some c.in-Some.entry.now) c.in-Some.entry.now
    (g.S.Sink.taken c.args.sink.now) (g.S.Sink.taken c.loop-index.sink) (g.S.Sink.taken c.write_whole.new.sink) lt c.in-Some.ensures refl c.loop-index.invariant.so_far
    (subst (λ (bs : List ℕ). GrewByFront (g.S.Sink.taken c.loop-index.sink) (g.S.Sink.taken c.write_whole.new.sink) bs) c.piece_of.ensures c.in-Err.ensures.front)

pub loop-index-preserved : goal.loop-index-preserved
loop-index-preserved g c =
    let lt : c.loop-index.index < length c.args.journal.now = omega (arith, c.loop-index.invariant.within) in
    record {
      within = c.loop-index.invariant.within;
      same = c.in-Ok.ensures.no_fault ∙ c.loop-index.invariant.same;
      so_far = told_more (g.S.Sink.taken c.args.sink.now) (g.S.Sink.taken c.loop-index.sink) (g.S.Sink.taken c.write_whole.new.sink)
          (printed c.args.stream (take c.loop-index.index c.args.journal.now)) c.piece_of.result.now (printed c.args.stream (take (c.loop-index.index + 1) c.args.journal.now))
          c.loop-index.invariant.so_far c.in-Ok.ensures.whole
          (printed_more c.args.stream c.args.journal.now c.loop-index.index (Some c.in-Some.entry.now) c.in-Some.entry.now lt c.in-Some.ensures refl ∙ ap (λ (bs : List ℕ). printed c.args.stream (take c.loop-index.index c.args.journal.now) ++ bs) (sym c.piece_of.ensures));
    }
