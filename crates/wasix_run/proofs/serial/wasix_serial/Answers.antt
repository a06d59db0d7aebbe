use Rattle.std.proofs.Common.{◌++◌, List, map, string_bytes, sym, subst}
use Rattle.wx_types.specs.Outside.{Rose}
use Rattle.wx_types.specs.declared.entries.Entry.{Entry}
use Rattle.wasix_run.specs.declared.reason.Reason.{Reason}
use Rattle.wasix_run.specs.declared.print.Stream.TheVariants.{Errors}
use Rattle.wasix_run.specs.Printed.{printed}
use Rattle.wasix_run.specs.Serves.{Serves, IsToldAs}
use Rattle.wasix_run.specs.Outside.{Took, IsText}
use Rattle.wasix_run.proofs.Serving.{by_cause, by_left, by_begun, by_journal, without_boot, wrote_told}
use Rattle.wasix_run.proofs.serial.wasix_serial.Goals as goal

pub returns-clause-cause : goal.returns-clause-cause
returns-clause-cause g c =
    let serves = subst (λ (es : List Entry). Serves (map string_bytes c.args.words.now) (g.H.Shelf.held c.args.shelf.now) c.serve-reason.result.reason es) (sym c.make_ended.ensures.journal) c.serve-reason.ensures.serves in
    let said = subst (λ (r : Reason). IsToldAs c.serve-reason.result.reason r) (sym c.make_ended.ensures.reason) c.report-reason.ensures.told in
    by_cause (map string_bytes c.args.words.now) (g.H.Shelf.held c.args.shelf.now) c.make_ended.result.journal c.serve-reason.result.reason c.make_ended.result.reason serves said

pub returns-clause-journal : goal.returns-clause-journal
returns-clause-journal g c =
    let serves = subst (λ (es : List Entry). Serves (map string_bytes c.args.words.now) (g.H.Shelf.held c.args.shelf.now) c.serve-reason.result.reason es) (sym c.make_ended.ensures.journal) c.serve-reason.ensures.serves in
    let said = subst (λ (r : Reason). IsToldAs c.serve-reason.result.reason r) (sym c.make_ended.ensures.reason) c.report-reason.ensures.told in
    by_journal (map string_bytes c.args.words.now) (g.H.Shelf.held c.args.shelf.now) c.make_ended.result.journal c.serve-reason.result.reason c.make_ended.result.reason serves said c.runs_are_journals.ensures c.one_file_is_there.ensures

pub returns-clause-no_boot : goal.returns-clause-no_boot
returns-clause-no_boot g c =
    let serves = subst (λ (es : List Entry). Serves (map string_bytes c.args.words.now) (g.H.Shelf.held c.args.shelf.now) c.serve-reason.result.reason es) (sym c.make_ended.ensures.journal) c.serve-reason.ensures.serves in
    let said = subst (λ (r : Reason). IsToldAs c.serve-reason.result.reason r) (sym c.make_ended.ensures.reason) c.report-reason.ensures.told in
    without_boot (map string_bytes c.args.words.now) (g.H.Shelf.held c.args.shelf.now) c.make_ended.result.journal c.serve-reason.result.reason c.make_ended.result.reason serves said

pub returns-clause-ends : goal.returns-clause-ends
returns-clause-ends g c =
    let serves = subst (λ (es : List Entry). Serves (map string_bytes c.args.words.now) (g.H.Shelf.held c.args.shelf.now) c.serve-reason.result.reason es) (sym c.make_ended.ensures.journal) c.serve-reason.ensures.serves in
    let said = subst (λ (r : Reason). IsToldAs c.serve-reason.result.reason r) (sym c.make_ended.ensures.reason) c.report-reason.ensures.told in
    by_left (map string_bytes c.args.words.now) (g.H.Shelf.held c.args.shelf.now) c.make_ended.result.journal c.serve-reason.result.reason c.make_ended.result.reason serves said

pub returns-clause-begun : goal.returns-clause-begun
returns-clause-begun g c =
    let serves = subst (λ (es : List Entry). Serves (map string_bytes c.args.words.now) (g.H.Shelf.held c.args.shelf.now) c.serve-reason.result.reason es) (sym c.make_ended.ensures.journal) c.serve-reason.ensures.serves in
    let said = subst (λ (r : Reason). IsToldAs c.serve-reason.result.reason r) (sym c.make_ended.ensures.reason) c.report-reason.ensures.told in
    by_begun (map string_bytes c.args.words.now) (g.H.Shelf.held c.args.shelf.now) c.make_ended.result.journal c.serve-reason.result.reason c.make_ended.result.reason serves said

pub returns-clause-shelf : goal.returns-clause-shelf
returns-clause-shelf g c =
    wrote_told (map string_bytes c.args.words.now) (g.H.Shelf.held c.args.shelf.now) (g.H.Shelf.held c.serve-reason.new.shelf) (g.H.Shelf.faults c.args.shelf.now) (g.H.Shelf.faults c.serve-reason.new.shelf) c.serve-reason.result.reason c.make_ended.result.reason
    (subst (λ (r : Reason). IsToldAs c.serve-reason.result.reason r) (sym c.make_ended.ensures.reason) c.report-reason.ensures.told) c.serve-reason.ensures.shelf

pub returns-clause-errors : goal.returns-clause-errors
returns-clause-errors g c =
    let said = c.report-reason.ensures.errors in
    let reason = sym c.make_ended.ensures.reason in
    let journal = sym c.make_ended.ensures.journal in
    let out = sym c.make_ended.ensures.out in
    let err = sym c.make_ended.ensures.err in (
      c.serve-reason.result.reason,
      said.0,
      subst (λ now. Took (g.E.Sink.taken c.args.err) (g.E.Sink.taken now) (g.E.Sink.faults c.args.err) (g.E.Sink.faults now) (printed Errors c.make_ended.result.journal ++ said.0)) err
          (subst (λ (es : List Entry). Took (g.E.Sink.taken c.args.err) (g.E.Sink.taken c.report-reason.new.err) (g.E.Sink.faults c.args.err) (g.E.Sink.faults c.report-reason.new.err) (printed Errors es ++ said.0)) journal said.1),
      subst (λ now. IsText c.serve-reason.result.reason c.make_ended.result.reason said.0 (Rose (g.O.Sink.faults c.args.out) (g.O.Sink.faults c.make_ended.result.out)) (Rose (g.E.Sink.faults c.args.err) (g.E.Sink.faults now))) err
          (subst (λ now. IsText c.serve-reason.result.reason c.make_ended.result.reason said.0 (Rose (g.O.Sink.faults c.args.out) (g.O.Sink.faults now)) (Rose (g.E.Sink.faults c.args.err) (g.E.Sink.faults c.report-reason.new.err))) out
          (subst (λ (r : Reason). IsText c.serve-reason.result.reason r said.0 (Rose (g.O.Sink.faults c.args.out) (g.O.Sink.faults c.report-reason.new.out)) (Rose (g.E.Sink.faults c.args.err) (g.E.Sink.faults c.report-reason.new.err))) reason said.2)),
      subst (λ (es : List Entry). Serves (map string_bytes c.args.words.now) (g.H.Shelf.held c.args.shelf.now) c.serve-reason.result.reason es) journal c.serve-reason.ensures.serves,
      c.serve-reason.ensures.counts,
    )
