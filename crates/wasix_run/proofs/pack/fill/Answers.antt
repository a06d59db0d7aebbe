use Rattle.std.proofs.Common.{◌≤◌, ℕ, map, sym, subst, ◌∙◌, arith}
use Rattle.std.proofs.lemmas.Option.{get_or_from_slice_get}
use Rattle.pack_list.specs.Answers.{seen}
use Rattle.wasix_run.specs.Loading.{Counts}
use Rattle.wasix_run.specs.Packing.{filled}
use Rattle.wasix_run.proofs.PackLemmas.{file_put, file_unput, all_put}
use Rattle.wasix_run.proofs.pack.fill.Goals as goal

pub returns-in-Err-clause-told : goal.returns-in-Err-clause-told
returns-in-Err-clause-told g c = λ held out e.
    file_unput held out c.args.files.now c.files.index c.named_at-file.result (omega arith) (sym (get_or_from_slice_get c.args.files.now c.files.index c.named_at-file.result c.named_at-file.result c.named_at-file.ensures)) c.files.tree (filled held out c.args.tree (map seen c.args.files.now)) (c.files.invariant.given held out e)
    c.put.new.tree c.in-Err.fault (c.in-Err.ensures.told held (c.files.invariant.kept ∙ e))

pub returns-in-Err-clause-kept : goal.returns-in-Err-clause-kept
returns-in-Err-clause-kept g c = c.in-Err.ensures.kept ∙ c.files.invariant.kept

pub returns-in-Err-clause-never_falls : goal.returns-in-Err-clause-never_falls
returns-in-Err-clause-never_falls g c = subst (λ (n : ℕ). n ≤ g.H.Shelf.faults c.put.new.shelf) c.files.invariant.faults c.in-Err.ensures.never_falls

pub returns-in-Err-clause-fault : goal.returns-in-Err-clause-fault
returns-in-Err-clause-fault g c = subst (λ (n : ℕ). Counts c.in-Err.fault n (g.H.Shelf.faults c.put.new.shelf)) c.files.invariant.faults c.in-Err.ensures.fault

pub files-preserved : goal.files-preserved
files-preserved g c = record {
  given = λ held out e.
      file_put held out c.args.files.now c.files.index c.named_at-file.result (omega arith) (sym (get_or_from_slice_get c.args.files.now c.files.index c.named_at-file.result c.named_at-file.result c.named_at-file.ensures)) c.files.tree (filled held out c.args.tree (map seen c.args.files.now)) (c.files.invariant.given held out e)
      c.put.new.tree (c.in-Ok.ensures.told held (c.files.invariant.kept ∙ e));
  kept = c.in-Ok.ensures.kept ∙ c.files.invariant.kept;
  faults = c.in-Ok.ensures.no_fault ∙ c.files.invariant.faults;
}

pub returns-clause-told : goal.returns-clause-told
returns-clause-told g c = λ held out e.
    all_put held out c.args.files.now c.files.index c.files.tree (filled held out c.args.tree (map seen c.args.files.now)) (omega arith) (c.files.invariant.given held out e)
