use Rattle.guest_state.specs.Snapshot.{Snapshot}
use Rattle.guest_state.proofs.LabelLemmas.{label_count_at}
use Rattle.guest_state.proofs.BranchLemmas.{labels_within}
use Rattle.guest_state.proofs.thread.Thread.label_count.Goals as goal

pub returns-clause-value : goal.returns-clause-value
returns-clause-value c m place =
    let t = c.self.inside in
    let s : Snapshot = record { values = t.values.items; labels = t.labels.items; frames = t.frames.items; globals = t.globals.items; main = t.main; full = t.full } in
    rw (← c.self.view_is, label_count_at m place s c.self.invariant.parted) c.len.ensures.value

pub returns-clause-within : goal.returns-clause-within
returns-clause-within c = let t = c.self.inside in rw c.len.ensures.value (labels_within t.values t.labels t.frames t.base c.self.invariant c.len.ensures.within)
