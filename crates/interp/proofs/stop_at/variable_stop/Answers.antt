use Rattle.std.proofs.Common.{◌<◌, get_or, length, sym, ap, ◌∙◌}
use Rattle.std.proofs.lemmas.Option.{slice_get-get_or}
use Rattle.guest_state.specs.Snapshot.{locals_of}
use Rattle.interp.specs.Rows.{left_at}
use Rattle.interp.specs.Stops.{stop_of}
use Rattle.interp.proofs.VariableLemmas.{local_row}
use Rattle.interp.proofs.stop_at.variable_stop.Goals as goal

pub returns-in-LocalGet : goal.returns-in-LocalGet
returns-in-LocalGet c m memory place next =
    let s = c.args.thread.now in
    let x = c.args.index in
    let few : x < length (locals_of s) = rw c.in-LocalGet.is at c.requires.found in
    let value = get_or (locals_of s) x 0 in
    rw c.in-LocalGet.is (c.push_stop.ensures m memory place next value ∙ sym (ap stop_of (local_row m memory place (left_at m next s) s x value c.requires.frames (slice_get-get_or (locals_of s) x 0 few))))

pub returns-in-GlobalGet : goal.returns-in-GlobalGet
returns-in-GlobalGet c m memory place next =
    let s = c.args.thread.now in
    let x = c.args.index in
    let few : x < length s.globals = rw c.in-GlobalGet.is at c.requires.found in
    rw (c.in-GlobalGet.is, slice_get-get_or s.globals x 0 few) (c.push_stop-in-GlobalGet.ensures m memory place next (get_or s.globals x 0))
