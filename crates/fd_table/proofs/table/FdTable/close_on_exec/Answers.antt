use Rattle.std.proofs.Common.{◌≡◌, ◌∙◌, ℕ, sym, ap, arith, List, [], ◌∷◌, ◌++◌, length, Option, Some, None, append-nil}
use Rattle.std.specs.Option.{option_to_list}
use Rattle.std.specs.FinMap.{remove}
use Rattle.fd_table.specs.Table.{Table, marked_id, marked_below, without_marked_below}
use Rattle.fd_table.proofs.ExecLemmas.{marked_below-zero, marked_below-more, length-marked_below, without_marked_below-zero, marked_id-without_marked_below, without_marked_below-marked, without_marked_below-unmarked}
use Rattle.fd_table.proofs.table.FdTable.close_on_exec.Goals as goal
use Rattle.fd_table.proofs.table.FdTable.close_on_exec.Goals.{in-Some, in_default}

pub loop-fd-init : goal.loop-fd-init
loop-fd-init c = record {
  dropped = c.new-dropped.ensures ∙ sym (marked_below-zero _);
  table = sym (without_marked_below-zero _);
}

pub push-requires : goal.push-requires
push-requires c = omega (arith, c.loop-fd-test.true, ap length c.loop-fd.invariant.dropped, length-marked_below c.args.self.now c.loop-fd.fd)

-- the number's entry at the start of an iteration
entry_is : (first table : Table) (n : ℕ) (o : Option ℕ) → table ≡ without_marked_below first n → o ≡ marked_id table n → marked_id first n ≡ o
entry_is first table n o same is =
    sym (marked_id-without_marked_below first n) ∙ ap (λ t. marked_id t n) (sym same) ∙ sym is

pub loop-fd-preserved : goal.loop-fd-preserved
loop-fd-preserved c =
    elim c.match-marked.branch [
      | in-Some w ↦
          let is : marked_id c.args.self.now c.loop-fd.fd ≡ Some w.in-Some.id = entry_is _ _ _ _ c.loop-fd.invariant.table w.in-Some.ensures in
          record {
            dropped = w.dropped-is ∙ w.push.ensures ∙ ap (λ (ids : List ℕ). ids ++ w.in-Some.id ∷ []) c.loop-fd.invariant.dropped
                ∙ ap (λ o. marked_below c.args.self.now c.loop-fd.fd ++ option_to_list o) (sym is) ∙ sym (marked_below-more c.args.self.now c.loop-fd.fd);
            table = w.self-is ∙ w.clear.ensures ∙ ap (λ t. remove t c.loop-fd.fd) c.loop-fd.invariant.table ∙ sym (without_marked_below-marked c.args.self.now c.loop-fd.fd _ is);
          }
      | in_default w ↦
          let is : marked_id c.args.self.now c.loop-fd.fd ≡ None = entry_is _ _ _ _ c.loop-fd.invariant.table w.in_default.ensures in
          record {
            dropped = w.dropped-is ∙ c.loop-fd.invariant.dropped ∙ sym (append-nil _)
                ∙ ap (λ o. marked_below c.args.self.now c.loop-fd.fd ++ option_to_list o) (sym is) ∙ sym (marked_below-more c.args.self.now c.loop-fd.fd);
            table = w.self-is ∙ c.loop-fd.invariant.table ∙ sym (without_marked_below-unmarked c.args.self.now c.loop-fd.fd is);
          }
    ]
