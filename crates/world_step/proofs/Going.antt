-- Runs, put together and cut.
use Rattle.std.proofs.Common.{List, [], ◌∷◌, refl, subst}
use Rattle.std.proofs.lemmas.Cmp.{nat_cmp_total}
use Rattle.kernel_core.specs.Threads.{Fresh, Handed}
use Rattle.finite_maps.proofs.Lookups.{get-insert_same}
use Rattle.kernel_core.proofs.ThreadOrder.{thread_cmp_total}
use Rattle.wx_types.specs.declared.entries.Entry.{Entry}
use Rattle.world_step.specs.Boot.{Boot, boot_world, first_process}
use Rattle.world_step.specs.Laws.{RunsBegin, RunsGoOn, RunsAreCut}
use Rattle.world_step.specs.Leads.{Leads, Replies, Turn, Gone}
use Rattle.world_step.specs.Run.{EachReply, Run, RunFrom, RunsTo}
use Rattle.world_step.specs.World.{World}
use Rattle.std.proofs.Common.{inl, inr}

pub begins : RunsBegin
begins boot program = record {
  running = refl;
  there = get-insert_same nat_cmp_total _ 1 (first_process boot program);
  handed = (Fresh, get-insert_same thread_cmp_total _ (1, 1) (Handed Fresh));
}

pub goes_on : RunsGoOn
goes_on world next last [] entry run leads = (last, subst (λ (w : World). Leads w entry last) run leads, refl)
goes_on world next last (e ∷ es) entry run leads = (run.0, run.1, goes_on run.0 next last es entry run.2 leads)

pub is_cut : RunsAreCut
is_cut world last [] after run = (world, refl, run)
is_cut world last (e ∷ es) after run =
    let rest = is_cut run.0 last es after run.2 in
    (rest.0, (run.0, run.1, rest.1), rest.2)

replied : {world : World} {entry : Entry} {next : World} → Leads world entry next → Replies world entry
replied (Turn running turn leads) = inl turn
replied (Gone running gone leads) = inr gone

pub each_reply : (boot : Boot) (entries : List Entry) → Run boot entries → EachReply boot entries
each_reply boot entries run before after entry e =
    let whole : RunsTo boot entries run.0 = run.1 in
    let cut = is_cut (boot_world boot whole.program) run.0 before (entry ∷ after) (subst (λ es. RunFrom (boot_world boot whole.program) es run.0) e whole.run) in
    (cut.0, record { program = whole.program; loads = whole.loads; run = cut.1 }, replied cut.2.1)
