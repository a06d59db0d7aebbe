-- A run is all that a journal is.
use Rattle.std.proofs.Common.{◌≡◌, ℕ, List, Result, Ok, sym, subst, ◌∙◌}
use Rattle.instance.specs.Program.{Program}
use Rattle.instance.specs.Loads.{Loads}
use Rattle.instance.proofs.Once.{loads_once}
use Rattle.wx_types.specs.declared.errors.Errno.{Errno}
use Rattle.world_step.specs.Boot.{Boot, BootLoads, boot_world}
use Rattle.world_step.specs.Laws.{RunsAreJournals, BootsLeadToOne}
use Rattle.world_step.specs.Run.{RunFrom, RunsTo}
use Rattle.world_step.proofs.Determined.{one_last}
use Rattle.world_step.proofs.Going.{each_reply}
use Rattle.world_step.proofs.Lineages.{in_order}
use Rattle.world_step.proofs.Piping.{prefixes}
use Rattle.world_step.proofs.Waits.{ends_and_waits}

pub are_journals : RunsAreJournals
are_journals boot entries run =
    let runs : RunsTo boot entries run.0 = run.1 in
    record { run = run; replies = each_reply boot entries run; order = in_order boot entries; prefixes = prefixes boot entries run.0 runs; waiting = ends_and_waits boot entries }

-- ---- one world

one_program : (boot : Boot) (p q : Program) → BootLoads boot p → BootLoads boot q → p ≡ q
one_program boot p q a b =
    let bytes : a.0 ≡ b.0 = (let h : ◌≡◌ {A = Result (List ℕ) Errno} (Ok a.0) (Ok b.0) = sym a.1 ∙ b.1 in cc) in
    loads_once b.0 p q (subst (λ bs. Loads bs (Ok p)) bytes a.2) b.2

pub one_world : BootsLeadToOne
one_world boot entries world world' a b =
    let same : a.program ≡ b.program = one_program boot a.program b.program a.loads b.loads in
    one_last (boot_world boot b.program) world world' entries (subst (λ (p : Program). RunFrom (boot_world boot p) entries world) same a.run) b.run
