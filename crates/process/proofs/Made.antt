-- What an answer makes, and where the steps of a turn lead.
use Rattle.std.proofs.Common.{◌≡◌, ℕ, true, Option, Some, None, sym, ap, ◌∙◌}
use Rattle.std.proofs.lemmas.Bool.{eqb-true}
use Rattle.std.specs.Option.{option_map}
use Rattle.std.specs.FinMap.{get}
use Rattle.guest_state.specs.GuestThread.{GuestThread}
use Rattle.finite_maps.proofs.Options.{mapped_from}
use Rattle.fork_exec.specs.Process.{Process}
use Rattle.fork_exec.specs.Copies.{copy_of, fresh}
use Rattle.instance.specs.Program.{Program}
use Rattle.process.specs.Apply.{after_outcome, made_by, new_arguments}
use Rattle.process.specs.Asked.{Asked, AskedBy}
use Rattle.process.specs.Lineage.{Told, makes, after_steps, thread_after}
use Rattle.wx_types.specs.declared.entries.Outcome.{Outcome}
use Rattle.wx_types.specs.declared.entries.Outcome.TheVariants.{Reply, Wait, Image, Fork, Spawn, Ended, Gone as GoneOutcome}
use Rattle.wx_types.specs.declared.requests.Request.{Request}

-- ---- what an answer makes

-- an outcome that makes the process of that number, and that the caller can take, makes it
pub makes_made : (stopped : Process) (tid : ℕ) (request : Request) (program : Option Program) (outcome : Outcome) (q : ℕ) (x : Process) → makes outcome q ≡ true → after_outcome stopped tid request program outcome ≡ Some x → (new : Process) × (made_by stopped tid request program outcome ≡ Some (q, new))
makes_made stopped tid request program (Reply errno bytes place) q x m e = cc
makes_made stopped tid request program Wait q x m e = cc
makes_made stopped tid request program Image q x m e = cc
makes_made stopped tid request program (Fork number) q x m e =
    let thread = mapped_from _ (get stopped.threads tid) x e in (
      copy_of stopped thread.0,
      ap (λ (found : Option GuestThread). option_map (λ (copy : Process). (number, copy)) (option_map (copy_of stopped) found)) thread.1
          ∙ ap (λ n. Some (n, copy_of stopped thread.0)) (eqb-true number q m),
    )
makes_made stopped tid request None (Spawn number) q x m e = cc
makes_made stopped tid request (Some image) (Spawn number) q x m e = (
  fresh image (new_arguments request) stopped.environment stopped.fuel,
  ap (λ n. Some (n, fresh image (new_arguments request) stopped.environment stopped.fuel)) (eqb-true number q m),
)
makes_made stopped tid request program (Ended all) q x m e = cc
makes_made stopped tid request program GoneOutcome q x m e = cc

-- ---- the steps of a turn

by_thread : (found : Option GuestThread) (process stopped : Process) (slice : ℕ) (turn : Told) → AskedBy found process turn.entry.tid slice turn.entry.ran turn.request stopped → thread_after process turn found ≡ Some stopped
by_thread None process stopped slice turn asked = ap Some (sym asked.leaves)
by_thread (Some thread) process stopped slice turn asked = ap (option_map _) asked.steps ∙ ap Some (sym asked.leaves)

pub asked_steps : (process stopped : Process) (slice : ℕ) (turn : Told) → Asked process turn.entry.tid slice turn.entry.ran turn.request stopped → after_steps process turn ≡ Some stopped
asked_steps process stopped slice turn asked = by_thread (get process.threads turn.entry.tid) process stopped slice turn asked
