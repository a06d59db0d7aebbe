use Rattle.std.proofs.Common.{◌≡◌, ◌⊎◌, List, ℕ, Result, sym, subst, ◌∙◌}
use Rattle.wx_types.specs.declared.entries.Entry.{Entry}
use Rattle.wasix_run.specs.declared.file_fault.FileFault.{FileFault}
use Rattle.wasix_run.specs.declared.reason.Reason.{Reason}
use Rattle.wasix_run.specs.declared.reason.Reason.TheVariants.{Done, ShelfFault}
use Rattle.wasix_run.specs.Loading.{fault_reason}
use Rattle.wasix_run.specs.Serves.{IsToWrite, Serves}
use Rattle.wasix_run.proofs.Serving.{wrote, unwritten}
use Rattle.wasix_run.proofs.serial.written.Goals as goal

pub returns-in-Ok-clause-serves : goal.returns-in-Ok-clause-serves
returns-in-Ok-clause-serves g c = λ words told command is to.
    wrote words told command is c.args.name.now c.in-Ok.bytes c.without_run.result.reason c.without_run.result.journal c.without_run.ensures.journal
    (subst (λ (r : Reason). (r ≡ Done) ⊎ (r ≡ ShelfFault)) (sym c.without_run.ensures.reason) c.write.ensures.either)
    (subst (λ (r : Result (List ℕ) FileFault). IsToWrite words told c.args.name.now r) c.in-Ok.is to)

pub returns-in-Err-clause-serves : goal.returns-in-Err-clause-serves
returns-in-Err-clause-serves g c = λ words told command is to.
    subst (λ (r : Reason). Serves words told r c.without_run-in-Err.result.journal) (sym (c.without_run-in-Err.ensures.reason ∙ c.fault_reason.ensures))
    (subst (λ (es : List Entry). Serves words told (fault_reason c.in-Err.fault) es) (sym c.without_run-in-Err.ensures.journal)
    (unwritten words told command is c.args.name.now c.in-Err.fault (subst (λ (r : Result (List ℕ) FileFault). IsToWrite words told c.args.name.now r) c.in-Err.is to)))
