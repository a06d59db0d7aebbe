-- End of file and waiting come exactly where the model has them.
use Rattle.std.specs.Prelude.{◌≡◌, ℕ, ◌<◌, ◌↔◌, false, List, [], ◌∷◌, ◌++◌, Some, Ok, slice_index}
use Rattle.open_desc.specs.declared.description.Kind.TheVariants.{PipeRead}
use Rattle.wx_types.specs.declared.entries.Entry.{Entry}
use Rattle.wx_types.specs.declared.entries.Outcome.{Outcome}
use Rattle.wx_types.specs.declared.entries.Outcome.TheVariants.{Reply, Wait}
use Rattle.wx_types.specs.declared.entries.Place.TheVariants.{Pipe}
use Rattle.wx_types.specs.declared.requests.Request.{Request}
use Rattle.kernel_core.specs.Answers.{fd_read}
use Rattle.kernel_core.specs.Descriptors.{Opened, description_of, with_right, most_asked}
use Rattle.kernel_core.specs.Ending.{Open}
use Rattle.kernel_core.specs.Kernel.{Kernel}
use Rattle.kernel_core.specs.PipeEnds.{writer_left}
use Rattle.kernel_core.specs.Readiness.{IsSettled}
use Rattle.kernel_core.specs.Transfers.{held_in}
use Rattle.world_step.specs.World.{World}
use Rattle.world_step.specs.Leads.{TakesTurn}
use Rattle.world_step.specs.Boot.{Boot}
use Rattle.world_step.specs.Run.{RunsTo}

-- ---- end of file

-- A request of the process reads more than 0 bytes from this pipe: no refusal comes before the bytes in the pipe are looked at.
pub record ReadsPipe (kernel : Kernel) (pid : ℕ) (request : Request) (pipe : ℕ) : Type 0 where
  pub opened : Opened
  pub call : request.call ≡ fd_read
  pub good : request.refused ≡ 0
  pub there : description_of kernel pid (slice_index request.words 0) ≡ Some opened
  pub reading_end : opened.description.kind ≡ PipeRead pipe
  pub readable : with_right 2 opened ≡ Ok opened
  pub some : 0 < most_asked request

-- success and no bytes
abbrev pub TellsEnd : Outcome → ℕ → Type 0
TellsEnd outcome pipe = outcome ≡ Reply 0 [] (Pipe pipe)

-- the pipe is empty, and no live process has its writing end
pub record IsAtEnd (kernel : Kernel) (pipe : ℕ) : Type 0 where
  pub empty : held_in kernel pipe ≡ []
  pub no_writer : writer_left kernel pipe ≡ false

-- ---- each entry, in the world before it and in the one after it

pub record WaitsWell (world : World) (entry : Entry) : Type 0 where
  -- a read of a pipe is at its end exactly where the pipe is
  pub at_end : (turn : TakesTurn world entry) (pipe : ℕ) → ReadsPipe world.kernel entry.pid turn.request pipe → TellsEnd entry.outcome pipe ↔ IsAtEnd world.kernel pipe
  -- and no other read of more than 0 bytes tells so
  pub no_other : (turn : TakesTurn world entry) (pipe : ℕ) → turn.request.call ≡ fd_read → 0 < most_asked turn.request → TellsEnd entry.outcome pipe → ReadsPipe world.kernel entry.pid turn.request pipe
  -- the entry waits exactly where the model's answer does
  pub waits : (turn : TakesTurn world entry) → (entry.outcome ≡ Wait) ↔ (turn.answer.outcome ≡ Wait)

-- So it is with each entry of a run; and after each that leaves the run open each thread is handed out, or was ended, or waits for
-- what hasn't come.
pub record EndsAndWaits (boot : Boot) (entries : List Entry) : Type 0 where
  pub each : (before after : List Entry) (entry : Entry) (world : World) → entries ≡ before ++ entry ∷ after → RunsTo boot before world → WaitsWell world entry
  pub settled : (before after : List Entry) (entry : Entry) (world : World) → entries ≡ before ++ entry ∷ after → RunsTo boot (before ++ entry ∷ []) world → world.kernel.ending ≡ Open → IsSettled world.kernel
