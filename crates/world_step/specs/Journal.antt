-- What a list of entries is that a run leaves.
use Rattle.std.specs.Prelude.{List}
use Rattle.world_step.specs.Boot.{Boot}
use Rattle.world_step.specs.Pipes.{ReadsArePrefixes}
use Rattle.world_step.specs.Run.{Run, EachReply}
use Rattle.world_step.specs.Stops.{InOrder}
use Rattle.world_step.specs.Waiting.{EndsAndWaits}
use Rattle.wx_types.specs.declared.entries.Entry.{Entry}

-- It is a run of the boot; each reply is the model's there; each thread's calls are answered once and in its order; what was read
-- from each pipe is a prefix of what was written to it; and end of file and waiting come exactly where the model has them.
pub record IsJournal (boot : Boot) (entries : List Entry) : Type 0 where
  pub run : Run boot entries
  pub replies : EachReply boot entries
  pub order : InOrder boot entries
  pub prefixes : ReadsArePrefixes entries
  pub waiting : EndsAndWaits boot entries
