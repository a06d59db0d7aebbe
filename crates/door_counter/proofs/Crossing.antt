-- What may cross threads: a door round a counter may be shared, and its passes handed over.
use denote.Builtin.{u64}
use denote.Param.Send.{IsSend, IsSync, sendable}
use Rattle.door.specs.contracts.door.Door as Door
use Rattle.door.specs.contracts.door.Pass as Pass
use Rattle.door.proofs.Crossing.{pass_send, door_sync}
use Rattle.door_counter.specs.contracts.counter.Counter as Counter
use Rattle.door_counter.specs.contracts.counter.CounterObject.TheImpl.{ghosts}

counter_send : IsSend Counter.the_row
counter_send = search sendable depth 20

pub counted_pass_send : IsSend (Pass.the_row Counter.the_row u64 u64 ghosts)
counted_pass_send = pass_send Counter.the_row u64 u64 ghosts counter_send

pub counted_door_sync : IsSync (Door.the_row Counter.the_row u64 u64 ghosts)
counted_door_sync = door_sync Counter.the_row u64 u64 ghosts counter_send
