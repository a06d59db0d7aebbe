-- What the threads share and hand over may cross.
use denote.Param.Send.{sendable}
use Rattle.door_counter.proofs.Crossing.{counted_pass_send, counted_door_sync}
use Rattle.door_counter.proofs.threads.count_both.Goals as goal

pub join-mine-requires-send-F : goal.join-mine-requires-send-F
join-mine-requires-send-F g c κs within = search (sendable, counted_pass_send, counted_door_sync) depth 40

pub join-mine-requires-send-A : goal.join-mine-requires-send-A
join-mine-requires-send-A g c κs within = search (sendable, counted_pass_send) depth 40
