-- What may cross threads.
use denote.RattleType.{RattleType}
use denote.Param.Send.{IsSend, IsSync, sendable}
use Rattle.std.proofs.Crossing.{crosses}
use Rattle.atomic_table.proofs.shared.Seat.TheSendSync as seat
use Rattle.atomic_table.proofs.shared.Shared.TheSendSync as shared
use Rattle.atomic_table.proofs.send_lease.SendLease.TheSendSync as lease
use Rattle.door.specs.declared.object.Object.{Ghosts}
use Rattle.door.specs.contracts.kept.Kept as Kept
use Rattle.door.specs.contracts.kept.Exchange as Exchange
use Rattle.door.specs.contracts.door.Door as Door
use Rattle.door.specs.contracts.door.Pass as Pass

pub exchange_send : (Q A : RattleType) → IsSend (Exchange.the_row Q A)
exchange_send Q A = search (sendable, crosses) depth 40

pub kept_send : (O Q A : RattleType) → IsSend O → IsSend (Kept.the_row O Q A)
kept_send O Q A s = search (sendable, crosses) depth 40

pub pass_send : (O Q S : RattleType) (g : Ghosts O.Denot Q.Denot S.Denot) → IsSend O → IsSend (Pass.the_row O Q S g)
pass_send O Q S g s = search (sendable, crosses, kept_send, seat.the_send) depth 40

pub door_sync : (O Q S : RattleType) (g : Ghosts O.Denot Q.Denot S.Denot) → IsSend O → IsSync (Door.the_row O Q S g)
door_sync O Q S g s = search (sendable, crosses, kept_send, shared.the_sync, lease.the_sync) depth 40

pub door_send : (O Q S : RattleType) (g : Ghosts O.Denot Q.Denot S.Denot) → IsSend O → IsSend (Door.the_row O Q S g)
door_send O Q S g s = search (sendable, crosses, kept_send, shared.the_send, lease.the_send) depth 40
