-- A volume, with its devices in memory and its history, may go to another thread. Each part has a search of its own.
use denote.RattleType.{RattleType}
use denote.Param.Send.{IsSend, sendable}
use Rattle.std.proofs.Crossing.{crosses}
use Rattle.dev_model.specs.contracts.memory.MemDevices as MemDevices
use Rattle.dev_model.specs.declared.devices.Devices as devices
use Rattle.forest_ops.specs.contracts.operation.Entry as Entry
use Rattle.forest_ops.specs.contracts.operation.Op as Op
use Rattle.forest_ops.specs.contracts.operation.Reply as Reply
use Rattle.forest_ops.specs.contracts.acks.Ack as Ack
use Rattle.vol_core.proofs.Sendable.{Core-send}
use Rattle.vol_core.specs.declared.opening.Opening as opening
use Rattle.vol_session.specs.contracts.session.Session as Session
use Rattle.volume.specs.contracts.state.VolState as VolState

pub MemDevices-send : IsSend MemDevices.the_row
MemDevices-send = search (sendable, crosses) depth 60 fits 5000

-- as the field of an entry
Op-send : IsSend Op.the_field.row
Op-send = search (sendable, crosses) depth 60 fits 5000

Reply-send : IsSend Reply.the_field.row
Reply-send = search (sendable, crosses) depth 60 fits 5000

Entry-send : IsSend Entry.the_row
Entry-send = let a = Op-send in let b = Reply-send in search (sendable, crosses) depth 60 fits 5000

Ack-send : IsSend Ack.the_row
Ack-send = search (sendable, crosses) depth 60 fits 5000

Session-send : (D O : RattleType) (g : devices.Ghosts D.Denot) (h : opening.Ghosts O.Denot) → IsSend D → IsSend O → IsSend (Session.the_row D O g h)
Session-send D O g h d o = let a = Core-send D O g h d o in let b = Entry-send in let c = Ack-send in search (sendable, crosses) depth 60 fits 5000

pub VolState-send : (D O : RattleType) (g : devices.Ghosts D.Denot) (h : opening.Ghosts O.Denot) → IsSend D → IsSend O → IsSend (VolState.the_row D O g h)
VolState-send D O g h d o = let a = Session-send D O g h d o in search (sendable, crosses) depth 60 fits 5000
