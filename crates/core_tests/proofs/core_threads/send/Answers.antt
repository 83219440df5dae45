-- what goes to the thread and what comes back may be sent
use denote.RattleType.{RattleType}
use denote.Param.{param}
use denote.Param.Send.{IsSend, sendable}
use Rattle.std.proofs.Crossing.{crosses}
use Rattle.core_tests.proofs.Sendable.{MemDevices-send}
use Rattle.core_tests.specs.contracts.core_threads.Returned as Returned
use Rattle.dev_model.specs.contracts.memory.MemDevices as MemDevices
use Rattle.dev_model.specs.contracts.memory.MemDevicesDevices.TheImpl.{ghosts}
use Rattle.dev_model.specs.declared.devices.Devices as devices
use Rattle.vol_core.proofs.Sendable.{Core-send}
use Rattle.vol_core.specs.declared.opening.Opening as opening
use Rattle.core_tests.proofs.core_threads.send.Goals as goal

Returned-send : (D O : RattleType) (g : devices.Ghosts D.Denot) (h : opening.Ghosts O.Denot) → IsSend D → IsSend O → IsSend (Returned.the_row D O g h)
Returned-send D O g h d o = let c = Core-send D O g h d o in search (sendable, crosses) depth 60 fits 5000

pub spawn-requires-send-F : goal.spawn-requires-send-F
spawn-requires-send-F g c =
    let core = Core-send MemDevices.the_row (param 1 g.row.O) ghosts g.O.Opening MemDevices-send c.type_bounds.send-O in
    λ κs s. search (sendable, crosses) depth 60 fits 5000

pub spawn-requires-send-T : goal.spawn-requires-send-T
spawn-requires-send-T g c =
    let returned = Returned-send MemDevices.the_row (param 1 g.row.O) ghosts g.O.Opening MemDevices-send c.type_bounds.send-O in
    λ κs s. search sendable depth 20 fits 5000
