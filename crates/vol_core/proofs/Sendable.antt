-- An open volume may go to another thread where its devices may.
use denote.RattleType.{RattleType}
use denote.Param.Send.{IsSend, sendable}
use Rattle.std.proofs.Crossing.{crosses}
use Rattle.core_state.proofs.Sendable.{Memory-send}
use Rattle.dev_model.specs.declared.devices.Devices as devices
use Rattle.vol_core.specs.contracts.machine.Core as Core
use Rattle.vol_core.specs.declared.opening.Opening as opening

pub Core-send : (D O : RattleType) (g : devices.Ghosts D.Denot) (h : opening.Ghosts O.Denot) → IsSend D → IsSend O → IsSend (Core.the_row D O g h)
Core-send D O g h d o = let m = Memory-send in search (sendable, crosses) depth 60 fits 5000
