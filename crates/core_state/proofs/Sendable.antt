-- What a volume keeps in memory, with what each actor has under way, may go to another thread.
use denote.Param.Send.{IsSend, sendable}
use Rattle.std.proofs.Crossing.{crosses}
use Rattle.core_actors.proofs.Sendable.{Actor-send}
use Rattle.core_volume.proofs.Sendable.{Volume-send}
use Rattle.core_state.specs.contracts.memory.Memory as Memory

pub Memory-send : IsSend Memory.the_row
Memory-send = let a = Volume-send in let b = Actor-send in search (sendable, crosses) depth 60 fits 5000
