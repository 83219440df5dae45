use Rattle.std.proofs.Common.{ap}
use Rattle.core_volume.specs.Volumes.{Volume}
use Rattle.core_state.proofs.Kept.{journal-kept}
use Rattle.core_state.proofs.memory.Memory.settle.Goals as goal

pub invariant_of-self : goal.invariant_of-self
invariant_of-self c =
    journal-kept (record { volume = c.self.inside.volume; actors = c.self.inside.actors.items; turn = c.self.inside.turn }) c.self.invariant c.settle.new.self c.settle.ensures.sound
    (ap (λ (v : Volume). v.trees) c.settle.ensures.settled) (ap (λ (v : Volume). v.layout) c.settle.ensures.settled)
