use Rattle.core_state.proofs.Kept.{stopped-kept}
use Rattle.core_state.proofs.memory.Memory.halt.Goals as goal

pub invariant_of-self : goal.invariant_of-self
invariant_of-self c =
    stopped-kept (record { volume = c.self.inside.volume; actors = c.self.inside.actors.items; turn = c.self.inside.turn }) c.self.invariant c.args.halt c.halt.new.self c.halt.ensures
