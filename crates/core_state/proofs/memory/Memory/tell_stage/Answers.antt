use Rattle.core_actors.specs.Actors.{told_of}
use Rattle.core_state.proofs.Kept.{told-kept, changed-kept}
use Rattle.core_state.proofs.memory.Memory.tell_stage.Goals as goal

pub invariant_of-self : goal.invariant_of-self
invariant_of-self c =
    changed-kept c.self.inside.volume c.self.inside.actors.items c.self.inside.turn c.self.invariant c.args.actor c.requires c.from.result c.from.ensures c.index_mut-mine.result.now c.index_mut-mine.ensures.value (told_of c.args.stage c.are_durable-durable.result)
    (λ is. told-kept c.self.inside.volume c.self.inside.turn c.args.actor c.index_mut-mine.result.now is c.args.stage c.are_durable-durable.result) c.tell.new.self c.tell.ensures
