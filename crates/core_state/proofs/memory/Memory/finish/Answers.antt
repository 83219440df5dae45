use Rattle.core_actors.specs.Actors.{ended}
use Rattle.core_state.proofs.Kept.{ended-kept, given_back-kept}
use Rattle.core_state.proofs.memory.Memory.finish.Goals as goal

pub invariant_of-self : goal.invariant_of-self
invariant_of-self c =
    given_back-kept c.self.inside.volume c.self.inside.actors.items c.self.inside.turn c.self.invariant c.args.actor c.requires.there c.from.result c.from.ensures c.index_mut-mine.result.now c.index_mut-mine.ensures.value ended
    (λ turn. ended-kept c.self.inside.volume turn c.args.actor c.index_mut-mine.result.now) c.end.new.self c.end.ensures c.other_holder-self-inside.result c.other_holder-self-inside.ensures
