use Rattle.core_actors.specs.Actors.{dropped}
use Rattle.core_state.proofs.Kept.{dropped-kept, given_back-kept}
use Rattle.core_state.proofs.memory.Memory.drop_transaction.Goals as goal

pub invariant_of-self : goal.invariant_of-self
invariant_of-self c =
    given_back-kept c.self.inside.volume c.self.inside.actors.items c.self.inside.turn c.self.invariant c.args.actor c.requires.there c.from.result c.from.ensures c.index_mut-mine.result.now c.index_mut-mine.ensures.value dropped
    (λ turn. dropped-kept c.self.inside.volume turn c.args.actor c.index_mut-mine.result.now) c.drop_all.new.self c.drop_all.ensures c.other_holder-self-inside.result c.other_holder-self-inside.ensures
