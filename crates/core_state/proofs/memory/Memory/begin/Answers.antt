use Rattle.core_actors.specs.Actors.{begun}
use Rattle.core_state.proofs.Kept.{begun-kept, changed-kept}
use Rattle.core_state.proofs.memory.Memory.begin.Goals as goal

pub invariant_of-self : goal.invariant_of-self
invariant_of-self c =
    changed-kept c.self.inside.volume c.self.inside.actors.items c.self.inside.turn c.self.invariant c.args.actor c.requires.there c.from.result c.from.ensures c.index_mut-mine.result.now c.index_mut-mine.ensures.value (begun c.args.first c.commits-commits.result)
    (λ is. begun-kept c.self.inside.volume c.self.inside.turn c.args.actor c.index_mut-mine.result.now is c.args.first c.commits-commits.result) c.begin.new.self c.begin.ensures
