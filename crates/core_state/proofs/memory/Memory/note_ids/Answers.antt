use Rattle.std.proofs.Common.{◌∙◌, ap, refl}
use Rattle.core_actors.specs.Actors.{with_ids}
use Rattle.core_state.specs.States.{State, other_holder}
use Rattle.core_state.proofs.Kept.{ids-kept, taken-kept}
use Rattle.core_state.proofs.memory.Memory.note_ids.Goals as goal

pub invariant_of-self : goal.invariant_of-self
invariant_of-self c =
    let inside = c.self.inside in
    taken-kept inside.volume inside.actors.items inside.turn c.self.invariant c.args.actor c.requires.there c.from.result c.from.ensures c.index_mut-mine.result.now c.index_mut-mine.ensures.value with_ids
    (ap (λ (s : State). other_holder c.args.actor s.turn) c.self.view_is ∙ c.requires.free)
    (λ is. ids-kept inside.volume inside.turn c.args.actor c.index_mut-mine.result.now is) (with_ids c.index_mut-mine.result.now) refl
