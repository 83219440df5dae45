use Rattle.std.proofs.Common.{◌∙◌, Some, sym, subst}
use Rattle.core_actors.specs.Actors.{with_intent}
use Rattle.core_volume.specs.Commits.{AreIntended}
use Rattle.core_state.specs.States.{State}
use Rattle.core_state.proofs.Kept.{intends-kept, taken-kept}
use Rattle.core_state.proofs.memory.Memory.intend.Goals as goal

pub invariant_of-self : goal.invariant_of-self
invariant_of-self c =
    taken-kept c.self.inside.volume c.self.inside.actors.items c.self.inside.turn c.self.invariant c.args.actor c.requires.there c.from.result c.from.ensures c.index_mut-mine.result.now c.index_mut-mine.ensures.value (with_intent (Some c.args.updates))
    (sym c.other_holder.ensures ∙ c.in_default.is)
    (λ is. intends-kept c.self.inside.volume c.self.inside.turn c.args.actor c.index_mut-mine.result.now is c.args.updates (subst (λ (s : State). AreIntended s.volume.layout.metadata_replicas c.args.updates) (sym c.self.view_is) c.requires.fits.1)) c.intend.new.self c.intend.ensures
