use Rattle.std.proofs.Common.{ap, subst}
use Rattle.core_actors.specs.declared.actor.Actor.{Actor}
use Rattle.core_state.specs.States.{IsState}
use Rattle.volume.proofs.Acting.{intend_gives}
use Rattle.volume.proofs.committing.intend.Goals as goal

pub returns-clause-stepped : goal.returns-clause-stepped
returns-clause-stepped g c = record {
  rest = c.step.ensures.rest;
  volume = (intend_gives c.args.client c.args.session.now.core.memory c.step.new.self.core.memory (subst IsState c.memory.ensures.memory c.see_kept.ensures.kept) c.requires c.args.updates c.step.result c.step.ensures.gives.0).volume;
  devices = c.step.ensures.gives.1;
}

pub returns-clause-under : goal.returns-clause-under
returns-clause-under g c =
    (intend_gives c.args.client c.args.session.now.core.memory c.step.new.self.core.memory (subst IsState c.memory.ensures.memory c.see_kept.ensures.kept) c.requires c.args.updates c.step.result c.step.ensures.gives.0).under

pub returns-clause-intended : goal.returns-clause-intended
returns-clause-intended g c = λ may.
    ap (λ (actor : Actor). actor.intended)
    (intend_gives c.args.client c.args.session.now.core.memory c.step.new.self.core.memory (subst IsState c.memory.ensures.memory c.see_kept.ensures.kept) c.requires c.args.updates c.step.result c.step.ensures.gives.0).mine_is
