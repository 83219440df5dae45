use Rattle.std.proofs.Common.{ap, subst, sym}
use Rattle.core_actors.specs.declared.answer.Answer.TheVariants.{Found, NoMemory}
use Rattle.core_state.specs.States.{IsState, State}
use Rattle.volume.specs.Serving.{IsUnderWay}
use Rattle.volume.proofs.Acting.{look_fits, look_gives}
use Rattle.volume.proofs.Seen.{stands_still}
use Rattle.volume.proofs.planner.look.Goals as goal

pub step-answer-requires-clause-fits : goal.step-answer-requires-clause-fits
step-answer-requires-clause-fits g c = look_fits c.args.client c.args.session.now.core.memory c.requires c.args.query

pub returns-in-Found-clause-stands : goal.returns-in-Found-clause-stands
returns-in-Found-clause-stands g c = stands_still g.D.Devices.state c.args.session.now c.step-answer.new.self (record {
  rest = c.step-answer.ensures.rest;
  volume = (look_gives c.args.client c.args.session.now.core.memory c.step-answer.new.self.core.memory (subst IsState c.memory.ensures.memory c.see_kept.ensures.kept) c.requires c.args.query (Found c.in-Found.keys) c.in-Found.ensures.gives.0).volume;
  devices = c.in-Found.ensures.gives.1;
})

pub returns-in-Found-clause-under : goal.returns-in-Found-clause-under
returns-in-Found-clause-under g c =
    (look_gives c.args.client c.args.session.now.core.memory c.step-answer.new.self.core.memory (subst IsState c.memory.ensures.memory c.see_kept.ensures.kept) c.requires c.args.query (Found c.in-Found.keys) c.in-Found.ensures.gives.0).under

pub returns-in-Found-clause-ok : goal.returns-in-Found-clause-ok
returns-in-Found-clause-ok g c =
    (look_gives c.args.client c.args.session.now.core.memory c.step-answer.new.self.core.memory (subst IsState c.memory.ensures.memory c.see_kept.ensures.kept) c.requires c.args.query (Found c.in-Found.keys) c.in-Found.ensures.gives.0).mine_is

pub returns-in-NoMemory-clause-stands : goal.returns-in-NoMemory-clause-stands
returns-in-NoMemory-clause-stands g c = stands_still g.D.Devices.state c.args.session.now c.step-answer.new.self (record {
  rest = c.step-answer.ensures.rest;
  volume = ap (λ (memory : State). memory.volume) (look_gives c.args.client c.args.session.now.core.memory c.step-answer.new.self.core.memory (subst IsState c.memory.ensures.memory c.see_kept.ensures.kept) c.requires c.args.query NoMemory c.in-NoMemory.ensures.gives.0);
  devices = c.in-NoMemory.ensures.gives.1;
})

pub returns-in-NoMemory-clause-under : goal.returns-in-NoMemory-clause-under
returns-in-NoMemory-clause-under g c =
    subst (λ (memory : State). IsUnderWay memory c.args.client)
    (sym (look_gives c.args.client c.args.session.now.core.memory c.step-answer.new.self.core.memory (subst IsState c.memory.ensures.memory c.see_kept.ensures.kept) c.requires c.args.query NoMemory c.in-NoMemory.ensures.gives.0)) c.requires

pub returns-in-NoMemory-clause-err : goal.returns-in-NoMemory-clause-err
returns-in-NoMemory-clause-err g c =
    look_gives c.args.client c.args.session.now.core.memory c.step-answer.new.self.core.memory (subst IsState c.memory.ensures.memory c.see_kept.ensures.kept) c.requires c.args.query NoMemory c.in-NoMemory.ensures.gives.0
