use Rattle.std.proofs.Common.{ap, subst, sym}
use Rattle.core_actors.specs.declared.answer.Answer.TheVariants.{Ids, NoMemory}
use Rattle.core_state.specs.States.{IsState, State}
use Rattle.volume.specs.Serving.{IsUnderWay}
use Rattle.volume.proofs.Acting.{ids_give, look_ids_fits}
use Rattle.volume.proofs.Seen.{stands_still}
use Rattle.volume.proofs.planner.look_ids.Goals as goal

pub step-answer-requires-clause-fits : goal.step-answer-requires-clause-fits
step-answer-requires-clause-fits g c = look_ids_fits c.args.client c.args.session.now.core.memory c.requires

pub returns-in-Ids-clause-stands : goal.returns-in-Ids-clause-stands
returns-in-Ids-clause-stands g c = stands_still g.D.Devices.state c.args.session.now c.step-answer.new.self (record {
  rest = c.step-answer.ensures.rest;
  volume = (ids_give c.args.client c.args.session.now.core.memory c.step-answer.new.self.core.memory (subst IsState c.memory.ensures.memory c.see_kept.ensures.kept) c.requires (Ids c.in-Ids.tree) c.in-Ids.ensures.gives.0).1.volume;
  devices = c.in-Ids.ensures.gives.1;
})

pub returns-in-Ids-clause-under : goal.returns-in-Ids-clause-under
returns-in-Ids-clause-under g c =
    (ids_give c.args.client c.args.session.now.core.memory c.step-answer.new.self.core.memory (subst IsState c.memory.ensures.memory c.see_kept.ensures.kept) c.requires (Ids c.in-Ids.tree) c.in-Ids.ensures.gives.0).1.under

pub returns-in-Ids-clause-tree : goal.returns-in-Ids-clause-tree
returns-in-Ids-clause-tree g c =
    (ids_give c.args.client c.args.session.now.core.memory c.step-answer.new.self.core.memory (subst IsState c.memory.ensures.memory c.see_kept.ensures.kept) c.requires (Ids c.in-Ids.tree) c.in-Ids.ensures.gives.0).0

pub returns-in-Ids-clause-ok : goal.returns-in-Ids-clause-ok
returns-in-Ids-clause-ok g c =
    (ids_give c.args.client c.args.session.now.core.memory c.step-answer.new.self.core.memory (subst IsState c.memory.ensures.memory c.see_kept.ensures.kept) c.requires (Ids c.in-Ids.tree) c.in-Ids.ensures.gives.0).1.mine_is

pub returns-in-NoMemory-clause-stands : goal.returns-in-NoMemory-clause-stands
returns-in-NoMemory-clause-stands g c = stands_still g.D.Devices.state c.args.session.now c.step-answer.new.self (record {
  rest = c.step-answer.ensures.rest;
  volume = ap (λ (memory : State). memory.volume) (ids_give c.args.client c.args.session.now.core.memory c.step-answer.new.self.core.memory (subst IsState c.memory.ensures.memory c.see_kept.ensures.kept) c.requires NoMemory c.in-NoMemory.ensures.gives.0);
  devices = c.in-NoMemory.ensures.gives.1;
})

pub returns-in-NoMemory-clause-under : goal.returns-in-NoMemory-clause-under
returns-in-NoMemory-clause-under g c =
    subst (λ (memory : State). IsUnderWay memory c.args.client)
    (sym (ids_give c.args.client c.args.session.now.core.memory c.step-answer.new.self.core.memory (subst IsState c.memory.ensures.memory c.see_kept.ensures.kept) c.requires NoMemory c.in-NoMemory.ensures.gives.0)) c.requires

pub returns-in-NoMemory-clause-err : goal.returns-in-NoMemory-clause-err
returns-in-NoMemory-clause-err g c =
    ids_give c.args.client c.args.session.now.core.memory c.step-answer.new.self.core.memory (subst IsState c.memory.ensures.memory c.see_kept.ensures.kept) c.requires NoMemory c.in-NoMemory.ensures.gives.0
