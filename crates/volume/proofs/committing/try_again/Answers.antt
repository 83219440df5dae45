use Rattle.std.proofs.Common.{◌≡◌, ◌<◌, ◌∙◌, ap, arith, Result, length, refl, subst, sym}
use Rattle.std.specs.Prelude.{IfSome, is_ok}
use Rattle.dev_model.specs.Frames.{after_writes}
use Rattle.vol_session.specs.Shortages.{IsHelped, ShortageState, after_checkpoint}
use Rattle.vol_session.specs.Writeback.{StopsWith, stopped_by}
use Rattle.vol_session.specs.declared.writeback_end.WritebackEnd.{WritebackEnd}
use Rattle.volume.specs.Serving.{IsMoved}
use Rattle.volume.proofs.Acting.{intended_still, works_keep}
use Rattle.volume.proofs.Helped.{failure_keeps, stopped_helped}
use Rattle.volume.proofs.Served.{HasStopped, served_later, stopped_result, unserved_later, unstopped_result, works_move}
use Rattle.volume.proofs.committing.try_again.Goals as goal

pub checkpoint-requires : goal.checkpoint-requires
checkpoint-requires g c = let few = c.requires.intended.under.there in omega (arith, few)

pub commit_at_rest-requires-clause-intended : goal.commit_at_rest-requires-clause-intended
commit_at_rest-requires-clause-intended g c =
    let old = c.args.session.now.core.memory in
    let new = c.checkpoint.new.session.core.memory in
    intended_still c.args.client c.args.op c.args.reply old new (works_keep c.args.client old new c.checkpoint.ensures.worked.memory) c.requires.intended

pub give_up-requires-clause-intended : goal.give_up-requires-clause-intended
give_up-requires-clause-intended g c =
    let old = c.args.session.now.core.memory in
    let new = c.checkpoint.new.session.core.memory in
    record { reply = c.args.reply; intended = intended_still c.args.client c.args.op c.args.reply old new (works_keep c.args.client old new c.checkpoint.ensures.worked.memory) c.requires.intended }

pub returns-in-Ok-clause-served : goal.returns-in-Ok-clause-served
returns-in-Ok-clause-served g c =
    let state = g.D.Devices.state in
    let old = c.args.session.now in
    let mid = c.checkpoint.new.session in
    let done = c.checkpoint.ensures in
    let halted = subst (λ (r : Result (Unit {0}) WritebackEnd). StopsWith r (state old.core.devices).moment (state mid.core.devices).moment old.core.memory.volume mid.core.memory.volume) c.in-Ok.is done.stops in
    let unfailed = subst (λ (r : Result (Unit {0}) WritebackEnd). (state mid.core.devices).faults ≡ after_writes (stopped_by r) (state old.core.devices).faults) c.in-Ok.is done.cause in
    let moved : IsMoved state old mid = works_move g.O.Opening.found state c.args.client old mid done.worked halted unfailed done.goes_on in
    served_later g.O.Opening.found state c.args.client c.commit_at_rest.result c.args.op c.args.op old mid c.commit_at_rest.new.session moved refl c.commit_at_rest.ensures.served

pub returns-in-Ok-clause-unserved : goal.returns-in-Ok-clause-unserved
returns-in-Ok-clause-unserved g c =
    let state = g.D.Devices.state in
    let old = c.args.session.now in
    let mid = c.checkpoint.new.session in
    let done = c.checkpoint.ensures in
    let halted = subst (λ (r : Result (Unit {0}) WritebackEnd). StopsWith r (state old.core.devices).moment (state mid.core.devices).moment old.core.memory.volume mid.core.memory.volume) c.in-Ok.is done.stops in
    let unfailed = subst (λ (r : Result (Unit {0}) WritebackEnd). (state mid.core.devices).faults ≡ after_writes (stopped_by r) (state old.core.devices).faults) c.in-Ok.is done.cause in
    let moved : IsMoved state old mid = works_move g.O.Opening.found state c.args.client old mid done.worked halted unfailed done.goes_on in
    unserved_later g.O.Opening.found state c.args.client c.commit_at_rest.result old mid c.commit_at_rest.new.session moved c.commit_at_rest.ensures.unserved

pub returns-in-Err-clause-served : goal.returns-in-Err-clause-served
returns-in-Err-clause-served g c =
    let state = g.D.Devices.state in
    let old = c.args.session.now in
    let mid = c.checkpoint.new.session in
    let done = c.checkpoint.ensures in
    let stopped : HasStopped g.O.Opening.found state c.args.client c.in-Err.stop old mid = record {
      worked = done.worked;
      stops = subst (λ (r : Result (Unit {0}) WritebackEnd). StopsWith r (state old.core.devices).moment (state mid.core.devices).moment old.core.memory.volume mid.core.memory.volume) c.in-Err.is done.stops;
      cause = subst (λ (r : Result (Unit {0}) WritebackEnd). (state mid.core.devices).faults ≡ after_writes (stopped_by r) (state old.core.devices).faults) c.in-Err.is done.cause;
      device = subst (λ (r : Result (Unit {0}) WritebackEnd). IfSome (stopped_by r) (λ dev. dev < length (state old.core.devices).sizes)) c.in-Err.is done.device;
      goes_on = done.goes_on;
    } in
    stopped_result g.O.Opening.found state c.args.client c.give_up.result c.args.op c.in-Err.stop old mid c.give_up.new.session stopped c.give_up.ensures.tells c.give_up.ensures.entered

pub returns-in-Err-clause-unserved : goal.returns-in-Err-clause-unserved
returns-in-Err-clause-unserved g c =
    let state = g.D.Devices.state in
    let old = c.args.session.now in
    let mid = c.checkpoint.new.session in
    let done = c.checkpoint.ensures in
    let stopped : HasStopped g.O.Opening.found state c.args.client c.in-Err.stop old mid = record {
      worked = done.worked;
      stops = subst (λ (r : Result (Unit {0}) WritebackEnd). StopsWith r (state old.core.devices).moment (state mid.core.devices).moment old.core.memory.volume mid.core.memory.volume) c.in-Err.is done.stops;
      cause = subst (λ (r : Result (Unit {0}) WritebackEnd). (state mid.core.devices).faults ≡ after_writes (stopped_by r) (state old.core.devices).faults) c.in-Err.is done.cause;
      device = subst (λ (r : Result (Unit {0}) WritebackEnd). IfSome (stopped_by r) (λ dev. dev < length (state old.core.devices).sizes)) c.in-Err.is done.device;
      goes_on = done.goes_on;
    } in
    unstopped_result g.O.Opening.found state c.args.client c.give_up.result c.in-Err.stop old mid c.give_up.new.session stopped c.give_up.ensures.unfailed c.give_up.ensures.stepped c.give_up.ensures.rest

pub commit_at_rest-requires-clause-met : goal.commit_at_rest-requires-clause-met
commit_at_rest-requires-clause-met g c = ap (λ (s : ShortageState). s.unmet) c.checkpoint.ensures.shortages_met

pub returns-in-Err-clause-helped : goal.returns-in-Err-clause-helped
returns-in-Err-clause-helped g c =
    let old = c.args.session.now in
    let mid = c.checkpoint.new.session in
    subst IsHelped (sym (failure_keeps mid c.give_up.new.session c.args.client c.args.op c.give_up.result c.give_up.ensures.entered c.give_up.ensures.stepped))
    (stopped_helped old.shortages mid.shortages (c.checkpoint.ensures.shortages_met ∙ ap (λ (r : Result (Unit {0}) WritebackEnd). after_checkpoint (is_ok r) old.shortages) c.in-Err.is))
