use Rattle.std.proofs.Common.{ap, inr, subst, sym}
use Rattle.vol_core.specs.Rested.{IsRested}
use Rattle.core_state.specs.States.{IsState}
use Rattle.forest_ops.specs.declared.operation.Reply.{Reply}
use Rattle.vol_session.specs.Sessions.{SessionState}
use Rattle.vol_session.specs.Shortages.{IsHelped, lacked_room, met_at_rest}
use Rattle.volume.specs.Serving.{IsServed}
use Rattle.volume.proofs.Replying.{change_is_done}
use Rattle.volume.proofs.Helped.{rest_helped, rest_is, tried_helped}
use Rattle.volume.proofs.Served.{made_served, met_not_made, not_made, served_later, unserved_later}
use Rattle.volume.proofs.committing.commit_at_rest.Goals as goal

pub meet_at_rest-requires : goal.meet_at_rest-requires
meet_at_rest-requires g c =
    let why = c.in-Err.ensures.err in
    let not = not_made g.O.Opening.found g.D.Devices.state c.args.client c.args.op c.in-Err.not.op c.args.reply c.in-Err.not.reply c.args.session.now c.commit-committed.new.self c.in-Err.not.answer c.memory.result.now c.memory.ensures.memory c.see_kept.ensures.kept why.0 why.1 why.2 why.3 c.commit-committed.ensures.devices
    c.requires.intended in
    subst IsRested (sym not.volume) c.requires.rested

pub fail_uncommitted-requires-clause-intended : goal.fail_uncommitted-requires-clause-intended
fail_uncommitted-requires-clause-intended g c =
    let why = c.in-Err.ensures.err in
    let not = not_made g.O.Opening.found g.D.Devices.state c.args.client c.args.op c.in-Err.not.op c.args.reply c.in-Err.not.reply c.args.session.now c.commit-committed.new.self c.in-Err.not.answer c.memory.result.now c.memory.ensures.memory c.see_kept.ensures.kept why.0 why.1 why.2 why.3 c.commit-committed.ensures.devices
    c.requires.intended in
    record { reply = c.in-Err.not.reply; intended = (met_not_made g.O.Opening.found g.D.Devices.state c.args.client c.in-Err.not.answer c.in-Err.not.op c.in-Err.not.reply c.args.session.now c.commit-committed.new.self c.meet_at_rest.new.self (rest_is c.commit-committed.new.self c.meet_at_rest.new.self (met_at_rest c.commit-committed.new.self.shortages) c.meet_at_rest.ensures) not).intended }

pub fail_uncommitted-requires-clause-unmade : goal.fail_uncommitted-requires-clause-unmade
fail_uncommitted-requires-clause-unmade g c =
    let why = c.in-Err.ensures.err in
    let not = not_made g.O.Opening.found g.D.Devices.state c.args.client c.args.op c.in-Err.not.op c.args.reply c.in-Err.not.reply c.args.session.now c.commit-committed.new.self c.in-Err.not.answer c.memory.result.now c.memory.ensures.memory c.see_kept.ensures.kept why.0 why.1 why.2 why.3 c.commit-committed.ensures.devices
    c.requires.intended in
    (met_not_made g.O.Opening.found g.D.Devices.state c.args.client c.in-Err.not.answer c.in-Err.not.op c.in-Err.not.reply c.args.session.now c.commit-committed.new.self c.meet_at_rest.new.self (rest_is c.commit-committed.new.self c.meet_at_rest.new.self (met_at_rest c.commit-committed.new.self.shortages) c.meet_at_rest.ensures) not).unmade

pub fail_uncommitted-requires-clause-helpless : goal.fail_uncommitted-requires-clause-helpless
fail_uncommitted-requires-clause-helpless g c =
    let why = c.in-Err.ensures.err in
    let not = not_made g.O.Opening.found g.D.Devices.state c.args.client c.args.op c.in-Err.not.op c.args.reply c.in-Err.not.reply c.args.session.now c.commit-committed.new.self c.in-Err.not.answer c.memory.result.now c.memory.ensures.memory c.see_kept.ensures.kept why.0 why.1 why.2 why.3 c.commit-committed.ensures.devices
    c.requires.intended in
    inr (subst IsRested (sym (met_not_made g.O.Opening.found g.D.Devices.state c.args.client c.in-Err.not.answer c.in-Err.not.op c.in-Err.not.reply c.args.session.now c.commit-committed.new.self c.meet_at_rest.new.self (rest_is c.commit-committed.new.self c.meet_at_rest.new.self (met_at_rest c.commit-committed.new.self.shortages) c.meet_at_rest.ensures) not).volume) c.requires.rested)

pub returns-in-Err-clause-served : goal.returns-in-Err-clause-served
returns-in-Err-clause-served g c =
    let why = c.in-Err.ensures.err in
    let state = g.D.Devices.state in
    let not = not_made g.O.Opening.found g.D.Devices.state c.args.client c.args.op c.in-Err.not.op c.args.reply c.in-Err.not.reply c.args.session.now c.commit-committed.new.self c.in-Err.not.answer c.memory.result.now c.memory.ensures.memory c.see_kept.ensures.kept why.0 why.1 why.2 why.3 c.commit-committed.ensures.devices
    c.requires.intended in
    served_later g.O.Opening.found state c.args.client c.fail_uncommitted.result c.args.op c.in-Err.not.op c.args.session.now c.meet_at_rest.new.self c.fail_uncommitted.new.session (met_not_made g.O.Opening.found g.D.Devices.state c.args.client c.in-Err.not.answer c.in-Err.not.op c.in-Err.not.reply c.args.session.now c.commit-committed.new.self c.meet_at_rest.new.self (rest_is c.commit-committed.new.self c.meet_at_rest.new.self (met_at_rest c.commit-committed.new.self.shortages) c.meet_at_rest.ensures) not).moved why.1 c.fail_uncommitted.ensures.served

pub returns-in-Err-clause-unserved : goal.returns-in-Err-clause-unserved
returns-in-Err-clause-unserved g c =
    let why = c.in-Err.ensures.err in
    let state = g.D.Devices.state in
    let not = not_made g.O.Opening.found g.D.Devices.state c.args.client c.args.op c.in-Err.not.op c.args.reply c.in-Err.not.reply c.args.session.now c.commit-committed.new.self c.in-Err.not.answer c.memory.result.now c.memory.ensures.memory c.see_kept.ensures.kept why.0 why.1 why.2 why.3 c.commit-committed.ensures.devices
    c.requires.intended in
    unserved_later g.O.Opening.found state c.args.client c.fail_uncommitted.result c.args.session.now c.meet_at_rest.new.self c.fail_uncommitted.new.session (met_not_made g.O.Opening.found g.D.Devices.state c.args.client c.in-Err.not.answer c.in-Err.not.op c.in-Err.not.reply c.args.session.now c.commit-committed.new.self c.meet_at_rest.new.self (rest_is c.commit-committed.new.self c.meet_at_rest.new.self (met_at_rest c.commit-committed.new.self.shortages) c.meet_at_rest.ensures) not).moved c.fail_uncommitted.ensures.unserved

pub returns-in-Err-clause-helped : goal.returns-in-Err-clause-helped
returns-in-Err-clause-helped g c =
    subst IsHelped (sym c.fail_uncommitted.ensures.shortages)
    (rest_helped (lacked_room c.commit-committed.result) c.args.session.now.shortages c.commit-committed.new.self.shortages c.meet_at_rest.new.self.shortages c.commit-committed.ensures.commit_counted (ap (λ (s : SessionState g.row.D.Denot). s.shortages) c.meet_at_rest.ensures))

pub returns-in-Ok-clause-helped : goal.returns-in-Ok-clause-helped
returns-in-Ok-clause-helped g c =
    tried_helped (lacked_room c.commit-committed.result) c.args.session.now.shortages c.commit-committed.new.self.shortages (ap lacked_room c.in-Ok.is) c.commit-committed.ensures.commit_counted c.requires.met

pub commit-committed-requires-clause-client : goal.commit-committed-requires-clause-client
commit-committed-requires-clause-client g c = c.requires.intended.under.there

pub done_reply-told-requires : goal.done_reply-told-requires
done_reply-told-requires g c = change_is_done c.args.op c.args.reply c.requires.intended.change

pub returns-in-Ok-clause-served : goal.returns-in-Ok-clause-served
returns-in-Ok-clause-served g c =
    let entered = c.in-Ok.ensures.entry in
    let state = g.D.Devices.state in
    subst (λ (reply : Reply). IsServed g.O.Opening.found state c.args.client c.args.op reply c.args.session.now c.commit-committed.new.self) (sym c.done_reply-told.ensures)
    (made_served g.O.Opening.found state c.args.client c.args.op c.args.reply c.args.session.now c.commit-committed.new.self (subst IsState c.memory.ensures.memory c.see_kept.ensures.kept) c.requires.intended c.in-Ok.ensures.made
    (ap (λ (s : SessionState g.row.D.Denot). s.trace) entered) (ap (λ (s : SessionState g.row.D.Denot). s.acks) entered) c.commit-committed.ensures.devices)
