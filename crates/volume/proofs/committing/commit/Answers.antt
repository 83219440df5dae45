use Rattle.std.proofs.Common.{ap, ◌∙◌, subst, sym}
use Rattle.core_state.specs.States.{IsState}
use Rattle.vol_session.specs.Sessions.{SessionState}
use Rattle.vol_session.specs.Shortages.{lacked_room}
use Rattle.forest_ops.specs.declared.operation.Reply.{Reply}
use Rattle.volume.specs.Serving.{IsServed}
use Rattle.volume.proofs.Replying.{change_is_done}
use Rattle.volume.proofs.Helped.{tried_helped}
use Rattle.volume.proofs.Served.{made_served, not_made, served_later}
use Rattle.volume.proofs.committing.commit.Goals as goal

pub settle-requires-clause-intended : goal.settle-requires-clause-intended
settle-requires-clause-intended g c =
    let why = c.in-Err.ensures.err in
    (not_made g.O.Opening.found g.D.Devices.state c.args.client c.args.op c.in-Err.not.op c.args.reply c.in-Err.not.reply c.args.session.now c.commit-committed.new.self c.in-Err.not.answer c.memory.result.now c.memory.ensures.memory c.see_kept.ensures.kept why.0 why.1 why.2 why.3 c.commit-committed.ensures.devices
    c.requires.intended).intended

pub settle-requires-clause-unmade : goal.settle-requires-clause-unmade
settle-requires-clause-unmade g c =
    let why = c.in-Err.ensures.err in
    (not_made g.O.Opening.found g.D.Devices.state c.args.client c.args.op c.in-Err.not.op c.args.reply c.in-Err.not.reply c.args.session.now c.commit-committed.new.self c.in-Err.not.answer c.memory.result.now c.memory.ensures.memory c.see_kept.ensures.kept why.0 why.1 why.2 why.3 c.commit-committed.ensures.devices
    c.requires.intended).unmade

pub returns-in-Err-clause-served : goal.returns-in-Err-clause-served
returns-in-Err-clause-served g c =
    let why = c.in-Err.ensures.err in
    let state = g.D.Devices.state in
    let not = not_made g.O.Opening.found state c.args.client c.args.op c.in-Err.not.op c.args.reply c.in-Err.not.reply c.args.session.now c.commit-committed.new.self c.in-Err.not.answer c.memory.result.now c.memory.ensures.memory c.see_kept.ensures.kept why.0 why.1 why.2 why.3 c.commit-committed.ensures.devices
    c.requires.intended in
    served_later g.O.Opening.found state c.args.client c.settle.result c.args.op c.in-Err.not.op c.args.session.now c.commit-committed.new.self c.settle.new.session not.moved why.1 c.settle.ensures.served

pub commit-committed-requires-clause-client : goal.commit-committed-requires-clause-client
commit-committed-requires-clause-client g c = c.requires.intended.under.there

pub done_reply-told-requires : goal.done_reply-told-requires
done_reply-told-requires g c = change_is_done c.args.op c.args.reply c.requires.intended.change

pub returns-in-Ok-clause-served : goal.returns-in-Ok-clause-served
returns-in-Ok-clause-served g c =
    let entered = c.in-Ok.ensures.entry in
    let state = g.D.Devices.state in
    subst (λ (reply : Reply). IsServed g.O.Opening.found state c.args.client c.args.op reply c.args.session.now c.commit-committed.new.self) (sym c.done_reply-told.ensures)
    (made_served g.O.Opening.found state c.args.client c.args.op c.args.reply c.args.session.now c.commit-committed.new.self (subst IsState c.memory.ensures.memory c.see_kept.ensures.kept) c.requires.intended c.in-Ok.ensures.made
    (ap (λ (s : SessionState g.row.D.Denot). s.trace) entered) (ap (λ (s : SessionState g.row.D.Denot). s.acks) entered) c.commit-committed.ensures.devices)

pub returns-in-Ok-clause-helped : goal.returns-in-Ok-clause-helped
returns-in-Ok-clause-helped g c = λ helped.
    tried_helped (lacked_room c.commit-committed.result) c.args.session.now.shortages c.commit-committed.new.self.shortages (ap lacked_room c.in-Ok.is) c.commit-committed.ensures.commit_counted helped.met

pub returns-in-Err-clause-helped : goal.returns-in-Err-clause-helped
returns-in-Err-clause-helped g c = λ helped.
    c.settle.ensures.helped (λ none. tried_helped (lacked_room c.commit-committed.result) c.args.session.now.shortages c.commit-committed.new.self.shortages (ap lacked_room c.in-Err.is ∙ none) c.commit-committed.ensures.commit_counted helped.met)
