use Rattle.std.proofs.Common.{subst, true}
use Rattle.core_state.specs.Events.{intended_by}
use Rattle.core_volume.specs.Rulings.{IsRefused}
use Rattle.core_actors.specs.declared.answer.Refusal.{Refusal}
use Rattle.vol_session.specs.Shortages.{lacks_room}
use Rattle.volume.specs.Serving.{IsHelpless}
use Rattle.volume.proofs.Helped.{entry_keeps, failure_keeps}
use Rattle.volume.proofs.Lacking.{buckets_are_full, commit_is_spent, leaf_is_full, ring_is_full}
use Rattle.volume.proofs.Replying.{change_changes, intended_is_done}
use Rattle.volume.proofs.Served.{halted_served, lack_result, spent_served, unlacked_result}
use Rattle.volume.proofs.committing.refuse.Goals as goal

pub fail_halted-requires-clause-changes : goal.fail_halted-requires-clause-changes
fail_halted-requires-clause-changes g c = change_changes c.args.op c.requires.intended.reply c.requires.intended.intended.change

pub fail_halted-requires-clause-done : goal.fail_halted-requires-clause-done
fail_halted-requires-clause-done g c = intended_is_done c.args.session.now.core.memory c.args.client c.args.op c.requires.intended.reply c.requires.intended.intended

pub fail_spent-requires-clause-changes : goal.fail_spent-requires-clause-changes
fail_spent-requires-clause-changes g c = change_changes c.args.op c.requires.intended.reply c.requires.intended.intended.change

pub fail_spent-requires-clause-done : goal.fail_spent-requires-clause-done
fail_spent-requires-clause-done g c = intended_is_done c.args.session.now.core.memory c.args.client c.args.op c.requires.intended.reply c.requires.intended.intended

pub lack-requires-clause-changes : goal.lack-requires-clause-changes
lack-requires-clause-changes g c = change_changes c.args.op c.requires.intended.reply c.requires.intended.intended.change

pub lack-requires-clause-done : goal.lack-requires-clause-done
lack-requires-clause-done g c = intended_is_done c.args.session.now.core.memory c.args.client c.args.op c.requires.intended.reply c.requires.intended.intended

pub lack-requires-in-RingFull-clause-changes : goal.lack-requires-in-RingFull-clause-changes
lack-requires-in-RingFull-clause-changes g c = change_changes c.args.op c.requires.intended.reply c.requires.intended.intended.change

pub lack-requires-in-RingFull-clause-done : goal.lack-requires-in-RingFull-clause-done
lack-requires-in-RingFull-clause-done g c = intended_is_done c.args.session.now.core.memory c.args.client c.args.op c.requires.intended.reply c.requires.intended.intended

pub lack-requires-in-NoSpace-clause-changes : goal.lack-requires-in-NoSpace-clause-changes
lack-requires-in-NoSpace-clause-changes g c = change_changes c.args.op c.requires.intended.reply c.requires.intended.intended.change

pub lack-requires-in-NoSpace-clause-done : goal.lack-requires-in-NoSpace-clause-done
lack-requires-in-NoSpace-clause-done g c = intended_is_done c.args.session.now.core.memory c.args.client c.args.op c.requires.intended.reply c.requires.intended.intended

pub returns-in-RingFull-clause-served : goal.returns-in-RingFull-clause-served
returns-in-RingFull-clause-served g c =
    let memory = c.args.session.now.core.memory in
    let refused = subst (λ (refusal : Refusal). IsRefused memory.volume (intended_by memory c.args.client) true refusal) c.in-RingFull.is c.requires.refused in
    let helpless = subst (λ (refusal : Refusal). IsHelpless memory.volume (lacks_room refusal)) c.in-RingFull.is c.requires.helpless in
    lack_result g.O.Opening.found g.D.Devices.state c.args.client c.lack-in-RingFull.result c.args.op c.nothing_short-in-RingFull.result c.args.session.now c.lack-in-RingFull.new.session
    (ring_is_full g.O.Opening.found memory c.args.client c.args.op c.requires.intended c.memory.ensures.rested c.in-RingFull.field-0 c.nothing_short-in-RingFull.result c.nothing_short-in-RingFull.ensures helpless refused) c.lack-in-RingFull.ensures.entered c.lack-in-RingFull.ensures.reply

pub returns-in-NoSpace-clause-served : goal.returns-in-NoSpace-clause-served
returns-in-NoSpace-clause-served g c =
    let memory = c.args.session.now.core.memory in
    let refused = subst (λ (refusal : Refusal). IsRefused memory.volume (intended_by memory c.args.client) true refusal) c.in-NoSpace.is c.requires.refused in
    let helpless = subst (λ (refusal : Refusal). IsHelpless memory.volume (lacks_room refusal)) c.in-NoSpace.is c.requires.helpless in
    lack_result g.O.Opening.found g.D.Devices.state c.args.client c.lack-in-NoSpace.result c.args.op c.in-NoSpace.none.short c.args.session.now c.lack-in-NoSpace.new.session
    (buckets_are_full g.O.Opening.found memory c.args.client c.args.op c.requires.intended c.memory.ensures.rested c.in-NoSpace.none helpless refused) c.lack-in-NoSpace.ensures.entered c.lack-in-NoSpace.ensures.reply

pub returns-in-NeedSplit-clause-served : goal.returns-in-NeedSplit-clause-served
returns-in-NeedSplit-clause-served g c =
    let memory = c.args.session.now.core.memory in
    let refused = subst (λ (refusal : Refusal). IsRefused memory.volume (intended_by memory c.args.client) true refusal) c.in-NeedSplit.is c.requires.refused in
    lack_result g.O.Opening.found g.D.Devices.state c.args.client c.lack.result c.args.op c.nothing_short.result c.args.session.now c.lack.new.session
    (leaf_is_full g.O.Opening.found memory c.args.client c.args.op c.requires.intended c.in-NeedSplit.field-0 c.nothing_short.result c.nothing_short.ensures refused) c.lack.ensures.entered c.lack.ensures.reply

pub returns-in-Spent-clause-served : goal.returns-in-Spent-clause-served
returns-in-Spent-clause-served g c =
    let memory = c.args.session.now.core.memory in
    let refused = subst (λ (refusal : Refusal). IsRefused memory.volume (intended_by memory c.args.client) true refusal) c.in-Spent.is c.requires.refused in
    spent_served g.O.Opening.found g.D.Devices.state c.args.client c.args.op c.fail_spent.result c.args.session.now c.fail_spent.new.session c.fail_spent.ensures.reply (commit_is_spent g.O.Opening.found memory c.args.client c.args.op c.requires.intended refused) c.fail_spent.ensures.entered

pub returns-in-Halted-clause-shortages : goal.returns-in-Halted-clause-shortages
returns-in-Halted-clause-shortages g c = entry_keeps c.args.session.now c.fail_halted.new.session c.args.client c.args.op c.fail_halted.result c.fail_halted.ensures.entered

pub returns-in-Spent-clause-shortages : goal.returns-in-Spent-clause-shortages
returns-in-Spent-clause-shortages g c = entry_keeps c.args.session.now c.fail_spent.new.session c.args.client c.args.op c.fail_spent.result c.fail_spent.ensures.entered

pub returns-in-NeedSplit-clause-shortages : goal.returns-in-NeedSplit-clause-shortages
returns-in-NeedSplit-clause-shortages g c = failure_keeps c.args.session.now c.lack.new.session c.args.client c.args.op c.lack.result c.lack.ensures.entered c.lack.ensures.stepped

pub returns-in-RingFull-clause-shortages : goal.returns-in-RingFull-clause-shortages
returns-in-RingFull-clause-shortages g c = failure_keeps c.args.session.now c.lack-in-RingFull.new.session c.args.client c.args.op c.lack-in-RingFull.result c.lack-in-RingFull.ensures.entered c.lack-in-RingFull.ensures.stepped

pub returns-in-NoSpace-clause-shortages : goal.returns-in-NoSpace-clause-shortages
returns-in-NoSpace-clause-shortages g c = failure_keeps c.args.session.now c.lack-in-NoSpace.new.session c.args.client c.args.op c.lack-in-NoSpace.result c.lack-in-NoSpace.ensures.entered c.lack-in-NoSpace.ensures.stepped

pub returns-in-Halted-clause-served : goal.returns-in-Halted-clause-served
returns-in-Halted-clause-served g c =
    let memory = c.args.session.now.core.memory in
    let refused = subst (λ (refusal : Refusal). IsRefused memory.volume (intended_by memory c.args.client) true refusal) c.in-Halted.is c.requires.refused in
    halted_served g.O.Opening.found g.D.Devices.state c.args.client c.args.op c.fail_halted.result c.in-Halted.halt c.args.session.now c.fail_halted.new.session c.fail_halted.ensures.reply refused c.fail_halted.ensures.entered

pub returns-in-NeedSplit-clause-unserved : goal.returns-in-NeedSplit-clause-unserved
returns-in-NeedSplit-clause-unserved g c = unlacked_result g.O.Opening.found g.D.Devices.state c.args.client c.lack.result c.args.session.now c.lack.new.session c.lack.ensures.stepped c.lack.ensures.rest

pub returns-in-RingFull-clause-unserved : goal.returns-in-RingFull-clause-unserved
returns-in-RingFull-clause-unserved g c = unlacked_result g.O.Opening.found g.D.Devices.state c.args.client c.lack-in-RingFull.result c.args.session.now c.lack-in-RingFull.new.session c.lack-in-RingFull.ensures.stepped c.lack-in-RingFull.ensures.rest

pub returns-in-NoSpace-clause-unserved : goal.returns-in-NoSpace-clause-unserved
returns-in-NoSpace-clause-unserved g c = unlacked_result g.O.Opening.found g.D.Devices.state c.args.client c.lack-in-NoSpace.result c.args.session.now c.lack-in-NoSpace.new.session c.lack-in-NoSpace.ensures.stepped c.lack-in-NoSpace.ensures.rest

pub fail_halted-requires-clause-under : goal.fail_halted-requires-clause-under
fail_halted-requires-clause-under g c = c.requires.intended.intended.under

pub fail_halted-requires-clause-planned : goal.fail_halted-requires-clause-planned
fail_halted-requires-clause-planned g c = c.requires.intended.intended.change.planned

pub fail_spent-requires-clause-under : goal.fail_spent-requires-clause-under
fail_spent-requires-clause-under g c = c.requires.intended.intended.under

pub fail_spent-requires-clause-planned : goal.fail_spent-requires-clause-planned
fail_spent-requires-clause-planned g c = c.requires.intended.intended.change.planned

pub lack-requires-clause-under : goal.lack-requires-clause-under
lack-requires-clause-under g c = c.requires.intended.intended.under

pub lack-requires-clause-planned : goal.lack-requires-clause-planned
lack-requires-clause-planned g c = c.requires.intended.intended.change.planned

pub lack-requires-in-RingFull-clause-under : goal.lack-requires-in-RingFull-clause-under
lack-requires-in-RingFull-clause-under g c = c.requires.intended.intended.under

pub lack-requires-in-RingFull-clause-planned : goal.lack-requires-in-RingFull-clause-planned
lack-requires-in-RingFull-clause-planned g c = c.requires.intended.intended.change.planned

pub lack-requires-in-NoSpace-clause-under : goal.lack-requires-in-NoSpace-clause-under
lack-requires-in-NoSpace-clause-under g c = c.requires.intended.intended.under

pub lack-requires-in-NoSpace-clause-planned : goal.lack-requires-in-NoSpace-clause-planned
lack-requires-in-NoSpace-clause-planned g c = c.requires.intended.intended.change.planned
