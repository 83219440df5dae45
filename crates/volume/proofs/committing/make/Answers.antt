use Rattle.std.proofs.Common.{◌∙◌, refl}
use Rattle.volume.proofs.Acting.{done_still, plan_intended}
use Rattle.volume.proofs.Helped.{failure_keeps, same_helped, step_keeps}
use Rattle.volume.proofs.Lacking.{entry_is_full}
use Rattle.volume.proofs.Replying.{change_changes, change_is_done, plan_changes, plan_is_done}
use Rattle.volume.proofs.Served.{lack_result, served_later, stepped_moves, unlacked_result, unserved_later}
use Rattle.volume.proofs.committing.make.Goals as goal

pub lack-requires-clause-changes : goal.lack-requires-clause-changes
lack-requires-clause-changes g c = change_changes c.args.plan.op c.args.plan.reply (plan_changes c.args.plan c.requires.planned c.requires.class c.requires.commits)

pub lack-requires-clause-done : goal.lack-requires-clause-done
lack-requires-clause-done g c =
    let change = plan_changes c.args.plan c.requires.planned c.requires.class c.requires.commits in
    done_still c.args.client c.args.plan.op c.args.session.now.core.memory c.intend.new.session.core.memory c.intend.ensures.stepped.volume
    (plan_is_done c.args.session.now.core.memory c.args.client c.args.plan (change_is_done c.args.plan.op c.args.plan.reply change) c.requires.now)

pub commit-requires-clause-intended : goal.commit-requires-clause-intended
commit-requires-clause-intended g c =
    plan_intended c.args.client c.args.plan c.args.session.now.core.memory c.intend.new.session.core.memory c.intend.ensures.stepped.volume c.intend.ensures.under (c.intend.ensures.intended c.if-not-intend.false)
    (c.intend.ensures.fit c.if-not-intend.false) (plan_changes c.args.plan c.requires.planned c.requires.class c.requires.commits) c.requires.commits c.requires.now

pub returns-then-not-intend-clause-served : goal.returns-then-not-intend-clause-served
returns-then-not-intend-clause-served g c =
    let state = g.D.Devices.state in
    let client = c.args.client in
    let old = c.args.session.now in
    let mid = c.intend.new.session in
    let op = c.args.plan.op in
    let short = c.nothing_short.result in
    served_later g.O.Opening.found state client c.lack.result op op old mid c.lack.new.session (stepped_moves g.O.Opening.found state client old mid c.intend.ensures.stepped) refl
    (lack_result g.O.Opening.found state client c.lack.result op short mid c.lack.new.session
    (entry_is_full g.O.Opening.found client c.args.plan old.core.memory mid.core.memory short c.intend.ensures.stepped.volume c.requires.commits c.requires.now c.nothing_short.ensures (c.intend.ensures.unfit c.if-not-intend.true)) c.lack.ensures.entered c.lack.ensures.reply)

pub returns-then-not-intend-clause-helped : goal.returns-then-not-intend-clause-helped
returns-then-not-intend-clause-helped g c =
    let old = c.args.session.now in
    let mid = c.intend.new.session in
    same_helped old c.lack.new.session (failure_keeps mid c.lack.new.session c.args.client c.args.plan.op c.lack.result c.lack.ensures.entered c.lack.ensures.stepped ∙ step_keeps old mid c.intend.ensures.stepped)

pub returns-clause-helped : goal.returns-clause-helped
returns-clause-helped g c = λ helped. c.commit.ensures.helped (same_helped c.args.session.now c.intend.new.session (step_keeps c.args.session.now c.intend.new.session c.intend.ensures.stepped) helped)

pub returns-then-not-intend-clause-unserved : goal.returns-then-not-intend-clause-unserved
returns-then-not-intend-clause-unserved g c =
    let found = g.O.Opening.found in
    let state = g.D.Devices.state in
    let client = c.args.client in
    let mid = c.intend.new.session in
    unserved_later found state client c.lack.result c.args.session.now mid c.lack.new.session (stepped_moves found state client c.args.session.now mid c.intend.ensures.stepped)
    (unlacked_result found state client c.lack.result mid c.lack.new.session c.lack.ensures.stepped c.lack.ensures.rest)

pub returns-clause-served : goal.returns-clause-served
returns-clause-served g c =
    let found = g.O.Opening.found in
    let state = g.D.Devices.state in
    let client = c.args.client in
    let op = c.args.plan.op in
    let mid = c.intend.new.session in
    served_later found state client c.commit.result op op c.args.session.now mid c.commit.new.session (stepped_moves found state client c.args.session.now mid c.intend.ensures.stepped) refl c.commit.ensures.served

pub returns-clause-unserved : goal.returns-clause-unserved
returns-clause-unserved g c =
    let found = g.O.Opening.found in
    let state = g.D.Devices.state in
    let client = c.args.client in
    let mid = c.intend.new.session in
    unserved_later found state client c.commit.result c.args.session.now mid c.commit.new.session (stepped_moves found state client c.args.session.now mid c.intend.ensures.stepped) c.commit.ensures.unserved
