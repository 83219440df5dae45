use Rattle.std.proofs.Common.{rules, ap, ◌∙◌, ◌+◌}
use Rattle.lock_tests.specs.Drawing.{IsReady}
use Rattle.turn_cell.specs.Handles.{view}
use Rattle.lock_tests.proofs.Drawing.{back_same, back_joined, may_give, ready_next}
use Rattle.lock_tests.proofs.draws.+draw_beside+fn-draw_beside-join+arg3.Goals as goal

pub returns-then-next-actors-clause-ledger : goal.returns-then-next-actors-clause-ledger
returns-then-next-actors-clause-ledger g t c = back_same _ _ _ _ c.requires.rest c.draw-done.ensures.same.1

pub split-other-requires-clause-actor : goal.split-other-requires-clause-actor
split-other-requires-clause-actor g t c = may_give _ _ _ c.requires.rest c.if-next-actors.false

pub join-done-requires-after_bounds : goal.join-done-requires-after_bounds
join-done-requires-after_bounds g t c κs within =
    let ready : IsReady (c.args.next + 1) c.args.actors (view c.split-other.new.pass) = ready_next c.args.next c.args.actors (view c.args.first) (view c.split-other.new.pass) c.requires.rest c.split-other.ensures.old in
    search rules

pub returns-clause-ledger : goal.returns-clause-ledger
returns-clause-ledger g t c =
    back_joined c.args.next c.args.actors (view c.args.first) (view c.split-other.new.pass) _ (view c.join-done.result.0.pass) _ c.requires.rest c.split-other.ensures.old c.join-done.ensures.second.2
    (c.join-done.ensures.first.1 ∙ ap (λ v. v.actor) c.split-other.ensures.new) c.join-done.result.0.pass.ticket.live c.join.ensures.view
