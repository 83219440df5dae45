-- A snapshot is made where the slot of the copy takes it.
use Rattle.std.proofs.Common.{sym, ap, ◌∙◌}
use Rattle.std.specs.Prelude.{Result}
use Rattle.forest_ops.specs.Refusals.{◌>>=◌}
use Rattle.forest_ops.specs.declared.operation.Cause.{Cause}
use Rattle.path_plan.specs.LookLaws.{gave_before}
use Rattle.snap_tree.specs.Snaps.{live_leaves}
use Rattle.subvol_ops.specs.Plans.{copied_drawn, room_among}
use Rattle.subvol_ops.proofs.snapshots.copy_leaf.Goals as goal

pub returns-in-Err-room_among-clause-is : goal.returns-in-Err-room_among-clause-is
returns-in-Err-room_among-clause-is g c = λ keys sub snap seen subs_is led.
    let others_is = c.in-Ok.ensures.subs keys seen.gives in
    let leaves = c.live_leaves.ensures ∙ ap live_leaves (sym seen.ids) in
    ap (λ (r : Result (Unit {0}) Cause). r >>= (λ _. copied_drawn keys c.args.source.now c.args.copy.now c.args.locked (sub, snap)))
    (sym c.in-Err-room_among.is ∙ c.room_among.ensures ∙ (λ i. room_among (c.as_slice.ensures i) ((c.as_slice-2.ensures ∙ others_is) i) (leaves i)))

pub returns-clause-is : goal.returns-clause-is
returns-clause-is g c = λ keys sub snap seen subs_is led.
    let before = gave_before keys (g.V.View.made c.subs_at.new.view) (g.V.View.made c.counter.new.view) c.in-Ok-counter.ensures.looks seen.gives in
    let others_is = c.in-Ok.ensures.subs keys before in
    let leaves = c.live_leaves.ensures ∙ ap live_leaves (sym seen.ids) in
    c.in_ok-copy_drawn.ensures keys sub snap subs_is others_is led (sym (c.in-Ok-counter.ensures.next keys seen.gives))
    ∙ ap (λ (r : Result (Unit {0}) Cause). r >>= (λ _. copied_drawn keys c.args.source.now c.args.copy.now c.args.locked (sub, snap)))
    (sym c.in_default.is ∙ c.room_among.ensures ∙ (λ i. room_among (c.as_slice.ensures i) ((c.as_slice-2.ensures ∙ others_is) i) (leaves i)))
