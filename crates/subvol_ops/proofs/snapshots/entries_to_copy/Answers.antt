-- The copy of the source, which has moved.
use Rattle.std.proofs.Common.{ap, ◌∙◌}
use Rattle.id_steps.specs.SlotLists.{with_sub}
use Rattle.id_steps.specs.Steps.{slots_updates}
use Rattle.path_plan.specs.LookLaws.{carried}
use Rattle.subvol_ops.specs.Slots.{slot_taken, with_moved}
use Rattle.subvol_ops.proofs.snapshots.entries_to_copy.Goals as goal

pub returns : goal.returns
returns c = carried c.put_copy.result _ _
    (λ updates are sub same.
    let source = c.args.source.now in
    let copy = c.args.copy.now in
    let moved = c.in-Ok-with_moved.ensures ∙ ap (λ n. with_moved n c.args.id c.args.subs) c.as_slice.ensures in
    let named = c.in-Ok.ensures sub same in
    are ∙ (λ i. slots_updates source copy (moved i) (with_sub (named i) (slot_taken source copy (moved i) c.args.others))))
    c.put_copy.ensures
