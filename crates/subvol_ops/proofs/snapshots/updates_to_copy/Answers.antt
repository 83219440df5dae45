-- The leaf that is split, the slots, and the ids that are drawn, one after the other.
use Rattle.std.proofs.Common.{◌-◌, [], ◌∷◌, ◌++◌, sym, ap, ◌∙◌}
use Rattle.id_steps.specs.Entries.{counter_update}
use Rattle.id_steps.specs.Ids.{split_updates}
use Rattle.id_steps.specs.SlotLists.{with_sub}
use Rattle.id_steps.specs.Steps.{copied_to, slots_updates}
use Rattle.path_plan.specs.LookLaws.{carried}
use Rattle.subvol_ops.specs.Slots.{slot_taken, with_moved}
use Rattle.subvol_ops.proofs.snapshots.updates_to_copy.Goals as goal

pub returns : goal.returns
returns c = carried c.joined-2.result _ _
    (λ updates are keys sub snap subs_is others_is led next_is.
    let source = c.args.source.now in
    let copy = c.args.copy.now in
    let id = c.args.id in
    let entries = c.in_ok-entries.ensures sub (sym (λ i. (led i).root)) in
    are
    ∙ (λ i. c.in_ok-split.ensures i ++ (c.in_ok-both.ensures ∙ (λ j. entries j ++ (c.in_ok-drawn.ensures ∙ ap (λ u. u ∷ []) (c.counter_update.ensures ∙ ap (counter_update 16) c.from.ensures)) j)) i)
    ∙ (λ i. let p = sym next_is i in
    split_updates (led i).id p (p - 1) (led i).snap
    ++ slots_updates source copy (with_moved source p (subs_is i)) (with_sub (copied_to (p - 1) copy c.args.locked sub) (slot_taken source copy (with_moved source p (subs_is i)) (others_is i)))
    ++ counter_update 16 (p - 2) ∷ []))
    c.joined-2.ensures
