use Rattle.std.proofs.Common.{◌≡◌, sym, ap, ◌∙◌}
use Rattle.plain_forest.specs.Maps.{name_cmp, changed_at}
use Rattle.forest_ops.specs.Tallies.{counted}
use Rattle.forest_ops.specs.Names.{count_in_slot}
use Rattle.forest_ops.specs.Places.{changed}
use Rattle.forest_ops.proofs.Counting.{slot_changed}
use Rattle.forest_ops.proofs.Keeping.{either}
use Rattle.forest_ops.proofs.subvolumes.Subvolumes.change.Goals as goal

pub invariant_of-self : goal.invariant_of-self
invariant_of-self c slot =
    let old = c.self.inside.trees.entries in
    let new = c.change_tree.new.trees.entries in
    either c.change_tree.result (new ≡ changed_at name_cmp c.args.name.now (changed c.args.change.now) old) (new ≡ old) (counted slot c.self.inside.slots ≡ count_in_slot slot new)
    (λ done. c.self.invariant slot ∙ sym (ap (count_in_slot slot) done ∙ slot_changed c.args.name.now (changed c.args.change.now) slot old))
    (λ same. c.self.invariant slot ∙ sym (ap (count_in_slot slot) same)) c.change_tree.ensures.ok c.change_tree.ensures.err
