-- The refusals of the forest in its order, and then a dead leaf and a name less.
use Rattle.std.proofs.Common.{Some, refl, sym, ap, ◌∙◌, subst}
use Rattle.std.specs.Prelude.{Ok}
use Rattle.forest_ops.specs.Refusals.{◌>>=◌, Agrees}
use Rattle.forest_ops.specs.Steps.{next_of, without_subvolume}
use Rattle.forest_ops.specs.Subvolumes.{good_subvolume}
use Rattle.forest_ops.specs.declared.operation.Reply.TheVariants.{Okay}
use Rattle.id_steps.proofs.Slots.{slot_in_range}
use Rattle.id_steps.specs.SlotLists.{without_sub}
use Rattle.key_meaning.specs.Forest.{forest_in, subs_in}
use Rattle.path_plan.specs.LookLaws.{carried, given_is_seen}
use Rattle.path_plan.specs.Made.{AreOfStep}
use Rattle.subvol_ops.proofs.Chains.{found_is, removal_agrees, tree_found, tree_is_found}
use Rattle.subvol_ops.proofs.Looked.{held_in_range}
use Rattle.subvol_ops.proofs.MadeUpdates.{removal_is_made}
use Rattle.subvol_ops.specs.Plans.{found_in, subvolume_removed, updates_to_remove}
use Rattle.vol_digest.specs.Digests.{slot_of}
use Rattle.vol_types.specs.Maps.{without}
use Rattle.vol_types.specs.Ranges.{name_cmp}
use Rattle.vol_types.specs.declared.positions.Btree.TheVariants.{Subvols}
use Rattle.subvol_ops.proofs.removing.remove_subvolume.Goals as goal

pub returns-clause-is : goal.returns-clause-is
returns-clause-is g c = carried c.remove_in.result _ _ (λ result is keys given. is keys (given_is_seen keys (g.V.View.made c.remove_in.new.view) (g.V.View.told c.remove_in.new.view) c.deref.result.now (c.remove_in.ensures.ids ∙ c.in_ok-tree.ensures.ok ∙ ap Some (sym c.deref.ensures)) given)) c.remove_in.ensures.is

pub returns-clause-made : goal.returns-clause-made
returns-clause-made g c = carried c.remove_in.result _ _
    (λ result is keys nodes layout given sound tidy read.
    let seen = given_is_seen keys (g.V.View.made c.remove_in.new.view) (g.V.View.told c.remove_in.new.view) c.deref.result.now (c.remove_in.ensures.ids ∙ c.in_ok-tree.ensures.ok ∙ ap Some (sym c.deref.ensures)) given in
    let name = c.args.name.now in
    let forest = forest_in keys read in
    let subs = subs_in keys (slot_of name) in
    let left = without_sub name subs in
    let next = next_of Okay (record forest { subvolumes = without name_cmp name forest.subvolumes }) in
    let puts = c.slots_take_subvolumes.ensures.removed name subs (held_in_range _ (slot_in_range keys keys (slot_of name) (tidy.drawn.each Subvols))) in
    subst (λ p. Agrees (AreOfStep keys nodes layout read) p (without_subvolume name forest)) (sym (is keys seen))
    (subst (λ r. Agrees (AreOfStep keys nodes layout read) (subvolume_removed keys name) ((good_subvolume name >>= (λ _. r >>= (λ _. Ok tt))) >>= (λ _. Ok next))) (sym (tree_is_found keys read name sound.leaves))
    (removal_agrees (AreOfStep keys nodes layout read) (good_subvolume name) (found_in keys name) (tree_found keys read) (updates_to_remove name subs) next (λ found good there.
    let at = found_is keys name found there in
    let all = c.subvolumes_are_removed.ensures.sound keys nodes layout name found.0 found.1 left seen.is_map sound tidy at.sub at.leaf puts in record {
      reply = refl;
      means = c.subvolumes_are_removed.ensures.means keys nodes layout name found.0 found.1 left read seen.is_map sound tidy at.sub at.leaf puts;
      sound = all.0;
      tidy = all.1;
      made = removal_is_made name found.0 found.1 left puts.in_range;
    }))))
    c.remove_in.ensures.is
