-- The refusals of the forest in its order, and then a leaf that is split.
use Rattle.std.proofs.Common.{◌-◌, Some, refl, sym, ap, ◌∙◌, subst, arith}
use Rattle.std.specs.Prelude.{IsSome, Ok, is_some}
use Rattle.std.specs.Option.{ok_or}
use Rattle.forest_ops.specs.Refusals.{◌>>=◌, Agrees}
use Rattle.forest_ops.specs.Steps.{next_of, with_snapshot}
use Rattle.forest_ops.specs.Subvolumes.{good_subvolume}
use Rattle.forest_ops.specs.declared.operation.Cause.TheVariants.{IdsSpent}
use Rattle.forest_ops.specs.declared.operation.Reply.TheVariants.{Okay}
use Rattle.id_steps.proofs.Slots.{slot_in_range}
use Rattle.id_steps.specs.Entries.{PutsSub, sub_of}
use Rattle.id_steps.specs.Steps.{copied_to, moved_to}
use Rattle.key_meaning.specs.Forest.{forest_in, next_in, subs_in}
use Rattle.key_meaning.specs.SoundLaws.{sub_named-in}
use Rattle.key_meaning.specs.Tidy.{id_counter}
use Rattle.path_plan.specs.LookLaws.{carried, given_is_seen}
use Rattle.path_plan.specs.Made.{AreOfStep}
use Rattle.plain_forest.specs.Forest.{Tree}
use Rattle.subvol_ops.proofs.Chains.{found_is, good_is, ids_alike, ids_left, room_is, room_is_new, snapshot_agrees, tree_found, tree_is_found}
use Rattle.subvol_ops.proofs.Looked.{held_in_range}
use Rattle.subvol_ops.proofs.MadeUpdates.{snapshot_is_made}
use Rattle.subvol_ops.proofs.Moved.{good_is_name, moved_is_other, takes_copy}
use Rattle.subvol_ops.specs.Plans.{copies_then, found_in, room_in, snapshot_made, sources_then, updates_to_copy}
use Rattle.subvol_ops.specs.Slots.{next_id}
use Rattle.vol_digest.specs.Digests.{slot_of}
use Rattle.vol_types.specs.Maps.{with_value}
use Rattle.vol_types.specs.Ranges.{name_cmp}
use Rattle.vol_types.specs.declared.positions.Btree.TheVariants.{Subvols}
use Rattle.subvol_ops.proofs.snapshots.make_snapshot.Goals as goal

pub returns-clause-is : goal.returns-clause-is
returns-clause-is g c = carried c.snapshot_in.result _ _ (λ result is keys given. is keys (given_is_seen keys (g.V.View.made c.snapshot_in.new.view) (g.V.View.told c.snapshot_in.new.view) c.deref.result.now (c.snapshot_in.ensures.ids ∙ c.in_ok-tree.ensures.ok ∙ ap Some (sym c.deref.ensures)) given)) c.snapshot_in.ensures.is

pub returns-clause-made : goal.returns-clause-made
returns-clause-made g c = carried c.snapshot_in.result _ _
    (λ result is keys nodes layout given sound tidy read.
    let seen = given_is_seen keys (g.V.View.made c.snapshot_in.new.view) (g.V.View.told c.snapshot_in.new.view) c.deref.result.now (c.snapshot_in.ensures.ids ∙ c.in_ok-tree.ensures.ok ∙ ap Some (sym c.deref.ensures)) given in
    let source = c.args.source.now in
    let copy = c.args.copy.now in
    let locked = c.args.locked in
    let forest = forest_in keys read in
    let id = next_in keys id_counter in
    let subs = subs_in keys (slot_of source) in
    let others = subs_in keys (slot_of copy) in
    let sources = sources_then keys source in
    let fits = held_in_range _ (slot_in_range keys keys (slot_of source) (tidy.drawn.each Subvols)) in
    let room = room_is_new keys read copy (c.live_leaves_are_subvolumes.ensures.forest keys nodes layout read seen.is_map sound tidy) (c.slots_are_counted.ensures keys nodes layout read (slot_of copy) seen.is_map sound tidy) in
    let ids = ids_alike 2 id (omega (arith, tidy.drawn.id_counter_there.in_range.1)) in
    subst (λ p. Agrees (AreOfStep keys nodes layout read) p (with_snapshot source copy locked forest)) (sym (is keys seen))
    (subst (Agrees (AreOfStep keys nodes layout read) (snapshot_made keys source copy locked))
    (sym (λ i. (good_subvolume source >>= (λ _. good_subvolume copy >>= (λ _. tree_is_found keys read source sound.leaves i >>= (λ tree. room i >>= (λ _. ids i >>= (λ _. Ok tree))))))
    >>= (λ tree. Ok (next_of Okay (record forest { subvolumes = with_value name_cmp copy (record tree { locked = locked }) forest.subvolumes; ids_left = forest.ids_left - 2 })))))
    (snapshot_agrees (AreOfStep keys nodes layout read) (good_subvolume source) (good_subvolume copy) (found_in keys source) (room_in keys copy) (ok_or (next_id 2 id) IdsSpent) (tree_found keys read)
    (λ found. updates_to_copy keys found.0 found.1 source copy locked) (λ (tree : Tree). next_of Okay (record forest { subvolumes = with_value name_cmp copy (record tree { locked = locked }) forest.subvolumes; ids_left = forest.ids_left - 2 }))
    (λ found drawn good_copy there room_there drawn_id.
    let at = found_is keys source found there in
    let sub = found.0 in
    let leaf = found.1 in
    let moved = moved_to id sub in
    let copied = copied_to (id - 1) copy locked sub in
    let copies = copies_then keys sub source copy locked in
    let named = (sub_named-in keys source sub at.sub).1 in
    let good = good_is copy good_copy in
    let has = room_is copy others _ room_there in
    let left = ids_left 2 id drawn drawn_id in
    let changed = c.slots_take_subvolumes.ensures.changed moved subs fits (subst (λ n. IsSome (sub_of n subs)) (sym named) (ap (λ o. is_some o) at.sub)) in
    let puts_source = subst (λ n. PutsSub n (Some moved) subs sources) named (subst (PutsSub sub.name (Some moved) subs) (sym (moved_is_other source id sub subs fits at.sub named)) changed) in
    let takes = takes_copy source copy id sub moved subs others puts_source at.sub (record { in_range = held_in_range _ (slot_in_range keys keys (slot_of copy) (tidy.drawn.each Subvols)); free = has.free; few = has.few }) (λ same. ap (subs_in keys) same) in
    let puts_copy = c.slots_take_subvolumes.ensures.added copied _ takes.in_range (good_is_name copy good) takes.few takes.free in
    let all = c.snapshots_are_made.ensures.sound keys nodes layout source copy sub leaf locked sources copies seen.is_map sound tidy at.sub at.leaf left good has.free puts_source puts_copy in record {
      reply = refl;
      means = c.snapshots_are_made.ensures.means keys nodes layout source copy sub leaf locked sources copies read seen.is_map sound tidy at.sub at.leaf left good has.free puts_source puts_copy;
      sound = all.0;
      tidy = all.1;
      made = snapshot_is_made keys sub leaf source copy sources copies puts_source.in_range puts_copy.in_range;
    }))))
    c.snapshot_in.ensures.is
