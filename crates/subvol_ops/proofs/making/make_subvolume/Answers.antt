-- The refusals of the forest in its order, and then a new root, its directory, and a name more.
use Rattle.std.proofs.Common.{◌≡◌, ◌-◌, Some, refl, sym, ap, ◌∙◌, subst, arith}
use Rattle.std.specs.Prelude.{Ok, nat_le, slice_index}
use Rattle.std.proofs.lemmas.Bool.{leb-false}
use Rattle.std.proofs.lemmas.List.FromFn.{get_or-map-range_with_len}
use Rattle.std.specs.Option.{ok_or}
use Rattle.forest_ops.specs.Refusals.{◌>>=◌, Agrees, refused_if}
use Rattle.forest_ops.specs.Steps.{drawn, next_number, next_of, numbers_per_client, with_subvolume}
use Rattle.forest_ops.specs.Subvolumes.{good_subvolume}
use Rattle.forest_ops.specs.Trees.{empty_tree}
use Rattle.forest_ops.specs.declared.operation.Cause.TheVariants.{IdsSpent}
use Rattle.forest_ops.specs.declared.operation.Reply.TheVariants.{Okay}
use Rattle.id_steps.proofs.Slots.{slot_in_range}
use Rattle.id_steps.specs.SlotLists.{with_sub}
use Rattle.id_steps.specs.Steps.{made_sub}
use Rattle.key_meaning.specs.Forest.{forest_in, next_in, subs_in}
use Rattle.key_meaning.specs.Tidy.{id_counter}
use Rattle.path_plan.specs.LookLaws.{carried, given_is_seen}
use Rattle.path_plan.specs.Made.{AreOfStep}
use Rattle.subvol_ops.proofs.Chains.{good_is, ids_alike, ids_left, made_agrees, room_is, room_is_new}
use Rattle.subvol_ops.proofs.Looked.{held_in_range}
use Rattle.subvol_ops.proofs.MadeUpdates.{made_are_made}
use Rattle.subvol_ops.proofs.Moved.{good_is_name}
use Rattle.subvol_ops.specs.Plans.{room_in, subvolume_made, updates_to_make}
use Rattle.subvol_ops.specs.Slots.{next_id}
use Rattle.vol_digest.specs.Digests.{slot_of}
use Rattle.vol_types.specs.Maps.{with_value}
use Rattle.vol_types.specs.Ranges.{name_cmp}
use Rattle.vol_types.specs.declared.positions.Btree.TheVariants.{Subvols}
use Rattle.subvol_ops.proofs.making.make_subvolume.Goals as goal

pub returns-clause-is : goal.returns-clause-is
returns-clause-is g c = carried c.make_in.result _ _ (λ result is keys given. is keys (given_is_seen keys (g.V.View.made c.make_in.new.view) (g.V.View.told c.make_in.new.view) c.deref.result.now (c.make_in.ensures.ids ∙ c.in_ok-tree.ensures.ok ∙ ap Some (sym c.deref.ensures)) given)) c.make_in.ensures.is

pub returns-clause-made : goal.returns-clause-made
returns-clause-made g c = carried c.make_in.result _ _
    (λ result is keys nodes layout given sound tidy read.
    let seen = given_is_seen keys (g.V.View.made c.make_in.new.view) (g.V.View.told c.make_in.new.view) c.deref.result.now (c.make_in.ensures.ids ∙ c.in_ok-tree.ensures.ok ∙ ap Some (sym c.deref.ensures)) given in
    let name = c.args.name.now in
    let client = c.args.client in
    let forest = forest_in keys read in
    let subs = subs_in keys (slot_of name) in
    let sub = made_sub keys client name in
    let all_subs = with_sub sub subs in
    let number : slice_index forest.next client ≡ next_in keys client = get_or-map-range_with_len (next_in keys) 0 16 client client 0 c.requires (omega arith) in
    let room = room_is_new keys read name (c.live_leaves_are_subvolumes.ensures.forest keys nodes layout read seen.is_map sound tidy) (c.slots_are_counted.ensures keys nodes layout read (slot_of name) seen.is_map sound tidy) in
    let ids = ids_alike 1 (next_in keys id_counter) (omega (arith, tidy.drawn.id_counter_there.in_range.1)) in
    let next = next_of Okay (record (drawn client forest) { subvolumes = with_value name_cmp name (empty_tree (next_number client forest)) forest.subvolumes; ids_left = forest.ids_left - 1 }) in
    subst (λ p. Agrees (AreOfStep keys nodes layout read) p (with_subvolume client name forest)) (sym (is keys seen))
    (subst (Agrees (AreOfStep keys nodes layout read) (subvolume_made keys client name))
    (sym (λ i. (good_subvolume name >>= (λ _. room i >>= (λ _. refused_if (nat_le numbers_per_client (number i)) IdsSpent >>= (λ _. ids i)))) >>= (λ _. Ok next)))
    (made_agrees (AreOfStep keys nodes layout read) (good_subvolume name) (room_in keys name) (nat_le numbers_per_client (next_in keys client)) (ok_or (next_id 1 (next_in keys id_counter)) IdsSpent) (updates_to_make keys client name subs) next (λ id good_name room_there more drawn_id.
    let good = good_is name good_name in
    let has = room_is name subs _ room_there in
    let puts = c.slots_take_subvolumes.ensures.added sub subs (held_in_range _ (slot_in_range keys keys (slot_of name) (tidy.drawn.each Subvols))) (good_is_name name good) has.few has.free in
    let left = ids_left 1 (next_in keys id_counter) id drawn_id in
    let fewer = leb-false numbers_per_client (next_in keys client) more in
    let all = c.subvolumes_are_made.ensures.sound keys nodes layout client name all_subs seen.is_map sound tidy c.requires (omega (arith, fewer)) left good has.free puts in record {
      reply = refl;
      means = c.subvolumes_are_made.ensures.means keys nodes layout client name all_subs read seen.is_map sound tidy c.requires (omega (arith, fewer)) left good has.free puts;
      sound = all.0;
      tidy = all.1;
      made = made_are_made keys client name all_subs puts.in_range;
    }))))
    c.make_in.ensures.is
