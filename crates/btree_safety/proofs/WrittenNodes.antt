-- A node that was written whole stands on the devices once these are settled, and so do btrees where such nodes took the place of others.
use Rattle.std.proofs.Common.{◌≡◌, inl, inr, ⊎_elim, ℕ, ◌+◌, ◌<◌, ◌≤◌, List, length, map, get_or, Ok, Option, None, Some, refl, sym, ap, subst, ◌∙◌, arith}
use Rattle.std.specs.Prelude.{◌⊎◌, All, Contains, slice_index}
use Rattle.std.proofs.lemmas.List.{get_or-map, length-map}
use Rattle.std.proofs.lemmas.List.Elements.{All-contains, All-weaker}
use Rattle.std.proofs.lemmas.List.FromFn.{get_or-range_with_len, length-range_with_len}
use Rattle.birth_index.specs.Births.{BirthsDiffer, levels_of, node_of}
use Rattle.birth_index.specs.declared.name.NodeName.{NodeName}
use Rattle.dev_model.specs.Devices.{DevicesState, now}
use Rattle.dev_model.specs.Disk.{Image, as_read, block_at}
use Rattle.image_view.specs.Bases.{AgreeInBucket}
use Rattle.image_view.specs.BaseLaws.{mirrored-passes, sets_in-comes}
use Rattle.image_view.specs.CopyLaws.{copies_agree, copies_alike}
use Rattle.image_view.specs.Found.{IsMirrored, sets_in}
use Rattle.image_view.specs.NewNodes.{HoldSame}
use Rattle.image_view.specs.Trees.{SetsOf, Wanted}
use Rattle.key_meaning.specs.Checks.{IsNodePlaced}
use Rattle.node_store.specs.NodeContents.{NodeContent, content_of}
use Rattle.node_store.specs.Plans.{HoldBlocks, part_bytes}
use Rattle.node_store.specs.declared.planning.Blocked.{Blocked}
use Rattle.record_codec.specs.declared.sets.SetRecord.{SetRecord}
use Rattle.tree_nodes.specs.Levels.{IsTree, Levels}
use Rattle.vol_types.specs.Limits.{bucket_blocks}
use Rattle.vol_types.specs.declared.layout.Layout.{Layout}
use Rattle.vol_types.specs.declared.pointers.NodePtr.{NodePtr}
use Rattle.vol_types.specs.declared.pointers.Place.{Place}
use Rattle.vol_types.specs.declared.positions.Btree.{Btree}
use Rattle.vol_types.specs.declared.positions.Pos.{Pos}
use Rattle.btree_laws.specs.Exchanges.{IsBornApart, IsKept, Stays}
use Rattle.btree_laws.specs.Standing.{Contents, IsNodeIn, IsUnderRoot, StandAsBtrees, StandsAsBtree, StandsAsNode}
use Rattle.crash_safety.specs.CheckpointLeaves.{LieApart}
use Rattle.crash_safety.specs.Flushes.{AreSettled}
use Rattle.crash_safety.specs.NodeParts.{IsNodePartWritten, StandParts}
use Rattle.crash_safety.specs.Parts.{standing_by}
use Rattle.btree_safety.specs.FreshNodes.{AreNodesExchanged, IsFresh, IsKeptAs, IsPartlyWritten, content_of_set}
use Rattle.btree_safety.specs.StandingNodes.{BtreesStand, StandsOnDevices}
use Rattle.btree_safety.specs.StayingNodes.{StaysAsRead}
use Rattle.btree_safety.proofs.AllNodes.{each_node, rooted}
use Rattle.btree_safety.proofs.NodePairs.{OfNames}
use Rattle.btree_safety.proofs.OwnBuckets.{apart_are_placed, lie_back, placed_are_apart}

-- Each place of a node that lies on every metadata device is on one of these.
on_mirrors : (layout : Layout) (node : NodePtr) → IsMirrored layout node → (j : ℕ) (e : Place) → j < length node.places → (get_or node.places j e).dev < layout.metadata_replicas
on_mirrors layout node mirrored j e low =
    let devs : List ℕ = map (λ (place : Place). place.dev) node.places in
    let count : length node.places ≡ layout.metadata_replicas = sym (length-map {B = ℕ} node.places (λ (place : Place). place.dev)) ∙ ap (λ (ds : List ℕ). length ds) mirrored ∙ length-range_with_len 0 layout.metadata_replicas in
    let at : (get_or node.places j e).dev ≡ 0 + j =
    sym (get_or-map (λ (place : Place). place.dev) node.places j e 0 low) ∙ ap (λ (ds : List ℕ). get_or ds j 0) mirrored ∙ get_or-range_with_len 0 layout.metadata_replicas j 0 (omega (arith, low, count)) in
    omega (arith, at, low, count)

-- ---- one node

-- The blocks that stand go on standing where the node's buckets stay.
pub written_stay : (layout : Layout) (session : ℕ) (wanted : Wanted) (set : SetRecord) (blocked : Blocked) (written : ℕ) (old new : DevicesState) → StaysAsRead old new wanted.pointer → IsPartlyWritten layout session wanted set blocked written old → IsPartlyWritten layout session wanted set blocked written new
written_stay layout session wanted set blocked written old new stays is = record {
  planned = is.planned;
  few = is.few;
  stand = λ part less place there.
      let first = is.planned.blocks.first in
      let few = is.few in
      sym (All-contains (AgreeInBucket (as_read (now old)) (as_read (now new))) wanted.pointer.places place stays.read (subst (λ (ps : List Place). Contains ps place) is.planned.blocks.places there) (blocked.block + part) (omega (arith, first, few, less)))
      ∙ is.stand part less place there;
}

-- What is known of blocks of nodes that are written.
pub record PartLaws : Type 0 where
  pub next : (layout : Layout) (fresh : NodePtr) (blocked : Blocked) (part : ℕ) (old new : DevicesState) → IsMirrored layout fresh → blocked.places ≡ fresh.places → IsNodePartWritten blocked part None old new → StandParts blocked part old → StandParts blocked (part + 1) new
  pub failed : (layout : Layout) (fresh : NodePtr) (blocked : Blocked) (part : ℕ) (failed : Option ℕ) (old new : DevicesState) → IsMirrored layout fresh → blocked.places ≡ fresh.places → IsNodePartWritten blocked part failed old new → StandParts blocked part old → StandParts blocked part new

-- One more stands once it is written, where no device failed.
pub written_more : PartLaws → (layout : Layout) (session : ℕ) (wanted : Wanted) (set : SetRecord) (blocked : Blocked) (written : ℕ) (failed : Option ℕ) (old new : DevicesState) → IsPartlyWritten layout session wanted set blocked written old → written < bucket_blocks
    → IsNodePartWritten blocked written failed old new → IsPartlyWritten layout session wanted set blocked (standing_by failed written) new
written_more laws layout session wanted set blocked written failed old new is less part = record { planned = is.planned; few = few failed; stand = stand failed part }
  where
    few : (o : Option ℕ) → standing_by o written ≤ bucket_blocks
    few None = omega (arith, less)
    few (Some dev) = omega (arith, less)

    stand : (o : Option ℕ) → IsNodePartWritten blocked written o old new → StandParts blocked (standing_by o written) new
    stand None done = laws.next layout wanted.pointer blocked written old new is.planned.mirrored is.planned.blocks.places done is.stand
    stand (Some dev) done = laws.failed layout wanted.pointer blocked written (Some dev) old new is.planned.mirrored is.planned.blocks.places done is.stand

module _ (layout : Layout) (session : ℕ) (wanted : Wanted) (set : SetRecord) (blocked : Blocked) (state : DevicesState) (is : IsPartlyWritten layout session wanted set blocked bucket_blocks state) where
  abbrev image : Image
  image = as_read (now state)

  abbrev node : NodePtr
  node = wanted.pointer

  hold : HoldBlocks (block_at image) blocked
  hold place there part less = is.stand part (subst (λ n. part < n) is.planned.blocks.whole less) place there

  held_at : (place : Place) → Contains node.places place → (n : ℕ) → n < bucket_blocks → block_at image place.dev (place.block + n) ≡ Some (part_bytes blocked n)
  held_at place there n few =
      let first = is.planned.blocks.first in
      let at : place.block + (blocked.block + n) ≡ place.block + n = omega (arith, first) in
      subst (λ b. block_at image place.dev b ≡ Some (part_bytes blocked n)) at (is.stand n few place (subst (λ (ps : List Place). Contains ps place) (sym is.planned.blocks.places) there))

  hold_same : HoldSame image node
  hold_same one other is_one is_other n few = held_at one is_one n few ∙ sym (held_at other is_other n few)

  -- Its sets come to what the set holds,
  pub node_comes : sets_in layout image wanted ≡ Ok (content_of_set set)
  node_comes = sets_in-comes layout image wanted (content_of_set set)
      (mirrored-passes layout node is.planned.mirrored (All-weaker (IsNodePlaced layout) (λ (place : Place). place.block + bucket_blocks ≤ slice_index layout.blocks place.dev) (λ place placed. placed.on_device) node.places is.planned.placed))
      ((λ i. content_of (block_at image) layout.id (sym is.planned.blocks.of_btree i) (sym is.planned.blocks.least i) (sym is.planned.blocks.greatest i) node) ∙ is.planned.blocks.holds (block_at image) hold)

  -- and it stands on the devices where these are settled.
  pub node_written : AreSettled layout.metadata_replicas (now state) → StandsOnDevices layout session (content_of_set set).end state node
  node_written settled = record {
    mirrored = is.planned.mirrored;
    alike = copies_alike image node hold_same (content_of_set set).end;
    agree = copies_agree layout.id image node hold_same;
    born = is.planned.born;
    placed = is.planned.placed;
    left = λ other may k d lower n few. sym (settled _ (on_mirrors layout node is.planned.mirrored k d lower) other may _);
  }

-- ---- btrees

-- Btrees stand where each node is a new one that stands or a kept one that stays, and births differ still.
pub record ExchangeLaws : Type 0 where
  pub changed : (one other : SetsOf) (btree : Btree) (root fresh : NodePtr) (old new : Levels) (before after : Contents) → StandsAsBtree one btree root old before → IsTree new → IsUnderRoot fresh new
      → ((level : ℕ) (at : Pos) (node : NodePtr) → IsNodeIn new level at node → StandsAsNode other btree new after level at node ⊎ (IsKept old new level at node × Stays one other before after node)) → StandsAsBtree other btree fresh new after
  pub births : (old new : List Levels) → BirthsDiffer old → ((name : NodeName) (node : NodePtr) → node_of new name ≡ Some node → (node_of old name ≡ Some node) ⊎ IsBornApart old new name node) → BirthsDiffer new

module _ (laws : ExchangeLaws) (layout : Layout) (session : ℕ) (roots fresh : List NodePtr) (old new : List Levels) (before after : Btree → Contents) (state : DevicesState) (stands : BtreesStand layout session roots old before state) where
  abbrev sets : SetsOf
  sets = sets_in layout (as_read (now state))

  stood : (name : NodeName) (node : NodePtr) → IsKeptAs old new before after name node ⊎ IsFresh layout session old new after state name node
      → StandsAsNode sets name.btree (levels_of new name.btree) (after name.btree) name.level name.greatest node ⊎ (IsKept (levels_of old name.btree) (levels_of new name.btree) name.level name.greatest node × Stays sets sets (before name.btree) (after name.btree) node)
  stood name node is = ⊎_elim
      (λ (kept : IsKeptAs old new before after name node). inr (kept.kept, record { sets = λ b least greatest. refl; content = kept.content_is }))
      (λ (fresh : IsFresh layout session old new after state name node).
      let was = fresh.written in
      inl (record { comes = node_comes layout session _ was.set was.blocked state was.whole ∙ ap (λ (c : NodeContent). Ok c) (sym was.content_is); entries = was.entries }))
      is

  stood_on : AreSettled layout.metadata_replicas (now state) → (name : NodeName) (node : NodePtr) → IsKeptAs old new before after name node ⊎ IsFresh layout session old new after state name node → StandsOnDevices layout session (after name.btree node).end state node
  stood_on settled name node is = ⊎_elim
      (λ (kept : IsKeptAs old new before after name node). subst (λ (c : NodeContent). StandsOnDevices layout session c.end state node) (sym kept.content_is) (stands.each name.btree name.level name.greatest node kept.kept.stood))
      (λ (fresh : IsFresh layout session old new after state name node).
      let was = fresh.written in
      subst (λ (c : NodeContent). StandsOnDevices layout session c.end state node) (sym was.content_is) (node_written layout session _ was.set was.blocked state was.whole settled))
      is

  -- Two nodes of the new btrees lie apart.
  lie_apart : AreNodesExchanged layout session old new fresh before after state → OfNames LieApart new
  lie_apart exchanged one other x y differ is are = ⊎_elim
      (λ (kept : IsKeptAs old new before after one x). ⊎_elim
      (λ (also : IsKeptAs old new before after other y). placed_are_apart layout old stands.apart one other x y differ kept.kept.stood also.kept.stood)
      (λ (second : IsFresh layout session old new after state other y). lie_back y x (second.apart one x (λ same. differ (sym same)) is))
      (exchanged.each other y are))
      (λ (first : IsFresh layout session old new after state one x). first.apart other y differ are)
      (exchanged.each one x is)

  new_stand : AreNodesExchanged layout session old new fresh before after state → StandAsBtrees sets fresh new after
  new_stand exchanged = record {
    roots_are = exchanged.roots_are;
    trees_are = exchanged.trees_are;
    each = λ btree root is.
        let own = rooted sets roots old before stands.stand btree in
        laws.changed sets sets btree own.0 root (levels_of old btree) (levels_of new btree) (before btree) (after btree) own.1 (exchanged.trees btree) (exchanged.tops btree root is)
        (λ level at node there. let name : NodeName = record { btree = btree; level = level; greatest = at } in stood name node (exchanged.each name node there));
    births = laws.births old new stands.stand.births (λ name node there. ⊎_elim
        (λ (kept : IsKeptAs old new before after name node). inl kept.kept.stood)
        (λ (fresh : IsFresh layout session old new after state name node). inr fresh.born)
        (exchanged.each name node there));
  }

  -- They stand on the devices again.
  pub btrees_exchanged : AreSettled layout.metadata_replicas (now state) → AreNodesExchanged layout session old new fresh before after state → BtreesStand layout session fresh new after state
  btrees_exchanged settled exchanged =
      let on : (btree : Btree) (level : ℕ) (at : Pos) (node : NodePtr) → IsNodeIn (levels_of new btree) level at node → StandsOnDevices layout session (after btree node).end state node = λ btree level at node there.
      let name : NodeName = record { btree = btree; level = level; greatest = at } in stood_on settled name node (exchanged.each name node there) in
      record {
        stand = new_stand exchanged;
        each = on;
        apart = apart_are_placed layout sets fresh new after (new_stand exchanged)
            (each_node sets fresh new after (new_stand exchanged) (IsMirrored layout) (λ btree level at node there. (on btree level at node there).mirrored))
            (each_node sets fresh new after (new_stand exchanged) (λ (node : NodePtr). All (IsNodePlaced layout) node.places) (λ btree level at node there. (on btree level at node there).placed))
            (lie_apart exchanged);
      }
