-- The core stays safe where a leaf is frozen: what is written of it are the keys that its btree has by durable entries alone.
use Rattle.std.proofs.Common.{◌≡◌, ◌<◌, ◌+◌, ◌*◌, ◌^◌, ℕ, Bool, true, false, cond, not, Option, Some, None, List, [], ◌∷◌, ◌++◌, length, refl, sym, ap, subst, ◌∙◌, arith}
use Rattle.std.proofs.lemmas.Bool.{and_parts, true≢false}
use Rattle.std.proofs.lemmas.Cmp.{nat_cmp_total}
use Rattle.std.proofs.lemmas.List.{append-nil}
use Rattle.std.proofs.lemmas.Option.{same_Some}
use Rattle.std.specs.Ordering.{nat_cmp}
use Rattle.std.specs.Prelude.{◌==◌, ◌&&◌, ◌||◌, map, option_map}
use Rattle.birth_index.specs.Births.{levels_of}
use Rattle.btree_map.specs.Sizes.{all_btrees}
use Rattle.btree_map.specs.Trees.{keys_in as keys_of}
use Rattle.bucket_pool.specs.Space.{have_free, node_places, noded}
use Rattle.crash_safety.specs.KeptLeaves.{IsLeafPlanned, KeepsLeaves, leaf_set}
use Rattle.crash_safety.specs.CheckpointLeaves.{FreshLeaf}
use Rattle.crash_safety.specs.LeafSteps.{AreSameLeaves, with_fresh}
use Rattle.core_volume.specs.Checkpoints.{IsLeafFrozen, durable_in}
use Rattle.core_volume.specs.Volumes.{IsVolume, Volume, birth_due, changes_in, in_flight, undurable_in}
use Rattle.dev_model.specs.Devices.{DevicesState}
use Rattle.journal_writer.specs.Queues.{durable_keys, first_with}
use Rattle.journal_writer.specs.declared.changes.KeyChanges.{KeyChanges}
use Rattle.journal_writer.specs.declared.writer.Flight.{Flight}
use Rattle.image_view.specs.Found.{updates_of}
use Rattle.node_store.specs.Plans.{HoldsAlone}
use Rattle.node_writeback.specs.Due.{is_due, is_frozen, is_pinned_up_to, root_in}
use Rattle.node_writeback.specs.Durable.{changes_in_flight}
use Rattle.node_writeback.specs.Freezing.{fresh_leaf as fresh_node, next_birth}
use Rattle.node_writeback.specs.NodeWork.{NodeWork, first_left, with_frozen}
use Rattle.node_writeback.specs.declared.node.FrozenNode.{FrozenNode}
use Rattle.node_writeback.specs.declared.node.UnfinishedNode.{UnfinishedNode}
use Rattle.image_view.specs.Found.{Found}
use Rattle.snap_tree.specs.ChainLaws.{same_test}
use Rattle.vol_types.specs.KeyMapLaws.{IsKeyMap-with_updates}
use Rattle.vol_types.specs.KeyMaps.{Entries, IsKeyMap, KeyMap, entries_of}
use Rattle.vol_types.specs.Limits.{bucket_blocks}
use Rattle.vol_types.specs.MapLaws.{value_at-put_at}
use Rattle.vol_types.specs.Maps.{IsMap, put_at, value_at}
use Rattle.vol_types.specs.declared.layout.Layout.{Layout}
use Rattle.vol_types.specs.declared.positions.Btree.{Btree}
use Rattle.vol_core.specs.Safety.{IsCoreSafe}
use Rattle.vol_core.specs.VolumeLeaves.{fresh_leaf, fresh_leaves, leaves_in, leaves_left}
use Rattle.vol_core.specs.CoreLaws.{CoreLaws}
use Rattle.vol_core.proofs.NodeStages.{first_passes, freezing_is, none_left}
use Rattle.vol_core.proofs.OtherLeaves.{NodesKnown, other_leaves_on, with_known}
use Rattle.core_volume.specs.Volumes.{KeepParts}

-- What an entry in flight changes is the same for nodes as for the volume.
flight_changes : (flight : Option Flight) → changes_in_flight (in_flight flight) ≡ changes_in flight
flight_changes None = refl
flight_changes (Some flight) = refl

-- what is noted of other nodes stays where it is noted of one
module _ (later : List (ℕ × ℕ)) (rises : IsMap nat_cmp later) (node : ℕ) (value : Option ℕ) where
  abbrev noted : List (ℕ × ℕ)
  noted = put_at nat_cmp node value later

  other_noted : (birth : ℕ) → (birth == node) ≡ false → value_at nat_cmp birth noted ≡ value_at nat_cmp birth later
  other_noted birth other = value_at-put_at nat_cmp_total node value birth later rises ∙ ap (λ (b : Bool). cond b value (value_at nat_cmp birth later)) (same_test node birth ∙ other)

  -- So frozen leaves of other births are the same.
  others_same : (finished : List FrozenNode) → is_frozen finished node ≡ false → map (fresh_leaf noted bucket_blocks) finished ≡ map (fresh_leaf later bucket_blocks) finished
  others_same [] none = refl
  others_same (one ∷ finished) none = by (one.birth == node) refl none (others_same finished)
    where
      by : (b : Bool) → (one.birth == node) ≡ b → (b || is_frozen finished node) ≡ false → (is_frozen finished node ≡ false → map (fresh_leaf noted bucket_blocks) finished ≡ map (fresh_leaf later bucket_blocks) finished)
          → fresh_leaf noted bucket_blocks one ∷ map (fresh_leaf noted bucket_blocks) finished ≡ fresh_leaf later bucket_blocks one ∷ map (fresh_leaf later bucket_blocks) finished
      by true is none rest = absurd (true≢false none)
      by false is none rest =
          ap (λ (pin : Option ℕ). record { btree = one.btree; node = one.fresh; blocked = one.blocked; written = bucket_blocks; later = pin } ∷ map (fresh_leaf noted bucket_blocks) finished) (other_noted one.birth is)
          ∙ ap (λ (rest : List FreshLeaf). fresh_leaf later bucket_blocks one ∷ rest) (rest none)

-- What isn't so is false.
not_so : (b : Bool) → not b ≡ true → b ≡ false
not_so true is = sym is
not_so false is = refl

-- A leaf that is due isn't frozen.
due_unfrozen : (durable : ℕ) (old : Volume) (btree : Btree) → is_due durable old.trees.nodes old.pins old.work.finished btree ≡ true → is_frozen old.work.finished (root_in old.trees.nodes btree).birth ≡ false
due_unfrozen durable old btree due =
    let birth = (root_in old.trees.nodes btree).birth in
    let pinned = is_pinned_up_to durable (value_at nat_cmp birth old.pins) in
    let other = not (is_frozen old.work.finished birth) in
    not_so (is_frozen old.work.finished birth) (and_parts other pinned (and_parts (length (levels_of old.trees.nodes btree) == 1) (other && pinned) due).1).0

-- A birth of a session is one up to it.
birth_within : (born session found : ℕ) → born < 2 ^ 32 → found ≡ session → next_birth session born < (found + 1) * 2 ^ 32
birth_within born session found few same = omega (arith, few, same)

module _ (laws : CoreLaws) (begun : Found) (start : DevicesState) (old : Volume) (is : IsVolume old) (parts : KeepParts old) (state : DevicesState) (kept : IsCoreSafe begun start state old) where
  -- The keys that were found make a map, and are those that the durable entries mean.
  pub found_map : IsKeyMap kept.f.trees.keys
  found_map = subst IsKeyMap (sym kept.kept.keys) (IsKeyMap-with_updates (updates_of kept.f.needed) kept.kept.before kept.kept.are_keys)

  durable_is : (btree : Btree) → durable_in old btree ≡ entries_of kept.f.trees.keys btree
  durable_is btree = ap (λ (keys : KeyMap). entries_of keys btree)
      (ap (λ (changes : List KeyChanges). durable_keys changes old.queue (keys_of old.trees)) (flight_changes old.writer.flight)
      ∙ laws.keys.durable (changes_in old.writer.flight) old.queue kept.f.trees.keys (keys_of old.trees) found_map kept.lead)

  module _ (node : ℕ) (new : Volume) (gives : IsLeafFrozen node old new) where
    stage_parts : (first_left old.work ≡ None) × (birth_due old ≡ Some node)
    stage_parts = freezing_is old node gives.stage.stage_is

    due_is : is_due old.writer.durable.sequence old.trees.nodes old.pins old.work.finished gives.btree ≡ true
    due_is = first_passes (is_due old.writer.durable.sequence old.trees.nodes old.pins old.work.finished) all_btrees gives.btree gives.due

    birth_is : (root_in old.trees.nodes gives.btree).birth ≡ node
    birth_is = same_Some (root_in old.trees.nodes gives.btree).birth node (sym (ap (option_map (λ (btree : Btree). (root_in old.trees.nodes btree).birth)) gives.due) ∙ stage_parts.1)

    unfrozen : is_frozen old.work.finished node ≡ false
    unfrozen = ap (is_frozen old.work.finished) (sym birth_is) ∙ due_unfrozen old.writer.durable.sequence old gives.btree due_is

    abbrev frozen : FrozenNode
    frozen = record { btree = gives.btree; birth = node; fresh = fresh_node old.session old.work.born old.layout.metadata_replicas old.space; blocked = gives.frozen.blocked }

    abbrev first_later : Option ℕ
    first_later = first_with gives.btree (undurable_in old)

    abbrev later : List (ℕ × ℕ)
    later = put_at nat_cmp node first_later old.later

    abbrev fresh : FreshLeaf
    fresh = fresh_leaf later 0 frozen

    -- what is known of nodes then
    abbrev known : NodeWork → NodesKnown
    known work = record { nodes = old.trees.nodes; pins = old.pins; marks = old.marks; later = later; space = noded old.layout.metadata_replicas old.space; work = work; emptied = old.emptied; changes = old.changes }

    mirrors_is : kept.f.layout.metadata_replicas ≡ old.layout.metadata_replicas
    mirrors_is = ap (λ (l : Layout). l.metadata_replicas) kept.known.layout

    -- Its blocks are those of a leaf with the durable keys.
    planned : IsLeafPlanned kept.f.layout.id fresh (entries_of kept.f.trees.keys gives.btree)
    planned = record {
      places = gives.frozen.planned.places;
      first = gives.frozen.planned.first;
      whole = gives.frozen.planned.whole;
      holds = subst (λ (id : List ℕ). HoldsAlone id frozen.fresh (leaf_set frozen.fresh.birth gives.btree (entries_of kept.f.trees.keys gives.btree)) gives.frozen.blocked) (ap (λ (l : Layout). l.id) (sym kept.known.layout))
          (subst (λ (entries : Entries). HoldsAlone old.layout.id frozen.fresh (leaf_set frozen.fresh.birth gives.btree entries) gives.frozen.blocked) (durable_is gives.btree) gives.frozen.planned.holds);
      entries_are = laws.merges.whole (entries_of kept.f.trees.keys gives.btree) (found_map.rises gives.btree);
    }

    leaves : KeepsLeaves kept.f kept.writing state (with_fresh kept.f.layout.metadata_replicas fresh (leaves_in old))
    leaves = laws.leaves.freezes kept.f kept.writing state (leaves_in old) fresh kept.kept
        (ap (λ (mirrors : ℕ). have_free mirrors old.space) mirrors_is ∙ gives.free) refl (ap (λ (mirrors : ℕ). node_places mirrors old.space) (sym mirrors_is))
        (birth_within old.work.born old.session kept.f.session gives.birth.few kept.known.session) planned refl

    same_fresh : fresh_leaves later (with_frozen frozen old.work) ≡ fresh_leaves old.later old.work ++ fresh ∷ []
    same_fresh =
        ap (λ (before : List FreshLeaf). before ++ fresh ∷ []) (others_same old.later parts.dirty.changed node first_later old.work.finished unfrozen
        ∙ sym (append-nil (map (fresh_leaf old.later bucket_blocks) old.work.finished))
        ∙ ap (λ (unfinished : Option UnfinishedNode). map (fresh_leaf old.later bucket_blocks) old.work.finished ++ leaves_left old.later unfinished) (sym (none_left old.work.unfinished stage_parts.0)))

    same : AreSameLeaves (with_fresh kept.f.layout.metadata_replicas fresh (leaves_in old)) (leaves_in (with_known (known (with_frozen frozen old.work)) old))
    same = record { root = λ btree. refl; pin = λ btree. refl; fresh = same_fresh; space = ap (λ (mirrors : ℕ). noded mirrors old.space) (sym mirrors_is) }

    -- The core stays safe where a leaf is frozen.
    pub frozen_on : IsCoreSafe begun start state new
    frozen_on = subst (IsCoreSafe begun start state) (sym (gives.rest ∙ ap (λ (work : NodeWork). with_known (known work) old) gives.frozen.is))
        (other_leaves_on begun start state old kept (known (with_frozen frozen old.work)) kept.one (laws.entries.same kept.f kept.writing state _ _ leaves same))
