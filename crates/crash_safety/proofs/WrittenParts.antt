-- The blocks of a new node that stand while one more is written, and the leaf that stands once all do.
use Rattle.std.proofs.Common.{◌≡◌, ⊎_elim, ℕ, ◌+◌, ◌<◌, ◌≤◌, List, Option, None, Some, refl, sym, ap, subst, ◌∙◌, arith}
use Rattle.std.proofs.lemmas.Bool.{cases_lt}
use Rattle.std.proofs.lemmas.List.Elements.{All-weaker}
use Rattle.std.specs.Prelude.{Contains, slice_index}
use Rattle.dev_model.specs.Devices.{DevicesState, now}
use Rattle.dev_model.specs.Disk.{Image, as_read, block_at}
use Rattle.image_view.specs.BaseLaws.{mirrored-passes, sets_in-comes}
use Rattle.image_view.specs.CopyLaws.{copies_agree, copies_alike}
use Rattle.image_view.specs.Found.{IsMirrored}
use Rattle.image_view.specs.NewNodes.{HoldSame, wanted_root}
use Rattle.crash_safety.specs.Flushes.{AreSettled}
use Rattle.key_meaning.specs.Checks.{IsNodePlaced}
use Rattle.node_store.specs.NodeContents.{content_of}
use Rattle.node_store.specs.Plans.{HoldBlocks, part_bytes}
use Rattle.node_store.specs.Writes.{HoldCopies, IsCopyBlock, IsCopyOf}
use Rattle.node_store.specs.declared.planning.Blocked.{Blocked}
use Rattle.record_codec.specs.declared.sets.SetRecord.{SetRecord}
use Rattle.vol_types.specs.Limits.{bucket_blocks}
use Rattle.vol_types.specs.declared.layout.Layout.{Layout}
use Rattle.vol_types.specs.declared.pointers.NodePtr.{NodePtr}
use Rattle.vol_types.specs.declared.pointers.Place.{Place}
use Rattle.vol_types.specs.declared.positions.Btree.{Btree}
use Rattle.crash_safety.specs.LeafLaws.{parts_elsewhere}
use Rattle.crash_safety.specs.Leaves.{StandsAsLeaf}
use Rattle.crash_safety.specs.NodeParts.{IsLeafPlanned, IsNodePartWritten, StandParts, leaf_content}
use Rattle.crash_safety.proofs.Mirrored.{on_mirrors, same_place}

-- ---- one block more

module _ (layout : Layout) (fresh : NodePtr) (blocked : Blocked) (part : ℕ) (mirrored : IsMirrored layout fresh) (same : blocked.places ≡ fresh.places) where
  of_fresh : (place : Place) → Contains blocked.places place → Contains fresh.places place
  of_fresh place there = subst (λ (ps : List Place). Contains ps place) same there

  -- It has no place of an earlier one.
  not_earlier : (earlier : ℕ) (place : Place) → earlier < part → Contains blocked.places place → ¬ IsCopyOf blocked.places (blocked.block + part) place.dev (place.block + (blocked.block + earlier))
  not_earlier earlier place less there hit =
      let one : place ≡ hit.0 = same_place layout fresh mirrored place hit.0 (of_fresh place there) (of_fresh hit.0 hit.1) hit.2 in
      let block : place.block ≡ hit.0.block = ap (λ (p : Place). p.block) one in
      let at = hit.3 in
      omega (arith, less, block, at)

  -- The earlier ones stand,
  pub parts_stay : (failed : Option ℕ) (old new : DevicesState) → IsNodePartWritten blocked part failed old new → StandParts blocked part old → StandParts blocked part new
  parts_stay failed old new is = parts_elsewhere blocked part (IsCopyOf blocked.places (blocked.block + part)) (IsCopyBlock blocked.places (blocked.block + part) (part_bytes blocked part)) old new is.at not_earlier

  -- and this one too where no device failed.
  pub part_more : (old new : DevicesState) → IsNodePartWritten blocked part None old new → StandParts blocked part old → StandParts blocked (part + 1) new
  part_more old new is stand n less = ⊎_elim
      (λ (earlier : n < part). parts_stay None old new is stand n earlier)
      (λ (last : part ≤ n).
      let e : part ≡ n = omega (arith, last, less) in
      subst (λ m. HoldCopies blocked.places (blocked.block + m) (part_bytes blocked m) (as_read (now new))) e (is.held refl))
      (cases_lt n part)

-- ---- all blocks

module _ (layout : Layout) (session : ℕ) (btree : Btree) (fresh : NodePtr) (set : SetRecord) (blocked : Blocked) (state : DevicesState) (plan : IsLeafPlanned layout session btree fresh set blocked) (stand : StandParts blocked bucket_blocks state) where
  abbrev image : Image
  image = as_read (now state)

  hold : HoldBlocks (block_at image) blocked
  hold place there part less = stand part (subst (λ n. part < n) plan.whole less) place there

  held_at : (place : Place) → Contains fresh.places place → (n : ℕ) → n < bucket_blocks → block_at image place.dev (place.block + n) ≡ Some (part_bytes blocked n)
  held_at place there n few =
      let first = plan.block in
      let at : place.block + (blocked.block + n) ≡ place.block + n = omega (arith, first) in
      subst (λ b. block_at image place.dev b ≡ Some (part_bytes blocked n)) at (stand n few place (subst (λ (ps : List Place). Contains ps place) (sym plan.places) there))

  hold_same : HoldSame image fresh
  hold_same one other is_one is_other n few = held_at one is_one n few ∙ sym (held_at other is_other n few)

  pub leaf_written : AreSettled layout.metadata_replicas (now state) → StandsAsLeaf layout session btree fresh (leaf_content set) state
  leaf_written settled = record {
    leaf = plan.leaf;
    reads = sets_in-comes layout image (wanted_root btree fresh) (leaf_content set)
        (mirrored-passes layout fresh plan.mirrored (All-weaker (IsNodePlaced layout) (λ (place : Place). place.block + bucket_blocks ≤ slice_index layout.blocks place.dev) (λ place placed. placed.on_device) fresh.places plan.placed))
        ((λ i. content_of (block_at image) layout.id (sym plan.of_btree i) (sym plan.least i) (sym plan.greatest i) fresh) ∙ plan.holds (block_at image) hold);
    mirrored = plan.mirrored;
    alike = copies_alike image fresh hold_same (leaf_content set).end;
    agree = copies_agree layout.id image fresh hold_same;
    born = plan.born;
    placed = plan.placed;
    left = λ other may k d lower n few. sym (settled _ (on_mirrors layout fresh plan.mirrored k d lower) other may _);
  }
