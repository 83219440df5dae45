-- What is kept of leaves is kept while devices are called: where a part of an entry is written, and where a device is flushed or read.
use Rattle.std.proofs.Common.{◌≡◌, ⊎_elim, ◌+◌, ◌/◌, ◌<◌, ◌≤◌, ℕ, Bool, get_or, Ok, Option, Some, sym, subst, arith}
use Rattle.std.proofs.lemmas.Bool.{cases_lt, cond-false, cond-true, le-ltb, lt-ltb}
use Rattle.std.specs.Prelude.{All, nat_lt}
use Rattle.bucket_pool.specs.NodeBuckets.{MayHoldNode}
use Rattle.dev_model.specs.Devices.{DevicesState, now}
use Rattle.dev_model.specs.Disk.{Image, IsDisk}
use Rattle.dev_model.specs.Frames.{DisksStay}
use Rattle.image_view.specs.Found.{Found, found}
use Rattle.journal_ring.specs.Rings.{RingState}
use Rattle.crash_safety.specs.Flushes.{Flushes}
use Rattle.crash_safety.specs.Parts.{IsPartWritten, IsRingOf}
use Rattle.crash_safety.specs.Writings.{Writing}
use Rattle.key_meaning.specs.Checks.{IsNodePlaced}
use Rattle.crash_safety.specs.Leaves.{StandsAsLeaf}
use Rattle.crash_safety.specs.NodeParts.{StandParts}
use Rattle.node_store.specs.NodeContents.{NodeContent}
use Rattle.node_store.specs.declared.planning.Blocked.{Blocked}
use Rattle.vol_types.specs.KeyMaps.{KeyMap}
use Rattle.vol_types.specs.Limits.{bucket_blocks}
use Rattle.vol_types.specs.declared.layout.Layout.{Layout}
use Rattle.vol_types.specs.declared.pointers.NodePtr.{NodePtr}
use Rattle.vol_types.specs.declared.pointers.Place.{Place}
use Rattle.vol_types.specs.declared.positions.Btree.{Btree}
use Rattle.crash_safety.specs.KeptLeaves.{IsFreshKept, KeepsLeaves}
use Rattle.crash_safety.specs.CheckpointLeaves.{FreshLeaf, Leaves}

-- A leaf stands in the new state where it stood in the old one, and so do the written blocks of a node that lies where nodes may.
abbrev LeavesStay : Layout → ℕ → DevicesState → DevicesState → Type 0
LeavesStay layout session old new = (btree : Btree) (root : NodePtr) (content : NodeContent) → StandsAsLeaf layout session btree root content old → StandsAsLeaf layout session btree root content new

abbrev PartsStay : Layout → DevicesState → DevicesState → Type 0
PartsStay layout old new = (blocked : Blocked) (count : ℕ) → All (IsNodePlaced layout) blocked.places → StandParts blocked count old → StandParts blocked count new

-- A place where a node may lie by the layout is placed as a node's is.
pub placed_node : (layout : Layout) (place : Place) → MayHoldNode layout place → IsNodePlaced layout place
placed_node layout place may = record {
  behind = ⊎_elim
      (λ (mirror : place.dev < layout.metadata_replicas).
      let kept = cond-true (nat_lt place.dev layout.metadata_replicas) (1 + layout.journal / bucket_blocks) 1 (lt-ltb place.dev layout.metadata_replicas mirror) in
      let past = may.past_journal mirror in
      omega (arith, kept, past))
      (λ (plain : layout.metadata_replicas ≤ place.dev).
      let kept = cond-false (nat_lt place.dev layout.metadata_replicas) (1 + layout.journal / bucket_blocks) 1 (le-ltb place.dev layout.metadata_replicas plain) in
      let past = may.past_superblocks in
      omega (arith, kept, past))
      (cases_lt place.dev layout.metadata_replicas);
  on_device = may.within;
}

module _ (f : Found) (old new : DevicesState) (parts : PartsStay f.layout old new) where
  fresh_called : (before : KeyMap) (fresh : FreshLeaf) → IsFreshKept f before old fresh → IsFreshKept f before new fresh
  fresh_called before fresh kept = record {
    leaf = kept.leaf;
    mirrored = kept.mirrored;
    placed = kept.placed;
    born = kept.born;
    entries = kept.entries;
    planned = kept.planned;
    holds = kept.holds;
    few = kept.few;
    stand = parts fresh.blocked fresh.written (subst (All (IsNodePlaced f.layout)) (sym kept.planned.places) (λ k d within. placed_node f.layout (get_or fresh.node.places k d) (kept.placed k d within))) kept.stand;
  }

  called_kept : LeavesStay f.layout f.session old new → (writing : Option Writing) (l : Leaves) → KeepsLeaves f writing old l → KeepsLeaves f writing new l
  called_kept leaves writing l keeps = record {
    layout = keeps.layout;
    before = keeps.before;
    are_keys = keeps.are_keys;
    keys = keeps.keys;
    of_leaves = keeps.of_leaves;
    content = keeps.content;
    stand = λ btree. leaves btree (l.root btree) (keeps.content btree) (keeps.stand btree);
    births = keeps.births;
    holds = keeps.holds;
    fresh = λ k d within. fresh_called keeps.before (get_or l.fresh k d) (keeps.fresh k d within);
    lie = keeps.lie;
  }

-- A leaf, and the written blocks of a node, stand while a part of an entry is written,
pub record PartLaws : Type 0 where
  pub leaves : (image : Image) (f : Found) (w : Writing) (written : ℕ) (ring : RingState) (failed : Option ℕ) (session : ℕ) (btree : Btree) (root : NodePtr) (content : NodeContent) (old new : DevicesState) → found image ≡ Ok f
      → IsRingOf f.layout w written ring → IsPartWritten ring failed old new → StandsAsLeaf f.layout session btree root content old → StandsAsLeaf f.layout session btree root content new
  pub parts : (image : Image) (f : Found) (w : Writing) (written : ℕ) (ring : RingState) (failed : Option ℕ) (blocked : Blocked) (count : ℕ) (old new : DevicesState) → found image ≡ Ok f
      → IsRingOf f.layout w written ring → IsPartWritten ring failed old new → All (IsNodePlaced f.layout) blocked.places → StandParts blocked count old → StandParts blocked count new

-- while a device is flushed,
pub record FlushLaws : Type 0 where
  pub leaves : (dev : ℕ) (done : Bool) (layout : Layout) (session : ℕ) (btree : Btree) (root : NodePtr) (content : NodeContent) (old new : DevicesState) → Flushes dev done old new → All IsDisk (now old)
      → StandsAsLeaf layout session btree root content old → StandsAsLeaf layout session btree root content new
  pub parts : (dev : ℕ) (done : Bool) (blocked : Blocked) (count : ℕ) (old new : DevicesState) → Flushes dev done old new → StandParts blocked count old → StandParts blocked count new

-- and while devices are read.
pub record ReadLaws : Type 0 where
  pub leaves : (layout : Layout) (session : ℕ) (btree : Btree) (root : NodePtr) (content : NodeContent) (old new : DevicesState) → DisksStay old new → StandsAsLeaf layout session btree root content old → StandsAsLeaf layout session btree root content new
  pub parts : (blocked : Blocked) (count : ℕ) (old new : DevicesState) → DisksStay old new → StandParts blocked count old → StandParts blocked count new

pub part_kept : PartLaws → (image : Image) (f : Found) (w : Writing) (old new : DevicesState) (l : Leaves) (written : ℕ) (ring : RingState) (failed : Option ℕ) → found image ≡ Ok f
    → KeepsLeaves f (Some w) old l → IsRingOf f.layout w written ring → IsPartWritten ring failed old new → KeepsLeaves f (Some w) new l
part_kept laws image f w old new l written ring failed finds keeps is part = called_kept f old new
    (λ blocked count placed. laws.parts image f w written ring failed blocked count old new finds is part placed)
    (λ btree root content. laws.leaves image f w written ring failed f.session btree root content old new finds is part)
    (Some w) l keeps

pub flush_kept : FlushLaws → (f : Found) (writing : Option Writing) (old new : DevicesState) (l : Leaves) (dev : ℕ) (done : Bool) → KeepsLeaves f writing old l → All IsDisk (now old) → Flushes dev done old new → KeepsLeaves f writing new l
flush_kept laws f writing old new l dev done keeps are flush = called_kept f old new
    (λ blocked count placed. laws.parts dev done blocked count old new flush)
    (λ btree root content. laws.leaves dev done f.layout f.session btree root content old new flush are)
    writing l keeps

pub read_kept : ReadLaws → (f : Found) (writing : Option Writing) (old new : DevicesState) (l : Leaves) → KeepsLeaves f writing old l → DisksStay old new → KeepsLeaves f writing new l
read_kept laws f writing old new l keeps stay = called_kept f old new
    (λ blocked count placed. laws.parts blocked count old new stay)
    (λ btree root content. laws.leaves f.layout f.session btree root content old new stay)
    writing l keeps
