-- What is known of leaves while entries of the journal are written over them, and while they are written anew and put in place: the clauses of
-- the laws.
use Rattle.std.specs.Prelude.{◌≡◌, ◌+◌, ◌*◌, ◌^◌, ◌≤◌, ◌<◌, ◌++◌, ◌∷◌, [], ℕ, All, Bool, Contains, IfSome, List, None, Ok, Option, Some, length, map, true}
use Rattle.btree_map.specs.Sizes.{all_btrees}
use Rattle.bucket_pool.specs.NodeBuckets.{AreFixed, MayHoldNode}
use Rattle.bucket_pool.specs.Space.{have_free, node_places}
use Rattle.dev_model.specs.Devices.{DevicesState, now}
use Rattle.dev_model.specs.Disk.{Image, IsDisk, as_read}
use Rattle.dev_model.specs.Frames.{DisksStay}
use Rattle.image_view.specs.Found.{Found, IsAlike, found}
use Rattle.image_view.specs.Trees.{nodes_of}
use Rattle.image_view.specs.UpdatedTrees.{IsOfLeaf}
use Rattle.journal_ring.specs.Rings.{RingState}
use Rattle.journal_ring.specs.declared.found.FoundEntry.{FoundEntry}
use Rattle.replay.specs.Mending.{HasMended}
use Rattle.replay.specs.NodeUpdates.{EachUpdate, IsBelowRoot}
use Rattle.replay.specs.Roots.{AreRootsAlike}
use Rattle.vol_types.specs.KeyMaps.{entries_of, with_updates}
use Rattle.vol_types.specs.Layouts.{is_layout}
use Rattle.vol_types.specs.Limits.{bucket_blocks}
use Rattle.vol_types.specs.declared.positions.Btree.{Btree}
use Rattle.crash_safety.specs.CheckpointLeaves.{FreshLeaf, Leaves}
use Rattle.crash_safety.specs.Contents.{ChangesBtree, IsPinnedUpTo}
use Rattle.crash_safety.specs.Flushes.{AreSettled, Flushes}
use Rattle.crash_safety.specs.KeptLeaves.{HoldsOwn, IsLeafPlanned, KeepsLeaves}
use Rattle.crash_safety.specs.LeafSteps.{ArePinnedMore, AreSameLeaves, HoldBack, IsNamed, MayBePlaced, given_up, placed, settled_leaves, with_fresh, with_last}
use Rattle.crash_safety.specs.NodeParts.{IsNodePartWritten}
use Rattle.crash_safety.specs.Parts.{IsPartWritten, IsRingOf, standing_by}
use Rattle.crash_safety.specs.Safety.{IsJournalSafe}
use Rattle.crash_safety.specs.Writings.{Writing, after}

-- The nodes that were found are alike where their roots are, and these are leaves (`alike`). What is kept of leaves is so at the opening, where each root that was found is a leaf with the same sets on every metadata device, and its bucket holds a node (`begins`). It stays so
-- where commits pin more (`pins`), where an entry is put in flight that names the roots as they are, which has the durable keys, with its
-- updates (`seals`), while its parts are written and devices are flushed and read, and where it becomes the last durable one: the buckets are
-- free then that waited for it (`settles`).
pub record EntryLaws : Type 0 where
  pub alike : (f : Found) (state : DevicesState) → HasMended f (length f.needed) (now state) → AreRootsAlike f (as_read (now state)) → All (λ root. root.level ≡ 0) f.last.entry.roots → EachUpdate f (IsBelowRoot f.last.entry.roots) → All (IsAlike f (as_read (now state))) (nodes_of f.trees.nodes)
  pub begins : (f : Found) (state : DevicesState) (l : Leaves) → HasMended f (length f.needed) (now state) → AreRootsAlike f (as_read (now state)) → All (λ root. root.level ≡ 0) f.last.entry.roots → EachUpdate f (IsBelowRoot f.last.entry.roots) → f.last.entry.roots ≡ map l.root all_btrees → l.fresh ≡ []
      → is_layout f.layout ≡ true → AreFixed f.layout l.space → ((btree : Btree) → HoldsOwn l.space (l.root btree)) → ((btree : Btree) → All (MayHoldNode f.layout) (l.root btree).places)
      → ((btree : Btree) (found : FoundEntry) → Contains f.needed found → ChangesBtree btree found.entry.updates → IsPinnedUpTo (l.pin btree) f.last.entry.oldest) → KeepsLeaves f None state l
  pub same : (f : Found) (writing : Option Writing) (state : DevicesState) (one other : Leaves) → KeepsLeaves f writing state one → AreSameLeaves one other → KeepsLeaves f writing state other
  pub pins : (f : Found) (writing : Option Writing) (state : DevicesState) (old new : Leaves) → KeepsLeaves f writing state old → ArePinnedMore old new → KeepsLeaves f writing state new
  pub seals : (f : Found) (image : Image) (bases : List Found) (durable : List ℕ) (first : ℕ) (state : DevicesState) (passed : ℕ) (next : FoundEntry) (blocks : List (List ℕ)) (l : Leaves) → IsJournalSafe f image None 0 0 bases durable first state → KeepsLeaves f None state l
      → IsNamed f passed next blocks l
      → (w : Writing) × (w.passed ≡ passed) × (w.next ≡ next) × (w.blocks ≡ blocks) × (w.trees.keys ≡ with_updates next.entry.updates f.trees.keys) × IsJournalSafe f (as_read (now state)) (Some w) 0 0 (bases ++ after w f ∷ []) durable first state × KeepsLeaves f (Some w) state l
  pub parts : (image : Image) (f : Found) (w : Writing) (old new : DevicesState) (l : Leaves) (written : ℕ) (ring : RingState) (failed : Option ℕ) → found image ≡ Ok f → KeepsLeaves f (Some w) old l → IsRingOf f.layout w written ring → IsPartWritten ring failed old new → KeepsLeaves f (Some w) new l
  pub flushes : (f : Found) (writing : Option Writing) (old new : DevicesState) (l : Leaves) (dev : ℕ) (done : Bool) → KeepsLeaves f writing old l → All IsDisk (now old) → Flushes dev done old new → KeepsLeaves f writing new l
  pub reads : (f : Found) (writing : Option Writing) (old new : DevicesState) (l : Leaves) → KeepsLeaves f writing old l → DisksStay old new → KeepsLeaves f writing new l
  pub settles : (f : Found) (w : Writing) (state : DevicesState) (l : Leaves) → KeepsLeaves f (Some w) state l → HoldBack f w l → w.passed ≤ length f.needed → w.next.entry.oldest ≡ f.last.entry.oldest + w.passed → w.next.entry.sequence ≡ f.last.entry.sequence + 1
      → f.last.entry.oldest + length f.needed ≡ f.last.entry.sequence + 1 → w.trees.keys ≡ with_updates w.next.entry.updates f.trees.keys → All IsOfLeaf w.next.entry.updates → KeepsLeaves (after w f) None state (settled_leaves w.next.entry.sequence l)

-- What is kept of leaves stays so where one is frozen with the durable keys of its btree and gets buckets that are free (`freezes`), while the
-- next block of the last one is written, or a device fails (`writes`), where all that are written are put in place of the roots, whose buckets
-- wait for an entry behind the last durable one and the one in flight (`places`), and where they are given up.
pub record LeafLaws : Type 0 where
  pub freezes : (f : Found) (writing : Option Writing) (state : DevicesState) (l : Leaves) (fresh : FreshLeaf) → KeepsLeaves f writing state l → have_free f.layout.metadata_replicas l.space ≡ true → fresh.node.level ≡ 0 → fresh.node.places ≡ node_places f.layout.metadata_replicas l.space
      → fresh.node.birth < (f.session + 1) * 2 ^ 32 → IsLeafPlanned f.layout.id fresh (entries_of f.trees.keys fresh.btree) → fresh.written ≡ 0 → KeepsLeaves f writing state (with_fresh f.layout.metadata_replicas fresh l)
  pub writes : (f : Found) (image : Image) (writing : Option Writing) (asked written : ℕ) (bases : List Found) (durable : List ℕ) (first : ℕ) (old new : DevicesState) (l : Leaves) (earlier : List FreshLeaf) (fresh : FreshLeaf) (failed : Option ℕ)
      → IsJournalSafe f image writing asked written bases durable first old → KeepsLeaves f writing old l → l.fresh ≡ earlier ++ fresh ∷ [] → fresh.written < bucket_blocks → IsNodePartWritten fresh.blocked fresh.written failed old new → All IsDisk (now new)
      → IsJournalSafe f image writing asked written bases durable first new × KeepsLeaves f writing new (with_last earlier fresh (standing_by failed fresh.written) l)
  pub places : (f : Found) (writing : Option Writing) (state : DevicesState) (l : Leaves) (seq : ℕ) → KeepsLeaves f writing state l → AreSettled f.layout.metadata_replicas (now state) → All (λ fresh. fresh.written ≡ bucket_blocks) l.fresh → MayBePlaced l → f.last.entry.sequence < seq
      → IfSome writing (λ w. w.next.entry.sequence < seq) → KeepsLeaves f writing state (placed seq l)
  pub gives_up : (f : Found) (writing : Option Writing) (state : DevicesState) (l : Leaves) → KeepsLeaves f writing state l → IfSome writing (λ w. w.next.entry.sequence ≡ f.last.entry.sequence + 1) → KeepsLeaves f writing state (given_up f.last.entry.sequence l)
