-- What is known of btrees while entries of the journal are written over them, and while nodes of them are written anew and put in place: the clauses
-- of the laws.
use Rattle.std.specs.Prelude.{◌≡◌, ◌+◌, ◌*◌, ◌^◌, ◌≤◌, ◌<◌, ◌++◌, ◌∷◌, [], ℕ, All, Bool, Contains, IfSome, List, None, Ok, Option, Some, length, slice_get, true}
use Rattle.bucket_pool.specs.NodeBuckets.{AreFixed}
use Rattle.bucket_pool.specs.Space.{have_free}
use Rattle.crash_safety.specs.Flushes.{AreSettled, Flushes}
use Rattle.crash_safety.specs.KeptLeaves.{HoldsOwn}
use Rattle.crash_safety.specs.NodeParts.{IsNodePartWritten}
use Rattle.crash_safety.specs.Parts.{IsPartWritten, IsRingOf, standing_by}
use Rattle.crash_safety.specs.Safety.{IsJournalSafe}
use Rattle.crash_safety.specs.Writings.{Writing, after}
use Rattle.dev_model.specs.Devices.{DevicesState, now}
use Rattle.dev_model.specs.Disk.{Image, IsDisk, as_read}
use Rattle.dev_model.specs.Frames.{DisksStay}
use Rattle.image_view.specs.Found.{Found, IsAlike, found, updates_of}
use Rattle.image_view.specs.Trees.{nodes_of}
use Rattle.image_view.specs.UpdatedTrees.{IsOfLeaf}
use Rattle.journal_ring.specs.Rings.{RingState}
use Rattle.journal_ring.specs.declared.found.FoundEntry.{FoundEntry}
use Rattle.replay.specs.Mending.{IsInOrderOn}
use Rattle.tree_nodes.specs.Levels.{Levels}
use Rattle.vol_types.specs.KeyMaps.{value_in, with_updates}
use Rattle.vol_types.specs.Layouts.{is_layout}
use Rattle.vol_types.specs.Limits.{bucket_blocks}
use Rattle.vol_types.specs.Maps.{value_at}
use Rattle.vol_types.specs.Positions.{pos_cmp}
use Rattle.vol_types.specs.declared.pointers.NodePtr.{NodePtr}
use Rattle.vol_types.specs.declared.pointers.Place.{Place}
use Rattle.vol_types.specs.declared.positions.Pos.{Pos}
use Rattle.btree_safety.specs.CheckpointBtrees.{Btrees, FreshNode, HoldBack, IsNamed, IsOwnPosition, MayBePut, NotesAsMuch, given_up, put_in_place, settled_btrees, with_fresh, with_last, with_taken}
use Rattle.btree_safety.specs.FreshNodes.{AreBlocksPlanned, content_of_set}
use Rattle.btree_safety.specs.KeptBtrees.{KeepsBtrees, MayLie}
use Rattle.btree_safety.specs.KeptKeys.{ArePinned, PinNoLess, Pins}
use Rattle.btree_safety.specs.StayingNodes.{StayAsRead, StaysAsRead}

-- What is kept of btrees is so at the opening, where all nodes that were found are alike and their buckets hold nodes (`begins`). It stays so where
-- commits pin more (`pins`), where an entry is put in flight that names the roots as they are, which has the durable keys, with its updates
-- (`seals`), while its parts are written and devices are flushed and read, and where it becomes the last durable one: the buckets are free then that
-- waited for it (`settles`).
pub record EntryLaws : Type 0 where
  pub begins : (f : Found) (state : DevicesState) (b : Btrees) → IsInOrderOn f (now state) → All IsOfLeaf (updates_of f.needed) → All (IsAlike f (as_read (now state))) (nodes_of f.trees.nodes) → b.roots ≡ f.last.entry.roots → b.trees ≡ f.trees.nodes → b.fresh ≡ [] → b.taken ≡ []
      → is_layout f.layout ≡ true → AreFixed f.layout b.space → All (HoldsOwn b.space) (nodes_of b.trees) → All (MayLie f.layout) (nodes_of b.trees) → ((found : FoundEntry) → Contains f.needed found → ArePinned found b.trees b.pin f.last.entry.oldest) → KeepsBtrees f None state b
  pub pins : (f : Found) (writing : Option Writing) (state : DevicesState) (b : Btrees) (pin : Pins) (fresh : List FreshNode) → KeepsBtrees f writing state b → PinNoLess b.trees b.pin pin → length fresh ≡ length b.fresh
      → ((index : ℕ) (one other : FreshNode) → slice_get b.fresh index ≡ Some one → slice_get fresh index ≡ Some other → NotesAsMuch one other) → KeepsBtrees f writing state (record b { pin = pin; fresh = fresh })
  pub seals : (f : Found) (image : Image) (bases : List Found) (durable : List ℕ) (first : ℕ) (state : DevicesState) (passed : ℕ) (next : FoundEntry) (blocks : List (List ℕ)) (b : Btrees) → IsJournalSafe f image None 0 0 bases durable first state → KeepsBtrees f None state b
      → IsNamed f passed next blocks b
      → (w : Writing) × (w.passed ≡ passed) × (w.next ≡ next) × (w.blocks ≡ blocks) × (w.trees.nodes ≡ b.trees) × (w.trees.keys ≡ with_updates next.entry.updates f.trees.keys) × IsJournalSafe f (as_read (now state)) (Some w) 0 0 (bases ++ after w f ∷ []) durable first state × KeepsBtrees f (Some w) state b
  pub parts : (image : Image) (f : Found) (w : Writing) (old new : DevicesState) (b : Btrees) (written : ℕ) (ring : RingState) (failed : Option ℕ) → found image ≡ Ok f → KeepsBtrees f (Some w) old b → IsRingOf f.layout w written ring → IsPartWritten ring failed old new → KeepsBtrees f (Some w) new b
  pub flushes : (f : Found) (writing : Option Writing) (old new : DevicesState) (b : Btrees) (dev : ℕ) (done : Bool) → KeepsBtrees f writing old b → All IsDisk (now old) → Flushes dev done old new → KeepsBtrees f writing new b
  pub reads : (f : Found) (writing : Option Writing) (old new : DevicesState) (b : Btrees) → KeepsBtrees f writing old b → DisksStay old new → KeepsBtrees f writing new b
  pub settles : (f : Found) (w : Writing) (state : DevicesState) (b : Btrees) → KeepsBtrees f (Some w) state b → HoldBack f w b → w.passed ≤ length f.needed → w.next.entry.oldest ≡ f.last.entry.oldest + w.passed → w.next.entry.sequence ≡ f.last.entry.sequence + 1
      → f.last.entry.oldest + length f.needed ≡ f.last.entry.sequence + 1 → w.trees.keys ≡ with_updates w.next.entry.updates f.trees.keys → All IsOfLeaf w.next.entry.updates → KeepsBtrees (after w f) None state (settled_btrees w.next.entry.sequence b)

-- What is kept of btrees stays so where free buckets are taken for a node (`takes`), where a node is frozen for places that were taken, a leaf with
-- the durable keys of its positions (`freezes`), while the next block of the last one is written, or a device fails (`writes`), and while other
-- places are written to (`stays`); where all that are written are put in place, while the buckets of the nodes that are gone wait for an entry behind
-- the last durable one and the one in flight (`puts`), and where they are given up.
pub record NodeLaws : Type 0 where
  pub takes : (f : Found) (writing : Option Writing) (state : DevicesState) (b : Btrees) → KeepsBtrees f writing state b → have_free f.layout.metadata_replicas b.space ≡ true → KeepsBtrees f writing state (with_taken f.layout.metadata_replicas b)
  pub freezes : (f : Found) (writing : Option Writing) (state : DevicesState) (b : Btrees) (fresh : FreshNode) (taken : List (List Place)) → KeepsBtrees f writing state b → b.taken ≡ fresh.wanted.pointer.places ∷ taken
      → fresh.wanted.pointer.birth < (f.session + 1) * 2 ^ 32 → AreBlocksPlanned f.layout.id fresh.wanted fresh.set fresh.blocked
      → ((pos : Pos) → IsOwnPosition fresh pos → value_at pos_cmp pos (content_of_set fresh.set).entries ≡ value_in f.trees.keys fresh.wanted.btree pos) → fresh.written ≡ 0 → KeepsBtrees f writing state (with_fresh fresh taken b)
  pub writes : (f : Found) (image : Image) (writing : Option Writing) (asked written : ℕ) (bases : List Found) (durable : List ℕ) (first : ℕ) (old new : DevicesState) (b : Btrees) (earlier : List FreshNode) (fresh : FreshNode) (failed : Option ℕ)
      → IsJournalSafe f image writing asked written bases durable first old → KeepsBtrees f writing old b → b.fresh ≡ earlier ++ fresh ∷ [] → fresh.written < bucket_blocks → IsNodePartWritten fresh.blocked fresh.written failed old new → All IsDisk (now new)
      → IsJournalSafe f image writing asked written bases durable first new × KeepsBtrees f writing new (with_last earlier fresh (standing_by failed fresh.written) b)
  pub stays : (f : Found) (writing : Option Writing) (old new : DevicesState) (b : Btrees) → KeepsBtrees f writing old b → StayAsRead old new b.trees → All (λ fresh. StaysAsRead old new fresh.wanted.pointer) b.fresh → KeepsBtrees f writing new b
  pub puts : (f : Found) (writing : Option Writing) (state : DevicesState) (b : Btrees) (roots : List NodePtr) (new : List Levels) (pin : Pins) (gone : List NodePtr) (seq : ℕ) → KeepsBtrees f writing state b → AreSettled f.layout.metadata_replicas (now state)
      → All (λ fresh. fresh.written ≡ bucket_blocks) b.fresh → MayBePut b roots new pin gone → f.last.entry.sequence < seq → IfSome writing (λ w. w.next.entry.sequence < seq) → KeepsBtrees f writing state (put_in_place roots new pin gone seq b)
  pub gives_up : (f : Found) (writing : Option Writing) (state : DevicesState) (b : Btrees) → KeepsBtrees f writing state b → IfSome writing (λ w. w.next.entry.sequence ≡ f.last.entry.sequence + 1) → KeepsBtrees f writing state (given_up f.last.entry.sequence b)
