-- What is known of a journal while its entries are written, and of the flags that tell which devices are settled: the clauses of the laws.
use Rattle.std.specs.Prelude.{◌≡◌, ◌≢◌, ◌+◌, ◌≤◌, ◌++◌, ◌∷◌, ◌<◌, [], ℕ, All, Bool, List, None, Option, Some, length, slice_index_or}
use Rattle.dev_model.specs.Crashes.{IsQuiet}
use Rattle.dev_model.specs.Devices.{DevicesState, now}
use Rattle.dev_model.specs.Disk.{Disk, Image, IsCrashImage, IsDisk, as_read}
use Rattle.dev_model.specs.Frames.{DisksStay}
use Rattle.geometry.specs.Mirrors.{AreAtRest}
use Rattle.image_view.specs.Found.{Found, IsAlike}
use Rattle.image_view.specs.NewNodes.{AreNodesInOrder}
use Rattle.image_view.specs.NextEntries.{AreNumberedBelow}
use Rattle.image_view.specs.Trees.{nodes_of}
use Rattle.journal_ring.specs.Parts.{area_of}
use Rattle.journal_ring.specs.Rings.{RingState}
use Rattle.replay.specs.Mending.{HasMended, IsUntorn, StandsOnAll}
use Rattle.vol_types.specs.declared.pointers.Place.{Place}
use Rattle.crash_safety.specs.Elsewhere.{IsAtOneOf, IsElsewhereOfBoth, IsOneOf, KeepsSizes}
use Rattle.crash_safety.specs.Flushes.{AreFlushed, AreSettled, Flushes, IsSet, flags_by, with_flags}
use Rattle.crash_safety.specs.Parts.{AsksAt, IsPartWritten, IsRingOf, standing_by}
use Rattle.crash_safety.specs.Safety.{IsJournalSafe, MeansOneOf}
use Rattle.crash_safety.specs.Standing.{AreNodesLeft, AreSteady}
use Rattle.crash_safety.specs.Writings.{IsWriting, Writing, after, meant_by}

-- A journal is safe where a session begins, with nodes that are alike on all metadata devices (`begins`), and stays so while its entries are
-- written. The image may be taken as it is read now (`again`). Where the metadata devices are settled, a crash leaves the nodes that stand on
-- what is read (`settled`), and the entry that leads to these is put in flight where they are alike too (`seals`). Where a device fails while a part of it is written, the part was asked for, and may stand or
-- not; it may be written again (`writes`). Devices are flushed and read in between, and nodes and files are written where nothing hangs on
-- (`elsewhere`). Once all of the entry stands and is settled, it is the last durable one (`settles`). Whatever a crash leaves now means what
-- was found, or that with the entry that is written (`means`); and each needed entry of what was found stands on every metadata device in it,
-- also where torn blocks open by chance (`whole`).
pub record JournalLaws : Type 0 where
  pub begins : (f : Found) (state : DevicesState) → HasMended f (length f.needed) (now state) → All (IsAlike f (as_read (now state))) (nodes_of f.trees.nodes) → AreNumberedBelow f.layout f.session f.last.end (area_of (as_read (now state))) → All IsDisk (now state) → IsJournalSafe f (as_read (now state)) None 0 0 (f ∷ []) [] state.moment state
  pub again : (f : Found) (image : Image) (bases : List Found) (durable : List ℕ) (first : ℕ) (state : DevicesState) → IsJournalSafe f image None 0 0 bases durable first state → IsJournalSafe f (as_read (now state)) None 0 0 bases durable first state
  pub settled : (f : Found) (bases : List Found) (durable : List ℕ) (first : ℕ) (state : DevicesState) (w : Writing) → IsJournalSafe f (as_read (now state)) None 0 0 bases durable first state → AreNodesInOrder (after w f) (as_read (now state)) → AreSettled f.layout.metadata_replicas (now state)
      → AreNodesLeft f (as_read (now state)) (Some w) state
  pub seals : (f : Found) (image : Image) (bases : List Found) (durable : List ℕ) (first : ℕ) (state : DevicesState) (w : Writing) → IsJournalSafe f image None 0 0 bases durable first state → IsWriting f image w → All (IsAlike (after w f) image) (nodes_of w.trees.nodes) → AreNodesLeft f image (Some w) state
      → IsJournalSafe f image (Some w) 0 0 (bases ++ after w f ∷ []) durable first state
  pub writes : (f : Found) (image : Image) (w : Writing) (asked written : ℕ) (bases : List Found) (durable : List ℕ) (first : ℕ) (old new : DevicesState) (ring : RingState) (failed : Option ℕ) → IsJournalSafe f image (Some w) asked written bases durable first old
      → asked ≤ written + 1 → written < length w.blocks → IsRingOf f.layout w written ring → IsPartWritten ring failed old new → All IsDisk (now new) → AreSteady new
      → IsJournalSafe f image (Some w) (written + 1) (standing_by failed written) bases durable first new
  pub flushes : (f : Found) (image : Image) (writing : Option Writing) (asked written : ℕ) (bases : List Found) (durable : List ℕ) (first : ℕ) (old new : DevicesState) (dev : ℕ) (done : Bool) → IsJournalSafe f image writing asked written bases durable first old
      → Flushes dev done old new → All IsDisk (now new) → AreSteady new → IsJournalSafe f image writing asked written bases durable first new
  pub reads : (f : Found) (image : Image) (writing : Option Writing) (asked written : ℕ) (bases : List Found) (durable : List ℕ) (first : ℕ) (old new : DevicesState) → IsJournalSafe f image writing asked written bases durable first old → DisksStay old new
      → IsJournalSafe f image writing asked written bases durable first new
  pub elsewhere : (f : Found) (image : Image) (writing : Option Writing) (asked written : ℕ) (bases : List Found) (durable : List ℕ) (first : ℕ) (old new : DevicesState) (places : List Place) → IsJournalSafe f image writing asked written bases durable first old
      → All (IsElsewhereOfBoth f writing) places → AsksAt (IsOneOf places) (IsAtOneOf places) old new → KeepsSizes old new → All IsDisk (now new) → IsJournalSafe f image writing asked written bases durable first new
  pub settles : (f : Found) (image : Image) (w : Writing) (asked written : ℕ) (bases : List Found) (durable : List ℕ) (first : ℕ) (state : DevicesState) → IsJournalSafe f image (Some w) asked written bases durable first state → written ≡ length w.blocks
      → AreSettled f.layout.metadata_replicas (now state) → IsJournalSafe (after w f) (as_read (now state)) None 0 0 bases (durable ++ state.moment ∷ []) first state
  pub means : (f : Found) (image : Image) (writing : Option Writing) (asked written : ℕ) (bases : List Found) (durable : List ℕ) (first : ℕ) (state : DevicesState) → IsJournalSafe f image writing asked written bases durable first state → (other : Image) → IsCrashImage (now state) other
      → IsUntorn f.layout first state.moment state other → MeansOneOf (meant_by f writing) [] state.moment other
  pub whole : (f : Found) (image : Image) (writing : Option Writing) (asked written : ℕ) (bases : List Found) (durable : List ℕ) (first : ℕ) (state : DevicesState) → IsJournalSafe f image writing asked written bases durable first state → (other : Image) → IsCrashImage (now state) other
      → (index : ℕ) → index < length f.needed → StandsOnAll f.layout other (slice_index_or f.needed index f.last)

-- Each flag is set when its device is written to, and cleared by a flush that succeeds; where those of all metadata devices are clear, all of
-- these are settled. Writes elsewhere leave each device settled that has none of their places.
pub record FlagLaws : Type 0 where
  pub begins : (mirrors : ℕ) (flags : List Bool) (disks : List Disk) → IsQuiet disks → AreFlushed mirrors flags disks
  pub writes : (mirrors : ℕ) (flags : List Bool) (disks : List Disk) → AreFlushed mirrors (with_flags mirrors flags) disks
  pub elsewhere : (mirrors : ℕ) (flags more : List Bool) (old new : DevicesState) (places : List Place) → AreFlushed mirrors flags (now old) → AsksAt (IsOneOf places) (IsAtOneOf places) old new
      → ((dev : ℕ) → ¬ IsSet more dev → (¬ IsSet flags dev) × All (λ place. place.dev ≢ dev) places) → AreFlushed mirrors more (now new)
  pub flushes : (mirrors : ℕ) (flags : List Bool) (dev : ℕ) (done : Bool) (old new : DevicesState) → AreFlushed mirrors flags (now old) → All IsDisk (now old) → Flushes dev done old new → AreFlushed mirrors (flags_by dev done flags) (now new)
  pub reads : (mirrors : ℕ) (flags : List Bool) (old new : DevicesState) → AreFlushed mirrors flags (now old) → DisksStay old new → AreFlushed mirrors flags (now new)
  pub settled : (mirrors : ℕ) (flags : List Bool) (disks : List Disk) → AreFlushed mirrors flags disks → ((dev : ℕ) → dev < mirrors → ¬ IsSet flags dev) → AreSettled mirrors disks
  pub rest : (mirrors : ℕ) (disks : List Disk) → AreAtRest mirrors disks → AreSettled mirrors disks
