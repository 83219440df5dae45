-- What it is that the journal of a volume is mended: each needed entry stands on every metadata device, and the image means the same; and
-- that it is ready for a session that writes.
use Rattle.std.specs.Prelude.{◌≡◌, ◌⊎◌, ℕ, ◌+◌, ◌<◌, ◌≤◌, List, length, Ok, Some, slice_index_or}
use Rattle.dev_model.specs.Crashes.{EachCrash, SameBut}
use Rattle.dev_model.specs.Devices.{DevicesState, now}
use Rattle.dev_model.specs.Disk.{Disk, Image, IsCrashImage, as_read}
use Rattle.dev_model.specs.HeldBlocks.{HasNoChanceMatch, OnlyHeldOpensAt}
use Rattle.geometry.specs.Mirrors.{AreAtRest}
use Rattle.geometry.specs.Sessions.{session_in}
use Rattle.image_view.specs.CrashEntries.{OnlyHeldEntriesOpen, opens}
use Rattle.image_view.specs.Found.{Found, IsInOrder, found}
use Rattle.image_view.specs.Mends.{HasNoEqualDigest, StandsIn}
use Rattle.image_view.specs.NextEntries.{AreNumberedBelow}
use Rattle.journal_ring.specs.declared.found.FoundEntry.{FoundEntry}
use Rattle.journal_ring.specs.EntryBlocks.{AreEntryBlocks, HoldBlocks}
use Rattle.journal_ring.specs.Parts.{area_of}
use Rattle.vol_types.specs.declared.layout.Layout.{Layout}
use Rattle.replay.specs.Beginning.{IsFoundOn, MeansTheSame}
use Rattle.replay.specs.Roots.{AreRootsAlike, IsRootBlock}

-- No torn block of the journal areas opens by chance: neither in what was read at each moment up to this one, nor in this image
-- that a crash left then.
pub record IsUntorn (layout : Layout) (first moment : ℕ) (state : DevicesState) (image : Image) : Type 0 where
  pub reads : (dev place : ℕ) → dev < layout.metadata_replicas → place < layout.journal → HasNoChanceMatch opens dev (16 + place) first moment state
  pub left : OnlyHeldEntriesOpen layout (state.disks moment) image

-- No torn block opens by chance, neither in the journal areas nor in the buckets of the roots that the newest entry of what was found names:
-- neither in what was read at each moment up to this one, nor in this image that a crash left then.
pub record IsVolumeUntorn (f : Found) (first moment : ℕ) (state : DevicesState) (image : Image) : Type 0 where
  pub journal : IsUntorn f.layout first moment state image
  pub root_reads : (dev block : ℕ) → IsRootBlock f dev block → HasNoChanceMatch opens dev block first moment state
  pub roots_left : (dev block : ℕ) → IsRootBlock f dev block → OnlyHeldOpensAt opens (state.disks moment) image dev block

-- It is a block in which sessions are sealed, on a metadata device.
pub record IsOfSessions (layout : Layout) (dev block : ℕ) : Type 0 where
  pub mirror : dev < layout.metadata_replicas
  pub place : (block ≡ 4) ⊎ (block ≡ 5)

-- No torn block of a session opens by chance: neither in what was read at each moment up to this one, nor in this image that a
-- crash left then.
pub record AreSessionsUntorn (layout : Layout) (first moment : ℕ) (state : DevicesState) (image : Image) : Type 0 where
  pub reads : (dev block : ℕ) → IsOfSessions layout dev block → HasNoChanceMatch opens dev block first moment state
  pub left : (dev block : ℕ) → IsOfSessions layout dev block → OnlyHeldOpensAt opens (state.disks moment) image dev block

-- This is found on the disks in order. Nothing is pending on the metadata devices, and no two records of their journal areas have
-- one digest.
pub record IsInOrderOn (f : Found) (disks : List Disk) : Type 0 where
  pub on : IsFoundOn f disks
  pub rest : AreAtRest f.layout.metadata_replicas disks
  pub order : IsInOrder f (as_read disks)
  pub digests : HasNoEqualDigest f.layout (area_of (as_read disks))

-- What the disks were up to a state stays.
abbrev pub KeepsPast : DevicesState → DevicesState → Type 0
KeepsPast old new = (moment : ℕ) → moment ≤ old.moment → new.disks moment ≡ old.disks moment

-- Whatever a crash left between two states has the same found, in order, where no torn block opens by chance.
abbrev pub KeepsFound : Found → DevicesState → DevicesState → Type 0
KeepsFound f old new =
    (moment : ℕ) → old.moment ≤ moment → moment ≤ new.moment → (image : Image) → IsCrashImage (new.disks moment) image
    → IsUntorn f.layout old.moment moment new image → (found image ≡ Ok f) × IsInOrder f image

-- The session of whatever a crash left between two states is the one that was found or the next one, where no torn block of a session opens by
-- chance.
abbrev pub KeepsSession : Found → DevicesState → DevicesState → Type 0
KeepsSession f old new =
    (moment : ℕ) → old.moment ≤ moment → moment ≤ new.moment → (image : Image) → IsCrashImage (new.disks moment) image
    → AreSessionsUntorn f.layout old.moment moment new image → (session : ℕ) → session_in f.layout image ≡ Some session → session ≤ f.session + 1

-- Whatever a crash left between two states means what the devices did at first, where no torn block opens by chance, and at most one
-- session was begun.
pub record KeepsMeaning (f : Found) (old new : DevicesState) : Type 0 where
  pub means : (moment : ℕ) → old.moment ≤ moment → moment ≤ new.moment → (image : Image) → IsCrashImage (new.disks moment) image
      → IsVolumeUntorn f old.moment moment new image → MeansTheSame f (as_read (now old)) image
  pub session : KeepsSession f old new

-- Each block that stands in the journal areas of the second image stands in those of the first one.
abbrev pub BringsNoBlock : Layout → Image → Image → Type 0
BringsNoBlock layout one other = (bytes : List ℕ) → StandsIn layout (area_of other) bytes → StandsIn layout (area_of one) bytes

-- It is a block of the journal area of a metadata device.
pub record IsJournalBlock (layout : Layout) (dev block : ℕ) : Type 0 where
  pub mirror : dev < layout.metadata_replicas
  pub behind : 16 ≤ block
  pub within : block < 16 + layout.journal

-- Whatever a crash left between two states is what was read at first, but in the journal areas.
abbrev pub ChangesJournal : Layout → DevicesState → DevicesState → Type 0
ChangesJournal layout old new = EachCrash (λ _ _ image. SameBut (IsJournalBlock layout) (as_read (now old)) image) old new

-- The entry stands on each metadata device.
pub record StandsOnAll (layout : Layout) (image : Image) (entry : FoundEntry) : Type 0 where
  pub blocks : List (List ℕ)
  pub sealed : AreEntryBlocks layout.id entry.number entry.entry blocks
  pub stand : HoldBlocks layout.metadata_replicas layout.journal entry.number blocks (length blocks) image

-- The first so many needed entries stand on each metadata device, and what was found is found in order.
pub record HasMended (f : Found) (count : ℕ) (disks : List Disk) : Type 0 where
  pub found_on : IsInOrderOn f disks
  pub stand : (index : ℕ) → index < count → StandsOnAll f.layout (as_read disks) (slice_index_or f.needed index f.last)

-- The volume is ready for a session that writes: what was found is found in order, each needed entry stands on every metadata device, the
-- roots have the same sets on all of them, and no block of the session stands in the journal areas, so that those of it are numbered
-- below any number.
pub record IsReady (f : Found) (disks : List Disk) : Type 0 where
  pub mended : HasMended f (length f.needed) disks
  pub roots : AreRootsAlike f (as_read disks)
  pub unwritten : (number : ℕ) → AreNumberedBelow f.layout f.session number (area_of (as_read disks))

-- From one state to a later one the first so many needed entries were mended.
pub record IsMendedTo (f : Found) (count : ℕ) (first here : DevicesState) : Type 0 where
  pub keeps : KeepsFound f first here
  pub mended : HasMended f count (now here)
  pub no_block : BringsNoBlock f.layout (as_read (now first)) (as_read (now here))
  pub past : (m : ℕ) → m ≤ first.moment → here.disks m ≡ first.disks m
