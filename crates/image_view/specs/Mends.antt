-- An image in which a needed entry is mended: on each metadata device that lacks a part of it the part is written.
use Rattle.std.specs.Prelude.{◌≡◌, ℕ, ◌+◌, ◌<◌, List, length, map, All, Some}
use Rattle.dev_model.specs.Crashes.{SameBut}
use Rattle.dev_model.specs.Disk.{Image}
use Rattle.journal_ring.specs.declared.found.FoundEntry.{FoundEntry}
use Rattle.journal_ring.specs.EntryBlocks.{AreEntryBlocks, ring_block}
use Rattle.journal_ring.specs.Mending.{IsMendedAt}
use Rattle.journal_ring.specs.Parts.{Area, area_of}
use Rattle.vol_types.specs.declared.layout.Layout.{Layout}
use Rattle.image_view.specs.CrashEntries.{IsRecordOf}

-- It is the place of a part of the entry on a metadata device.
pub record IsPlaceOf (layout : Layout) (entry : FoundEntry) (count dev block : ℕ) : Type 0 where
  pub mirror : dev < layout.metadata_replicas
  pub part : ℕ
  pub within : part < count
  pub place : block ≡ ring_block layout.journal (entry.number + part)

-- The second image is the first one while an entry with these blocks is mended in it.
pub record IsMending (layout : Layout) (entry : FoundEntry) (blocks : List (List ℕ)) (one other : Image) : Type 0 where
  pub sealed : AreEntryBlocks layout.id entry.number entry.entry blocks
  pub lengths : map (λ blocks. length blocks) one ≡ map (λ blocks. length blocks) other
  pub parts : (dev p : ℕ) → dev < layout.metadata_replicas → p < length blocks → IsMendedAt layout entry.number blocks (area_of one) (area_of other) dev p
  pub elsewhere : SameBut (IsPlaceOf layout entry (length blocks)) one other

-- The bytes stand in the journal area of a metadata device.
pub record StandsIn (layout : Layout) (area : Area) (bytes : List ℕ) : Type 0 where
  pub dev : ℕ
  pub place : ℕ
  pub mirror : dev < layout.metadata_replicas
  pub within : place < layout.journal
  pub stands : area dev place ≡ Some bytes

-- No two records of blocks that stand in the journal areas have one digest and different payloads.
abbrev pub HasNoEqualDigest : Layout → Area → Type 0
HasNoEqualDigest layout area =
    (one other : List (List ℕ)) (payload second digest : List ℕ)
    → All (StandsIn layout area) one → All (StandsIn layout area) other → IsRecordOf one payload digest → IsRecordOf other second digest → payload ≡ second
