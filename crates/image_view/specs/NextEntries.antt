-- The next entry of the journal: what may be written behind the entries that were found, and what is found with it.
use Rattle.std.specs.Prelude.{◌≡◌, ◌⊎◌, ℕ, ◌+◌, ◌<◌, ◌≤◌, ◌^◌, List, [], ◌∷◌, ◌++◌, length, drop, slice_index_or, All, Contains, IsTrue, Some}
use Rattle.dev_model.specs.Disk.{Disk, Image, block_at}
use Rattle.dev_model.specs.HeldBlocks.{HaveHeld}
use Rattle.journal_ring.specs.Entries.{IsWholeOn}
use Rattle.journal_ring.specs.EntryBlocks.{AreEntryBlocks, HoldBlocks, parts_of}
use Rattle.journal_ring.specs.Mending.{IsEntryBlock}
use Rattle.journal_ring.specs.Parts.{Area, area_of}
use Rattle.journal_ring.specs.declared.found.FoundEntry.{FoundEntry}
use Rattle.record_codec.specs.Entries.{IsEntry}
use Rattle.sealed_block.specs.declared.heads.Head.{Head}
use Rattle.sealed_block.specs.Opening.{opened}
use Rattle.vol_types.specs.declared.layout.Layout.{Layout}
use Rattle.image_view.specs.Bases.{AgreeAt}
use Rattle.image_view.specs.CrashEntries.{IsHeldEntry, IsRecordOf, opens}
use Rattle.image_view.specs.Found.{Found, IsBelowRoots, PassesNone}
use Rattle.image_view.specs.Mends.{IsPlaceOf, StandsIn}
use Rattle.image_view.specs.Trees.{TreesRead}

-- what was found, with a further entry: it is the newest, it needs so many fewer of the others, and these are the btrees then
abbrev pub with_entry : ℕ → FoundEntry → TreesRead → Found → Found
with_entry passed entry trees f = record { layout = f.layout; session = f.session; last = entry; needed = drop passed f.needed ++ entry ∷ []; trees = trees }

-- The entry may be written behind those that were found, and then the first so many of them are no longer needed: it can be encoded, in at
-- most 64 parts; it begins where the newest one ends, is of the session, has the next sequence, and no update of it is above its root.
-- Its places are those of no needed entry, of those too that it no longer needs: these count until it is whole.
pub record IsNext (f : Found) (passed : ℕ) (next : FoundEntry) : Type 0 where
  pub entry : IsEntry next.entry
  pub parts : parts_of next.entry ≤ 64
  pub number : next.number ≡ f.last.end
  pub end : next.end ≡ next.number + parts_of next.entry
  pub end_fits : next.end < 2 ^ 64
  pub room : next.end ≤ (slice_index_or f.needed 0 f.last).number + f.layout.journal
  pub session : next.entry.session ≡ f.session
  pub sequence : next.entry.sequence ≡ f.last.entry.sequence + 1
  pub passes : passed ≤ length f.needed
  pub oldest : next.entry.oldest ≡ f.last.entry.oldest + passed
  pub levels : IsBelowRoots next.entry

-- Each whole entry that is made of held blocks passes none of those that were found, or it is this one.
abbrev pub NonePassesBut : Found → FoundEntry → List Disk → Image → Type 0
NonePassesBut f next disks image =
    (dev : ℕ) (entry : FoundEntry) (blocks : List (List ℕ)) → IsWholeOn f.layout (area_of image) dev entry → IsHeldEntry f.layout disks image entry blocks → PassesNone f entry ⊎ (entry ≡ next)

-- Of the blocks that the disks have held in the journal areas, each that opens stands there in the image, or it is one of the entry's
-- blocks, at its place.
abbrev pub HoldOldOrNext : Layout → Image → FoundEntry → List (List ℕ) → List Disk → Type 0
HoldOldOrNext layout image next blocks disks =
    (dev place : ℕ) (bytes : List ℕ) → dev < layout.metadata_replicas → place < layout.journal → IsTrue (opens bytes) → HaveHeld disks dev (16 + place) bytes
    → (block_at image dev (16 + place) ≡ Some bytes) ⊎ IsEntryBlock layout.metadata_replicas layout.journal next.number blocks dev (16 + place) bytes

-- The bytes stand in the journal areas, or they are one of these blocks.
abbrev pub StandsOrIsOf : Layout → Area → List (List ℕ) → List ℕ → Type 0
StandsOrIsOf layout area blocks bytes = StandsIn layout area bytes ⊎ Contains blocks bytes

-- No two records of blocks that stand in the journal areas, or are of these, have one digest and different payloads.
abbrev pub HasNoEqualDigestWith : Layout → Area → List (List ℕ) → Type 0
HasNoEqualDigestWith layout area blocks =
    (one other : List (List ℕ)) (payload second digest : List ℕ)
    → All (StandsOrIsOf layout area blocks) one → All (StandsOrIsOf layout area blocks) other → IsRecordOf one payload digest → IsRecordOf other second digest → payload ≡ second

-- Each block of the journal area that opens as a part of an entry that this session wrote has a number below this one.
abbrev pub AreNumberedBelow : Layout → ℕ → ℕ → Area → Type 0
AreNumberedBelow layout session number area =
    (dev place : ℕ) (bytes : List ℕ) (head : Head) → dev < layout.metadata_replicas → place < layout.journal
    → area dev place ≡ Some bytes → opened bytes ≡ Some head → head.kind ≡ 2 → head.id ≡ layout.id → head.owner ≡ session → head.number < number

-- The blocks of the next entry aren't taken for parts of an entry together with those that stand in the journal areas: of the session no
-- block there has a number behind the newest entry, which needs no belief; or no two records have one digest.
abbrev pub IsToldApart : Found → Area → List (List ℕ) → Type 0
IsToldApart f area blocks = AreNumberedBelow f.layout f.session f.last.end area ⊎ HasNoEqualDigestWith f.layout area blocks

-- Each block of the second image's journal areas that opens stood there in the first one, or it is one of the entry's blocks, at its place.
abbrev pub AreOldOrNext : Layout → FoundEntry → List (List ℕ) → Image → Image → Type 0
AreOldOrNext layout next blocks one other =
    (dev place : ℕ) (bytes : List ℕ) (head : Head) → dev < layout.metadata_replicas → place < layout.journal → area_of other dev place ≡ Some bytes → opened bytes ≡ Some head
    → (area_of one dev place ≡ Some bytes) ⊎ IsEntryBlock layout.metadata_replicas layout.journal next.number blocks dev (16 + place) bytes

-- In the journal areas the second image is the first one with an entry, whose blocks these are, on every metadata device.
pub record IsWritten (layout : Layout) (entry : FoundEntry) (blocks : List (List ℕ)) (one other : Image) : Type 0 where
  pub sealed : AreEntryBlocks layout.id entry.number entry.entry blocks
  pub stands : HoldBlocks layout.metadata_replicas layout.journal entry.number blocks (length blocks) other
  pub elsewhere : (dev place : ℕ) → dev < layout.metadata_replicas → place < layout.journal → ¬ IsPlaceOf layout entry (length blocks) dev (16 + place) → AgreeAt one other dev (16 + place)
