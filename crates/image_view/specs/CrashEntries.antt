-- What a whole entry of an image that a crash leaves is made of, where no block of its journal areas opens by chance.
use Rattle.std.proofs.Common.{◌≡◌, ℕ, ◌+◌, ◌%◌, ◌<◌, Bool, List, [], length, Option, Some, sym, ap, ◌∙◌, arith}
use Rattle.std.specs.Prelude.{is_some, slice_index_or, All}
use Rattle.sha2.specs.Sha256.{sha256}
use Rattle.dev_model.specs.Devices.{DevicesState}
use Rattle.dev_model.specs.Disk.{Disk, Image}
use Rattle.dev_model.specs.HeldBlocks.{HasNoCollision, HaveHeld, OnlyHeldOpensAt, WasHeld}
use Rattle.journal_ring.specs.Entries.{IsMadeOf, IsWholeOn}
use Rattle.std.proofs.lemmas.Option.{same_Some}
use Rattle.journal_ring.specs.MadeOf.{made_of}
use Rattle.journal_ring.specs.Parts.{Area, area_of}
use Rattle.key_codec.specs.Combined.{ok_is}
use Rattle.record_codec.specs.Entries.{entry_in}
use Rattle.sealed_block.specs.declared.heads.Head.{Head}
use Rattle.journal_ring.specs.declared.found.FoundEntry.{FoundEntry}
use Rattle.sealed_block.specs.Opening.{opened}
use Rattle.sealed_block.specs.Records.{IsRecord, block_at}
use Rattle.vol_types.specs.declared.layout.Layout.{Layout}
use Rattle.image_view.specs.Found.{Found, PassesNone}

-- whether a block opens
abbrev pub opens : List ℕ → Bool
opens bytes = is_some (opened bytes)

-- Each block of the journal area of a metadata device that opens is one that its disk has held there. So no torn block's digest
-- matches by chance. It isn't said of other places: those of files may hold what clients made.
abbrev pub OnlyHeldEntriesOpen : Layout → List Disk → Image → Type 0
OnlyHeldEntriesOpen layout disks image = (dev place : ℕ) → dev < layout.metadata_replicas → place < layout.journal → OnlyHeldOpensAt opens disks image dev (16 + place)

-- Each block of an entry is one that the disks of some metadata device have held at the place of its number: it was last settled there,
-- or it was asked since to be written there.
pub record IsHeldEntry (layout : Layout) (disks : List Disk) (image : Image) (found : FoundEntry) (blocks : List (List ℕ)) : Type 0 where
  pub made : IsMadeOf layout (area_of image) found blocks
  pub held : (p : ℕ) → p < length blocks → (dev : ℕ) × (dev < layout.metadata_replicas) × HaveHeld disks dev (16 + (found.number + p) % layout.journal) (slice_index_or blocks p [])

-- In an image in whose journal areas only held blocks open, each whole entry is made of held blocks.
pub whole-held : (layout : Layout) (disks : List Disk) (image : Image) (dev : ℕ) (found : FoundEntry) → 0 < layout.journal → OnlyHeldEntriesOpen layout disks image → IsWholeOn layout (area_of image) dev found
    → (blocks : List (List ℕ)) × IsHeldEntry layout disks image found blocks
whole-held layout disks image dev found some only whole =
    let made = made_of layout (area_of image) dev found whole in (
      made.0,
      record {
        made = made.1;
        held = λ p lt.
            let stand = made.1.stand p lt in
            let all = made.1.record_is.parts in
            let part = all.parts p (omega (arith, lt, all.count)) in
            (stand.0, stand.1, only stand.0 ((found.number + p) % layout.journal) stand.1 (omega (arith, some)) (slice_index_or made.0 p []) stand.2 (ap is_some part.opens));
      },
    )

-- No whole entry that is made of held blocks passes those that were found.
abbrev pub NonePasses : Found → List Disk → Image → Type 0
NonePasses f disks image =
    (dev : ℕ) (entry : FoundEntry) (blocks : List (List ℕ)) → IsWholeOn f.layout (area_of image) dev entry → IsHeldEntry f.layout disks image entry blocks → PassesNone f entry

-- The blocks are a record with this payload and this record digest.
abbrev pub IsRecordOf : List (List ℕ) → List ℕ → List ℕ → Type 0
IsRecordOf blocks payload digest = IsRecord blocks payload × (sha256 payload ≡ digest)

-- the record digest that the blocks of an entry name
abbrev pub digest_of : {layout : Layout} {area : Area} {found : FoundEntry} {blocks : List (List ℕ)} → IsMadeOf layout area found blocks → List ℕ
digest_of made = made.first.whole

some_is : {A : Type 0} (o : Option A) (x y : A) → o ≡ Some x → o ≡ Some y → x ≡ y
some_is o x y one other = same_Some x y (sym one ∙ other)

-- Without collision, entries of one record digest whose blocks were held are the same entry, wherever they stand.
pub one_digest-one_entry : (layout : Layout) (area place : Area) (one other : FoundEntry) (blocks others : List (List ℕ)) (first last : ℕ) (state : DevicesState) → HasNoCollision IsRecordOf first last state
    → (made : IsMadeOf layout area one blocks) → (again : IsMadeOf layout place other others) → All (WasHeld first last state) blocks → All (WasHeld first last state) others → digest_of made ≡ digest_of again → one.entry ≡ other.entry
one_digest-one_entry layout area place one other blocks others first last state apart made again held others_held same =
    let names : sha256 made.payload ≡ made.first.whole = made.record_is.digest ∙ ap (λ (h : Head). h.whole) (some_is (opened (block_at blocks 0)) made.record_is.first made.first made.record_is.parts.begins made.begins) in
    let names_again : sha256 again.payload ≡ again.first.whole = again.record_is.digest ∙ ap (λ (h : Head). h.whole) (some_is (opened (block_at others 0)) again.record_is.first again.first again.record_is.parts.begins again.begins) in
    let payload : made.payload ≡ again.payload = apart blocks others made.payload again.payload again.first.whole held others_held (made.record_is, names ∙ same) (again.record_is, names_again) in
    ok_is one.entry other.entry (sym made.read ∙ ap entry_in payload ∙ again.read)
