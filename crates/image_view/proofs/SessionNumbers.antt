-- Blocks that a session wrote have numbers below the one that it writes next: so it is when it begins, and so it stays while needed entries
-- are mended.
use Rattle.std.proofs.Common.{◌≡◌, ◌≢◌, ◌⊎◌, ⊎_elim, ℕ, ◌+◌, ◌%◌, ◌<◌, List, [], length, get_or, slice_get, Some, None, Ok, sym, ap, subst, ◌∙◌, arith}
use Rattle.std.proofs.lemmas.Option.{get_or_from_slice_get, none-some, same_Some, slice_get_within}
use Rattle.std.specs.Prelude.{option_and_then}
use Rattle.dev_model.specs.Disk.{Image}
use Rattle.journal_ring.specs.Entries.{IsMadeOf, IsWhole}
use Rattle.journal_ring.specs.MadeOf.{made_of}
use Rattle.journal_ring.specs.Mending.{HasPart}
use Rattle.journal_ring.specs.Parts.{Area, AreSame, area_of, numbered}
use Rattle.journal_ring.specs.declared.found.FoundEntry.{FoundEntry}
use Rattle.sealed_block.specs.declared.heads.Head.{Head}
use Rattle.sealed_block.specs.Opening.{opened}
use Rattle.vol_types.specs.declared.layout.Layout.{Layout}
use Rattle.image_view.proofs.NeededEntries.{needed_whole, some_places}
use Rattle.image_view.proofs.NextBlocks.{BlockLaws}
use Rattle.image_view.proofs.NextStands.{is_place}
use Rattle.image_view.specs.Found.{AreOwned, Found, found}
use Rattle.image_view.specs.Mends.{IsMending, IsPlaceOf}
use Rattle.image_view.specs.NextEntries.{AreNumberedBelow}

-- When a session begins no block of it stands there.
pub numbers_begin : (layout : Layout) (one other : Area) (before session number : ℕ) → AreSame layout one other → AreOwned layout before one → before < session → AreNumberedBelow layout session number other
numbers_begin layout one other before session number same owned later dev place bytes head mirror within stands opens kind id owner =
    let most = owned dev place bytes head mirror within (same dev place mirror within ∙ stands) opens kind id in
    absurd (omega (arith, most, later, owner))

-- Whatever opens while a needed entry is mended stood there before.
module _ (laws : BlockLaws) (one other : Image) (f : Found) (is : found one ≡ Ok f) (index : ℕ) (entry : FoundEntry) (at : slice_get f.needed index ≡ Some entry) (blocks : List (List ℕ)) (mending : IsMending f.layout entry blocks one other) where
  some : 0 < f.layout.journal
  some = some_places laws.newest.read one f is

  whole : IsWhole f.layout (area_of one) entry
  whole = subst (IsWhole f.layout (area_of one)) (get_or_from_slice_get f.needed index entry f.last at) (needed_whole laws.newest.read one f is index f.last (slice_get_within f.needed index entry at))

  made : IsMadeOf f.layout (area_of one) entry blocks
  made =
      let m = made_of f.layout (area_of one) whole.0 entry whole.1 in
      subst (IsMadeOf f.layout (area_of one) entry) (laws.one_sealed f.layout.id entry.number entry.entry m.0 blocks (laws.made_sealed f.layout (area_of one) entry m.0 m.1) mending.sealed) m.1

  -- a place of a metadata device that holds these bytes
  abbrev StoodAt : List ℕ → Type 0
  StoodAt bytes = (dev : ℕ) × (place : ℕ) × (dev < f.layout.metadata_replicas) × (place < f.layout.journal) × (area_of one dev place ≡ Some bytes)

  stood_at : (dev place : ℕ) (bytes : List ℕ) (head : Head) → dev < f.layout.metadata_replicas → place < f.layout.journal → area_of other dev place ≡ Some bytes → opened bytes ≡ Some head → StoodAt bytes
  stood_at dev place bytes head mirror within stands opens = ⊎_elim
      (λ (found : (p : ℕ) × (p < length blocks) × (place ≡ (entry.number + p) % f.layout.journal)). ⊎_elim
      (λ (same : numbered f.layout (area_of other) dev (entry.number + found.0) ≡ numbered f.layout (area_of one) dev (entry.number + found.0)).
      (dev, place, mirror, within, ap (area_of one dev) found.2 ∙ sym same ∙ ap (area_of other dev) (sym found.2) ∙ stands))
      (λ (lacks : ¬ HasPart f.layout (area_of one) entry.number blocks dev found.0 × (HasPart f.layout (area_of other) entry.number blocks dev found.0 ⊎ (option_and_then opened (numbered f.layout (area_of other) dev (entry.number + found.0)) ≡ None))). ⊎_elim
      (λ (has : HasPart f.layout (area_of other) entry.number blocks dev found.0).
      let part = made.stand found.0 found.1 in
      let same : get_or blocks found.0 [] ≡ bytes = same_Some (get_or blocks found.0 []) bytes (sym has ∙ ap (area_of other dev) (sym found.2) ∙ stands) in
      (part.0, (entry.number + found.0) % f.layout.journal, part.1, omega (arith, some), part.2 ∙ ap Some same))
      (λ (torn : option_and_then opened (numbered f.layout (area_of other) dev (entry.number + found.0)) ≡ None).
      absurd (none-some head (sym torn ∙ ap (option_and_then opened) (ap (area_of other dev) (sym found.2) ∙ stands) ∙ opens)))
      lacks.1)
      (mending.parts dev found.0 mirror found.1))
      (λ (away : (p : ℕ) → p < length blocks → place ≢ (entry.number + p) % f.layout.journal).
      (dev, place, mirror, within, mending.elsewhere dev (16 + place) (λ (hit : IsPlaceOf f.layout entry (length blocks) dev (16 + place)). let there = hit.place in away hit.part hit.within (omega (arith, there))) ∙ stands))
      (is_place f.layout.journal entry.number place (length blocks))

  pub numbers_mended : (session number : ℕ) → AreNumberedBelow f.layout session number (area_of one) → AreNumberedBelow f.layout session number (area_of other)
  numbers_mended session number below dev place bytes head mirror within stands opens =
      let stood = stood_at dev place bytes head mirror within stands opens in
      below stood.0 stood.1 bytes head stood.2 stood.3 stood.4 opens
