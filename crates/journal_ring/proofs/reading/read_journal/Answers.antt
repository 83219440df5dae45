use Rattle.std.proofs.Common.{◌≡◌, ◌<◌, ℕ, List, Option, Some, None, Result, Ok, Err, refl, arith, subst, sym}
use Rattle.std.proofs.lemmas.List.Elements.{All-weaker}
use Rattle.std.specs.Prelude.{All}
use Rattle.geometry.specs.LayoutFacts.{has_places}
use Rattle.record_codec.specs.Entries.{IsEntryInRange}
use Rattle.vol_types.specs.declared.layout.Layout.{Layout}
use Rattle.journal_ring.specs.declared.found.FoundEntry.{FoundEntry}
use Rattle.journal_ring.specs.Counting.{AreInRange, journal_by, journal_in, needed_by, newest, read_as}
use Rattle.journal_ring.specs.Entries.{IsWhole}
use Rattle.journal_ring.specs.Parts.{Area, area_in}
use Rattle.journal_ring.proofs.Sealed.{AreSealed, AreSoLong, IsExactFormat, whole_can}
use Rattle.journal_ring.proofs.reading.read_journal.Goals as goal

-- The needed entries that some areas are read as are in range, since they are whole.
module _ (sealed : AreSealed) (exact : IsExactFormat) (so_long : AreSoLong) (layout : Layout) (area : Area)
    (whole : (last : FoundEntry) (needed : List FoundEntry) → newest layout area ≡ Some last → needed_by layout area last ≡ Ok needed → All (IsWhole layout area) needed) where
  of_needed : (last : FoundEntry) (needed : Result (List FoundEntry) ℕ) → newest layout area ≡ Some last → needed_by layout area last ≡ needed → AreInRange (read_as needed)
  of_needed last (Ok entries) new is = All-weaker (IsWhole layout area) (λ (found : FoundEntry). IsEntryInRange found.entry) (λ found w. (whole_can sealed exact so_long layout area w.0 found w.1).entry.in_range) entries (whole last entries new is)
  of_needed last (Err missing) new is = tt

  of_newest : (last : Option FoundEntry) → newest layout area ≡ last → AreInRange (journal_by layout area last)
  of_newest None is = tt
  of_newest (Some last) is = of_needed last (needed_by layout area last) is refl

  are_in_range : AreInRange (journal_in layout area)
  are_in_range = of_newest (newest layout area) refl

pub journal_of-requires : goal.journal_of-requires
journal_of-requires g c = omega (arith, (has_places (g.D.Devices.state c.args.devices.now).sizes c.args.layout.now c.requires.layout).least)

pub returns-clause-in_range : goal.returns-clause-in_range
returns-clause-in_range g c =
    let layout = c.args.layout.now in
    let some : 0 < layout.journal = let least = (has_places (g.D.Devices.state c.args.devices.now).sizes layout c.requires.layout).least in omega (arith, least) in
    let area : Area = area_in c.as_slice.result.now in
    subst AreInRange (sym c.in_ok-journal_of.ensures)
    (are_in_range c.opened_blocks_are_sealed.ensures c.entries_are_exact.ensures c.entry_lengths.ensures layout area (λ last needed new is. c.leading_entries_are_needed.ensures.whole layout area last needed some new is))
