-- The needed entries of a journal that was read were whole in the areas where they were read.
use Rattle.std.proofs.Common.{◌≡◌, ℕ, ◌<◌, List, [], Option, Some, None, Result, Ok, Err, All, ap, sym, refl}
use Rattle.std.proofs.lemmas.List.Elements.{All-weaker}
use Rattle.journal_ring.specs.Counting.{IsJournalOf, journal_by, needed_by, newest, read_as}
use Rattle.journal_ring.specs.Entries.{IsWhole}
use Rattle.journal_ring.specs.Parts.{Area}
use Rattle.journal_ring.specs.declared.found.FoundEntry.{FoundEntry}
use Rattle.journal_ring.specs.declared.journal.Journal.{Journal}
use Rattle.journal_ring.specs.declared.journal.Journal.TheVariants.{NoEntry, Missing, Needed}
use Rattle.vol_types.specs.declared.layout.Layout.{Layout}
use Rattle.image_reader.specs.Answers.{WasWhole}

abbrev entries_in_journal : Journal → List FoundEntry
entries_in_journal (Needed entries) = entries
entries_in_journal NoEntry = []
entries_in_journal (Missing sequence) = []

read_needed : (entries : List FoundEntry) (r : Result (List FoundEntry) ℕ) → Needed entries ≡ read_as r → r ≡ Ok entries
read_needed entries (Ok es) is = ap (λ xs. Ok xs) (sym (ap entries_in_journal is))
read_needed entries (Err sequence) is = absurd cc

pub needed_were_whole : (law : (layout : Layout) (area : Area) (last : FoundEntry) (needed : List FoundEntry) → 0 < layout.journal → newest layout area ≡ Some last → needed_by layout area last ≡ Ok needed → All (IsWhole layout area) needed)
    → (layout : Layout) → 0 < layout.journal → (entries : List FoundEntry) → IsJournalOf layout (Needed entries) → All (WasWhole layout) entries
needed_were_whole law layout some entries seen = by (newest layout seen.0) refl seen.1
  where
    by : (n : Option FoundEntry) → newest layout seen.0 ≡ n → Needed entries ≡ journal_by layout seen.0 n → All (WasWhole layout) entries
    by None new is = absurd cc
    by (Some last) new is = All-weaker (IsWhole layout seen.0) (WasWhole layout) (λ found whole. (seen.0, whole)) entries (law layout seen.0 last entries some new (read_needed entries (needed_by layout seen.0 last) is))
