-- Which whole entry counts for a sequence, which is the newest, and which ones are needed.
use Rattle.std.specs.Prelude.{◌≡◌, ℕ, zero, suc, ◌+◌, ◌-◌, ◌%◌, ◌<◌, ◌⊎◌, Bool, ◌&&◌, ◌||◌, ◌==◌, nat_lt, if◌then◌else◌, List, [], ◌∷◌, ◌++◌, Option, Some, None, option_map, option_and_then, Result, Ok, Err, All, ⊤}
use Rattle.record_codec.specs.Entries.{IsEntryInRange}
use Rattle.sealed_block.specs.Opening.{opened}
use Rattle.vol_types.specs.declared.layout.Layout.{Layout}
use Rattle.geometry.specs.Sessions.{greater}
use Rattle.journal_ring.specs.declared.found.FoundEntry.{FoundEntry}
use Rattle.journal_ring.specs.declared.journal.Journal.{Journal}
use Rattle.journal_ring.specs.declared.journal.Journal.TheVariants.{NoEntry, Missing, Needed}
use Rattle.journal_ring.specs.Parts.{Area}
use Rattle.journal_ring.specs.Entries.{IsWholeOn, entry_on}

-- Of two whole entries with one sequence, with their devices, the first counts before the other: it has the greater session, then the
-- greater journal block number, then its part 0 stands on the lower device.
abbrev pub CountsBefore : ℕ → FoundEntry → ℕ → FoundEntry → Type 0
CountsBefore dev one other_dev other =
    (other.entry.session < one.entry.session)
    ⊎ ((one.entry.session ≡ other.entry.session) × (other.number < one.number))
    ⊎ ((one.entry.session ≡ other.entry.session) × (one.number ≡ other.number) × (dev < other_dev))

-- The entry counts for its sequence: it is whole, and none of the same sequence counts before it.
pub record Counts (layout : Layout) (area : Area) (dev : ℕ) (found : FoundEntry) : Type 0 where
  pub whole : IsWholeOn layout area dev found
  pub first : (other : ℕ) (another : FoundEntry) → IsWholeOn layout area other another → another.entry.sequence ≡ found.entry.sequence → CountsBefore other another dev found → ⊥

-- the whole entry whose part 0 stands at a place of a device: its number is that of the block's head, and this its place
abbrev pub entry_at : Layout → Area → ℕ → ℕ → Option FoundEntry
entry_at layout area dev place = option_and_then (λ head. if head.number % layout.journal == place then entry_on layout area dev head.number else None) (option_and_then opened (area dev place))

-- whether another entry counts before one that stands on the same device or on a lower one: it has the greater session, then the greater number
abbrev pub is_later : FoundEntry → FoundEntry → Bool
is_later other one = nat_lt one.entry.session other.entry.session || (one.entry.session == other.entry.session && nat_lt one.number other.number)

-- the entry that counts so far, and then another one, if that has the sequence and counts before it
abbrev pub counting_then : ℕ → Option FoundEntry → Option FoundEntry → Option FoundEntry
counting_then sequence before None = before
counting_then sequence None (Some other) = if other.entry.sequence == sequence then Some other else None
counting_then sequence (Some one) (Some other) = if other.entry.sequence == sequence && is_later other one then Some other else Some one

-- the entry of a sequence that counts after the first so many places of a device, and what came before
abbrev pub counting_on : Layout → Area → ℕ → ℕ → Option FoundEntry → ℕ → Option FoundEntry
counting_on layout area sequence dev before zero = before
counting_on layout area sequence dev before (suc place) = counting_then sequence (counting_on layout area sequence dev before place) (entry_at layout area dev place)

-- the entry of a sequence that counts on the first so many devices
abbrev pub counting_below : Layout → Area → ℕ → ℕ → Option FoundEntry
counting_below layout area sequence zero = None
counting_below layout area sequence (suc dev) = counting_on layout area sequence dev (counting_below layout area sequence dev) layout.journal

-- the entry that counts for a sequence
unfoldable pub counting : Layout → Area → ℕ → Option FoundEntry
counting layout area sequence = counting_below layout area sequence layout.metadata_replicas

-- the greater of two sequences, where both are there
abbrev pub greater_sequence : Option ℕ → Option FoundEntry → Option ℕ
greater_sequence before found = greater before (option_map (λ f. f.entry.sequence) found)

-- the greatest sequence of a whole entry of the first so many places of a device, and what came before
abbrev pub greatest_on : Layout → Area → ℕ → Option ℕ → ℕ → Option ℕ
greatest_on layout area dev before zero = before
greatest_on layout area dev before (suc place) = greater_sequence (greatest_on layout area dev before place) (entry_at layout area dev place)

-- the same of the first so many devices
abbrev pub greatest_below : Layout → Area → ℕ → Option ℕ
greatest_below layout area zero = None
greatest_below layout area (suc dev) = greatest_on layout area dev (greatest_below layout area dev) layout.journal

-- the newest entry: the one that counts for the greatest sequence
unfoldable pub newest : Layout → Area → Option FoundEntry
newest layout area = option_and_then (counting layout area) (greatest_below layout area layout.metadata_replicas)

-- entries with the next one behind them, or the first sequence that has none
abbrev pub with_one : Result (List FoundEntry) ℕ → ℕ → Option FoundEntry → Result (List FoundEntry) ℕ
with_one (Err missing) sequence next = Err missing
with_one (Ok entries) sequence None = Err sequence
with_one (Ok entries) sequence (Some next) = Ok (entries ++ next ∷ [])

-- the entries of so many sequences from one on, or the first sequence that has none
abbrev pub entries_from : (ℕ → Option FoundEntry) → ℕ → ℕ → Result (List FoundEntry) ℕ
entries_from entry_of sequence zero = Ok []
entries_from entry_of sequence (suc count) = with_one (entries_from entry_of sequence count) (sequence + count) (entry_of (sequence + count))

-- the needed entries: those of the sequences from the newest one's oldest up to it, and the newest one; or the first sequence that is missing
abbrev pub needed_by : Layout → Area → FoundEntry → Result (List FoundEntry) ℕ
needed_by layout area last = with_one (entries_from (counting layout area) last.entry.oldest (last.entry.sequence - last.entry.oldest)) last.entry.sequence (Some last)

-- the needed entries, or the one that is missing, as what a journal is read as
abbrev pub read_as : Result (List FoundEntry) ℕ → Journal
read_as (Ok entries) = Needed entries
read_as (Err sequence) = Missing sequence

-- what a journal is read as, where this is the newest entry
abbrev pub journal_by : Layout → Area → Option FoundEntry → Journal
journal_by layout area None = NoEntry
journal_by layout area (Some last) = read_as (needed_by layout area last)

-- what a journal is read as
abbrev pub journal_in : Layout → Area → Journal
journal_in layout area = journal_by layout area (newest layout area)

-- The journal is what some journal areas are read as.
abbrev pub IsJournalOf : Layout → Journal → Type 0
IsJournalOf layout journal = (area : Area) × (journal ≡ journal_in layout area)

-- Each of the needed entries, where they were read, is in range.
abbrev pub AreInRange : Journal → Type 0
AreInRange NoEntry = ⊤
AreInRange (Missing sequence) = ⊤
AreInRange (Needed entries) = All (λ found. IsEntryInRange found.entry) entries
