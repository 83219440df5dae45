-- What the reader of a journal makes of the entries that it has seen so far.
use Rattle.std.specs.Prelude.{ℕ, ◌-◌, Bool, true, Option, None, Some}
use Rattle.journal_ring.specs.declared.found.FoundEntry.{FoundEntry}
use Rattle.journal_ring.specs.declared.journal.Journal.{Journal}
use Rattle.journal_ring.specs.Counting.{entries_from, is_later, read_as, with_one}

-- whether an entry counts, where this one of its sequence counts so far: there is none, or it counts before that one
abbrev pub counts_after : Option FoundEntry → FoundEntry → Bool
counts_after None found = true
counts_after (Some one) found = is_later found one

-- what a journal is read as, where this is the newest entry, and these ones count for the sequences before it
abbrev pub journal_up_to : (ℕ → Option FoundEntry) → FoundEntry → Journal
journal_up_to entry_of last = read_as (with_one (entries_from entry_of last.entry.oldest (last.entry.sequence - last.entry.oldest)) last.entry.sequence (Some last))
