use Rattle.std.proofs.Common.{◌≡◌, ◌+◌, ◌-◌, ◌≤◌, ℕ, Ok}
use Rattle.std.specs.Ordering.{nat_cmp}
use Rattle.vol_types.specs.Maps.{value_at}
use Rattle.journal_ring.specs.Counting.{entries_from}
use Rattle.journal_ring.proofs.counting.needed_entries.Given as goal

abbrev pub invariant-loop-sequence : goal.invariant-loop-sequence
invariant-loop-sequence l = record {
  within : l.sequence-counter ≤ l.last.entry.oldest + (l.last.entry.sequence - l.last.entry.oldest);
  begun : l.last.entry.oldest ≤ l.sequence-counter;
  so_far : entries_from (λ sequence. value_at nat_cmp sequence l.fn.below.entries) l.last.entry.oldest (l.sequence-counter - l.last.entry.oldest) ≡ Ok l.needed;
  left : (sequence : ℕ) → l.sequence-counter ≤ sequence → value_at nat_cmp sequence l.below.entries ≡ value_at nat_cmp sequence l.fn.below.entries;
}
