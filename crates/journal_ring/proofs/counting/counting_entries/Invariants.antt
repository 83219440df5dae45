use Rattle.std.proofs.Common.{◌≡◌, ℕ}
use Rattle.std.specs.Ordering.{nat_cmp}
use Rattle.vol_types.specs.Maps.{value_at}
use Rattle.journal_ring.specs.Counting.{counting_below}
use Rattle.journal_ring.specs.Parts.{area_in}
use Rattle.journal_ring.proofs.counting.counting_entries.Given as goal

abbrev pub invariant-loop-dev : goal.invariant-loop-dev
invariant-loop-dev l = (sequence : ℕ) → value_at nat_cmp sequence l.entries.entries ≡ counting_below l.layout (area_in l.areas) sequence l.dev
