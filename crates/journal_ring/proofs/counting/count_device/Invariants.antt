use Rattle.std.proofs.Common.{◌≡◌, ℕ}
use Rattle.std.specs.Ordering.{nat_cmp}
use Rattle.vol_types.specs.Maps.{value_at}
use Rattle.journal_ring.specs.Counting.{counting_on}
use Rattle.journal_ring.specs.Parts.{area_in}
use Rattle.journal_ring.proofs.counting.count_device.Given as goal

abbrev pub invariant-loop-place : goal.invariant-loop-place
invariant-loop-place l = (sequence : ℕ) → value_at nat_cmp sequence l.counting.entries ≡ counting_on l.layout (area_in l.areas) sequence l.dev (value_at nat_cmp sequence l.fn.counting.entries) l.place
