use Rattle.std.proofs.Common.{◌≡◌, length}
use Rattle.subvol_ops.specs.Listing.{with_subs}
use Rattle.subvol_ops.proofs.listing.put_subs.Given as goal

abbrev pub invariant-loop-sub : goal.invariant-loop-sub
invariant-loop-sub l = with_subs l.left l.flags.entries ≡ with_subs l.fn.subs l.fn.flags.entries

abbrev pub decreases-loop-sub : goal.decreases-loop-sub
decreases-loop-sub l = length l.left
