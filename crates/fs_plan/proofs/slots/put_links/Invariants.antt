use Rattle.std.proofs.Common.{◌≡◌, length}
use Rattle.fs_plan.specs.Listing.{with_links}
use Rattle.fs_plan.proofs.slots.put_links.Given as goal

abbrev pub invariant-loop-link : goal.invariant-loop-link
invariant-loop-link l = with_links l.left l.flags.entries ≡ with_links l.fn.links l.fn.flags.entries

abbrev pub decreases-loop-link : goal.decreases-loop-link
decreases-loop-link l = length l.left
