use Rattle.std.proofs.Common.{take}
use Rattle.snap_tree.specs.Updates.{snaps_after}
use Rattle.snap_tree.specs.Changes.{Leads}
use Rattle.snap_tree.proofs.change.changes_of.Given as goal

abbrev pub invariant-loop-update : goal.invariant-loop-update
invariant-loop-update l = Leads l.snaps.entries (snaps_after l.snaps.entries (take l.update-index l.update-items)) l.changes.entries
