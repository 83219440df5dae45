use Rattle.std.proofs.Common.{◌≡◌, take}
use Rattle.std.specs.Ordering.{nat_cmp}
use Rattle.vol_types.specs.Maps.{IsMap}
use Rattle.snap_tree.specs.Snaps.{snaps_in}
use Rattle.snap_tree.specs.Links.{HaveSameIds}
use Rattle.snap_tree.proofs.tree.SnapTree.of.Given as goal

abbrev pub invariant-loop-key : goal.invariant-loop-key
invariant-loop-key l =
    IsMap nat_cmp l.snaps.entries × (l.snaps.entries ≡ snaps_in (take l.key-index l.key-items)) × HaveSameIds l.snaps.entries l.links.entries
