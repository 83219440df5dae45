use Rattle.std.proofs.Common.{◌≡◌, ◌-◌, ◌^◌}
use Rattle.key_view.proofs.Scanning.{NoneBelow}
use Rattle.key_view.specs.Seen.{GoesOn, IsSeen}
use Rattle.vol_types.specs.KeyMaps.{KeyMap}
use Rattle.key_view.proofs.visibility.nearest.Given as goal

abbrev pub invariant-loop-owner : goal.invariant-loop-owner
invariant-loop-owner g l =
    ((keys : KeyMap) → IsSeen keys (g.V.View.made l.view) l.tree → NoneBelow keys l.btree l.inode l.offset l.tree l.id l.from)
    × GoesOn (g.V.View.made l.fn.view) (g.V.View.made l.view)
    × (g.V.View.told l.view ≡ g.V.View.told l.fn.view)

abbrev pub decreases-loop-owner : goal.decreases-loop-owner
decreases-loop-owner g l = 2 ^ 32 - l.from
