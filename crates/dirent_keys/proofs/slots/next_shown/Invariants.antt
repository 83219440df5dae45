use Rattle.std.proofs.Common.{◌≡◌, ◌≤◌, ◌-◌, ◌^◌}
use Rattle.dirent_keys.specs.Slots.{ShowsNone}
use Rattle.key_view.specs.Seen.{GoesOn, IsSeen}
use Rattle.vol_types.specs.KeyMaps.{KeyMap}
use Rattle.dirent_keys.proofs.slots.next_shown.Given as goal

abbrev pub invariant-loop-slot : goal.invariant-loop-slot
invariant-loop-slot g l =
    ((keys : KeyMap) → IsSeen keys (g.V.View.made l.view) l.tree → ShowsNone keys l.id l.directory l.from l.next)
    × GoesOn (g.V.View.made l.fn.view) (g.V.View.made l.view)
    × (g.V.View.told l.view ≡ g.V.View.told l.fn.view)
    × (l.from ≤ l.next)

abbrev pub decreases-loop-slot : goal.decreases-loop-slot
decreases-loop-slot g l = 2 ^ 64 - l.next
