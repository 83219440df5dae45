use Rattle.std.proofs.Common.{◌≡◌, ◌-◌, ◌^◌}
use Rattle.fs_plan.proofs.Gathered.{AreGathered}
use Rattle.key_meaning.specs.Checks.{AreNamesJoined, IsLiveLeaf}
use Rattle.key_view.specs.Seen.{GoesOn, IsSeen}
use Rattle.vol_types.specs.KeyMaps.{KeyMap}
use Rattle.fs_plan.proofs.slots.flags_in.Given as goal

abbrev pub invariant-loop-flags : goal.invariant-loop-flags
invariant-loop-flags g l =
    ((keys : KeyMap) → IsSeen keys (g.V.View.made l.view) l.tree → AreNamesJoined keys → IsLiveLeaf keys l.id → AreGathered keys l.id l.directory l.from l.flags.entries)
    × GoesOn (g.V.View.made l.fn.view) (g.V.View.made l.view)
    × (g.V.View.told l.view ≡ g.V.View.told l.fn.view)

abbrev pub decreases-loop-flags : goal.decreases-loop-flags
decreases-loop-flags g l = 2 ^ 64 - l.from
