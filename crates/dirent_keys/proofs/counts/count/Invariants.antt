use Rattle.std.proofs.Common.{◌≡◌, ◌-◌, ◌^◌}
use Rattle.dirent_keys.proofs.Walked.{below}
use Rattle.key_meaning.specs.Checks.{AreNamesJoined, IsLiveLeaf}
use Rattle.key_meaning.specs.Tidy.{AreKeysDrawn}
use Rattle.key_view.specs.Seen.{GoesOn, IsSeen}
use Rattle.vol_types.specs.KeyMaps.{KeyMap}
use Rattle.dirent_keys.proofs.counts.count.Given as goal

abbrev pub invariant-loop-shown : goal.invariant-loop-shown
invariant-loop-shown g l =
    ((keys : KeyMap) → IsSeen keys (g.V.View.made l.view) l.tree → AreKeysDrawn keys → AreNamesJoined keys → IsLiveLeaf keys l.id → l.count ≡ below keys l.id l.dir l.from)
    × GoesOn (g.V.View.made l.fn.view) (g.V.View.made l.view)
    × (g.V.View.told l.view ≡ g.V.View.told l.fn.view)

abbrev pub decreases-loop-shown : goal.decreases-loop-shown
decreases-loop-shown g l = 2 ^ 64 - l.from
