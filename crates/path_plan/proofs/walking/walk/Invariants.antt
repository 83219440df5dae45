use Rattle.std.proofs.Common.{◌≡◌, drop}
use Rattle.path_plan.specs.Looking.{lead_to}
use Rattle.key_view.specs.Seen.{GoesOn, IsSeen}
use Rattle.vol_types.specs.KeyMaps.{KeyMap}
use Rattle.path_plan.proofs.walking.walk.Given as goal

abbrev pub invariant-loop-name : goal.invariant-loop-name
invariant-loop-name g l =
    ((keys : KeyMap) → IsSeen keys (g.V.View.made l.view) l.tree → lead_to keys l.sub.id (drop l.name-index l.names) l.number ≡ lead_to keys l.sub.id l.names l.sub.root)
    × GoesOn (g.V.View.made l.fn.view) (g.V.View.made l.view)
    × (g.V.View.told l.view ≡ g.V.View.told l.fn.view)
