use Rattle.std.proofs.Common.{◌≡◌, ◌-◌, ◌^◌}
use Rattle.key_meaning.specs.Tidy.{AreKeysDrawn, AreNamesGood}
use Rattle.key_view.specs.Seen.{GoesOn}
use Rattle.subvol_ops.proofs.Gathered.{AreGathered}
use Rattle.vol_types.specs.KeyMaps.{GivesLooks, IsKeyMap, KeyMap}
use Rattle.subvol_ops.proofs.listing.flags_in.Given as goal

abbrev pub invariant-loop-flags : goal.invariant-loop-flags
invariant-loop-flags g l =
    ((keys : KeyMap) → GivesLooks keys (g.V.View.made l.view) → IsKeyMap keys → AreKeysDrawn keys → AreNamesGood keys → AreGathered keys l.from l.flags.entries)
    × GoesOn (g.V.View.made l.fn.view) (g.V.View.made l.view)
    × (g.V.View.told l.view ≡ g.V.View.told l.fn.view)

abbrev pub decreases-loop-flags : goal.decreases-loop-flags
decreases-loop-flags g l = 2 ^ 64 - l.from
