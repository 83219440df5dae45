use Rattle.std.proofs.Common.{◌≡◌, ◌++◌, drop, map}
use Rattle.key_view.specs.Seen.{GoesOn}
use Rattle.key_triggers.specs.Stamps.{stamped}
use Rattle.vol_types.specs.KeyMaps.{GivesLooks, KeyMap}
use Rattle.key_triggers.proofs.stamps.stamp_all.Given as goal

abbrev pub invariant-loop-update : goal.invariant-loop-update
invariant-loop-update g l =
    let V = g.V.View in
    record {
      stamps : (keys : KeyMap) → GivesLooks keys (V.made l.view) → l.stamps ++ map (stamped keys) (drop l.update-index l.updates) ≡ map (stamped keys) l.updates;
      looks : GoesOn (V.made l.fn.view) (V.made l.view);
      ids : V.told l.view ≡ V.told l.fn.view;
    }
