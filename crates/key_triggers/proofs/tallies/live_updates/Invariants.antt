use Rattle.std.proofs.Common.{◌≡◌, ◌++◌, map}
use Rattle.key_view.specs.Seen.{GoesOn}
use Rattle.key_triggers.specs.Tallies.{live_update}
use Rattle.vol_types.specs.KeyMaps.{GivesLooks, KeyMap}
use Rattle.key_triggers.proofs.tallies.live_updates.Given as goal

abbrev pub invariant-loop-bucket : goal.invariant-loop-bucket
invariant-loop-bucket g l =
    let V = g.V.View in
    record {
      updates : (keys : KeyMap) → GivesLooks keys (V.made l.view) → l.updates ++ map (live_update keys) l.bucket-iterator ≡ map (live_update keys) l.tallies.entries;
      looks : GoesOn (V.made l.fn.view) (V.made l.view);
      ids : V.told l.view ≡ V.told l.fn.view;
    }
