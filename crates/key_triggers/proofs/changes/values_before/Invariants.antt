use Rattle.std.proofs.Common.{◌≡◌, [], drop}
use Rattle.key_view.specs.Seen.{GoesOn}
use Rattle.key_triggers.specs.Changes.{values_before}
use Rattle.vol_types.specs.KeyMaps.{GivesLooks, KeyMap}
use Rattle.key_triggers.proofs.changes.values_before.Given as goal

abbrev pub invariant-loop-update : goal.invariant-loop-update
invariant-loop-update g l =
    let V = g.V.View in
    record {
      values : (keys : KeyMap) → GivesLooks keys (V.made l.view) → values_before keys (drop l.update-index l.updates) l.values.entries ≡ values_before keys l.updates [];
      looks : GoesOn (V.made l.fn.view) (V.made l.view);
      ids : V.told l.view ≡ V.told l.fn.view;
    }
