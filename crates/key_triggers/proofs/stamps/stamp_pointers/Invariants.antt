use Rattle.std.proofs.Common.{◌≡◌, ◌++◌, drop, map}
use Rattle.key_view.specs.Seen.{GoesOn}
use Rattle.key_triggers.specs.Stamps.{stamped_pointer}
use Rattle.vol_types.specs.KeyMaps.{GivesLooks, KeyMap}
use Rattle.key_triggers.proofs.stamps.stamp_pointers.Given as goal

abbrev pub invariant-loop-pointer : goal.invariant-loop-pointer
invariant-loop-pointer g l =
    let V = g.V.View in
    record {
      stamps : (keys : KeyMap) → GivesLooks keys (V.made l.view) → l.stamps ++ map (stamped_pointer keys) (drop l.pointer-index l.pointers) ≡ map (stamped_pointer keys) l.pointers;
      looks : GoesOn (V.made l.fn.view) (V.made l.view);
      ids : V.told l.view ≡ V.told l.fn.view;
    }
