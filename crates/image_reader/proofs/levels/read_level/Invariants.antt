use Rattle.std.proofs.Common.{◌≡◌, ◌++◌, All, drop, map, true}
use Rattle.std.specs.Prelude.{◌↔◌}
use Rattle.std.specs.Map.{values_of}
use Rattle.dev_model.specs.Devices.{now}
use Rattle.dev_model.specs.Disk.{as_read}
use Rattle.dev_model.specs.Frames.{AreOnlyRead}
use Rattle.geometry.specs.Faults.{SomeFailed}
use Rattle.image_view.specs.Found.{PlacesAgree, sets_in, updates_of}
use Rattle.image_view.specs.Trees.{read_level}
use Rattle.vol_types.specs.Positions.{least_pos}
use Rattle.vol_types.specs.Ranges.{IsValue}
use Rattle.image_reader.specs.Answers.{IsRagged}
use Rattle.image_reader.specs.Nodes.{node_in}
use Rattle.image_reader.proofs.LevelTold.{behind_done}
use Rattle.image_reader.proofs.levels.read_level.Given as goal

abbrev pub invariant-loop-greatest : goal.invariant-loop-greatest
invariant-loop-greatest g l =
    let D = g.D.Devices in
    let first = D.state l.fn.devices in
    let image = as_read (now first) in
    let sets = sets_in l.layout image in
    let updates = updates_of l.entries in
    record {
      found : D.tells → (SomeFailed first.faults (D.state l.devices).faults → All (PlacesAgree l.layout.id image) (values_of l.nodes))
          → behind_done (map node_in l.read) (read_level sets updates l.btree l.least (drop l.greatest-index l.nodes)) ≡ read_level sets updates l.btree least_pos l.nodes;
      ragged : D.tells → (SomeFailed first.faults (D.state l.devices).faults → ⊥) → All (λ node. (node.ragged ≡ true) ↔ IsRagged l.layout.id image node.pointer) l.read;
      pointers : map (λ node. node.pointer) l.read ++ values_of (drop l.greatest-index l.nodes) ≡ values_of l.nodes;
      in_range : All (λ node. All IsValue (values_of node.entries)) l.read;
      read : AreOnlyRead D.tells first (D.state l.devices);
    }
