use Rattle.std.proofs.Common.{◌≡◌, All, drop, map}
use Rattle.std.specs.List.{flat_map}
use Rattle.std.specs.Map.{values_of}
use Rattle.dev_model.specs.Devices.{now}
use Rattle.dev_model.specs.Disk.{as_read}
use Rattle.dev_model.specs.Frames.{AreOnlyRead}
use Rattle.geometry.specs.Faults.{SomeFailed}
use Rattle.image_view.specs.Found.{sets_in, updates_of}
use Rattle.image_view.specs.Trees.{btree_of, each_of, with_roots}
use Rattle.image_reader.specs.Answers.{AreRagged, AreSureBtrees}
use Rattle.image_reader.specs.Volumes.{btree_in}
use Rattle.image_reader.proofs.TreeTold.{each_left}
use Rattle.image_reader.proofs.trees.read_btrees.Given as goal

abbrev pub invariant-loop-number : goal.invariant-loop-number
invariant-loop-number g l =
    let D = g.D.Devices in
    let first = D.state l.fn.devices in
    let image = as_read (now first) in
    let sets = sets_in l.layout image in
    let updates = updates_of l.entries in
    record {
      found : D.tells → (SomeFailed first.faults (D.state l.devices).faults → AreSureBtrees l.layout.id image (each_of (btree_of sets updates) (with_roots l.roots)))
          → each_left sets updates (map btree_in l.btrees) (drop l.number (with_roots l.roots)) ≡ each_of (btree_of sets updates) (with_roots l.roots);
      ragged : D.tells → (SomeFailed first.faults (D.state l.devices).faults → ⊥) → All (λ btree. AreRagged l.layout.id image (flat_map values_of btree.levels) btree.ragged) l.btrees;
      read : AreOnlyRead D.tells first (D.state l.devices);
    }
