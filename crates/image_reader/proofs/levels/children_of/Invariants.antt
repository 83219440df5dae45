use Rattle.std.proofs.Common.{◌≡◌, All, [], drop}
use Rattle.std.specs.Map.{values_of}
use Rattle.image_view.specs.Trees.{child_in, ends_at, first_place}
use Rattle.tree_nodes.specs.Levels.{IsNodeOf}
use Rattle.image_reader.proofs.LevelTold.{found_from}
use Rattle.image_reader.proofs.levels.children_of.Given as goal

abbrev pub invariant-loop-pos : goal.invariant-loop-pos
invariant-loop-pos l = record {
  found : found_from (child_in l.level) (first_place l.node.pointer) (ends_at l.node.greatest l.node.entries) l.children (drop l.pos-index l.node.entries)
      ≡ found_from (child_in l.level) (first_place l.node.pointer) (ends_at l.node.greatest l.node.entries) [] l.node.entries;
  nodes : All (IsNodeOf l.level) (values_of l.children);
}
