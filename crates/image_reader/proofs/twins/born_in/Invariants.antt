use Rattle.std.proofs.Common.{◌≡◌, ◌++◌, drop, map}
use Rattle.image_view.specs.Trees.{nodes_of}
use Rattle.image_reader.specs.Twins.{born}
use Rattle.image_reader.proofs.twins.born_in.Given as goal

abbrev pub invariant-loop-btree : goal.invariant-loop-btree
invariant-loop-btree l = l.nodes ++ map born (nodes_of (map (λ btree. btree.levels) (drop l.btree-index l.btrees))) ≡ map born (nodes_of (map (λ btree. btree.levels) l.btrees))
