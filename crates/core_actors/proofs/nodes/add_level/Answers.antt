use Rattle.std.proofs.Common.{◌++◌, ap}
use Rattle.std.specs.Map.{values_of}
use Rattle.btree_map.specs.Trees.{levels_in}
use Rattle.tree_nodes.specs.Levels.{level_of}
use Rattle.core_actors.proofs.Walking.{all_left}
use Rattle.core_actors.specs.Nodes.{places_of}
use Rattle.core_actors.proofs.nodes.add_level.Goals as goal

pub loop-next-init : goal.loop-next-init
loop-next-init c = ap (λ nodes. c.args.places.now ++ places_of (values_of nodes)) (all_left (level_of (levels_in c.args.map.now c.args.btree) c.args.level) c.requires.sound.row.fits)
