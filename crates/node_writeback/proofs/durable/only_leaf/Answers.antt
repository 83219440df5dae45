-- What btrees hold is a key map.
use Rattle.btree_map.specs.KeyLaws.{key_map-trees}
use Rattle.node_writeback.proofs.durable.only_leaf.Goals as goal

pub returns-clause-keys : goal.returns-clause-keys
returns-clause-keys c = key_map-trees c.args.map.now c.height.ensures.sound
