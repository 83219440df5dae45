use Rattle.btree_map.specs.KeyLaws.{key_map-trees}
use Rattle.btree_map.specs.Trees.{keys_in}
use Rattle.forest_view.proofs.ForestMade.{forest_made}
use Rattle.forest_view.proofs.forests.forest_of.Goals as goal

pub returns : goal.returns
returns c meant =
    let trees = c.args.map.now in
    forest_made (keys_in trees) (key_map-trees trees c.height.ensures.sound) meant c.client_counters.result c.ids_left.result c.bare-forest.result c.insert_subvolumes.new.forest
    c.client_counters.ensures c.ids_left.ensures c.bare-forest.ensures c.in_ok-insert_subvolumes.ensures
