use Rattle.std.proofs.Common.{nat_cmp, sym, subst}
use Rattle.btree_map.specs.KeyLaws.{key_map-trees}
use Rattle.btree_map.specs.Trees.{keys_in}
use Rattle.key_meaning.specs.VisibleLaws.{snaps_of-rises}
use Rattle.vol_types.specs.Maps.{IsMap}
use Rattle.forest_view.proofs.TreeMade.{made_from}
use Rattle.forest_view.proofs.trees.tree_of.Goals as goal

pub chain_of-requires : goal.chain_of-requires
chain_of-requires c = subst (IsMap nat_cmp) (sym c.requires) (snaps_of-rises (keys_in c.args.map.now))

pub returns : goal.returns
returns c =
    let trees = c.args.map.now in
    made_from (keys_in trees) (key_map-trees trees c.height.ensures.sound) c.args.sub.now c.args.snaps.now.entries c.in_ok-chain.chain.keys c.in_ok-inodes.inodes.entries c.in_ok-names.names.entries
    c.bare_of-tree.result c.insert_inodes.new.tree c.insert_names.new.tree c.requires c.in_ok-chain.ensures c.in_ok-inodes.ensures c.in_ok-names.ensures c.bare_of-tree.ensures c.in_ok-insert_inodes.ensures c.in_ok-insert_names.ensures
