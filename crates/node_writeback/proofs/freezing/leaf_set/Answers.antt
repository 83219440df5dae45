-- The keys of a leaf are those of a set.
use Rattle.node_writeback.proofs.Sets.{set_in_range, small_fits}
use Rattle.node_writeback.proofs.freezing.leaf_set.Goals as goal

pub returns-clause-in_range : goal.returns-clause-in_range
returns-clause-in_range c =
    let node = c.args.leaf.now in
    set_in_range c.args.birth c.args.btree node c.least.result c.greatest.result c.in_ok-keys.field-0 c.least.ensures c.greatest.ensures c.in_ok-keys.ensures
    (c.nodes_are_sets.ensures.keys c.args.btree 0 node c.size.ensures.sound (small_fits node.entries c.requires.fits) c.requires.stand)
