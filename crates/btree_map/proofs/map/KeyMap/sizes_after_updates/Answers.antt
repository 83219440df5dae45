use Rattle.btree_map.proofs.Choosing.{listing_more}
use Rattle.btree_map.specs.Sizes.{all_btrees, sizes_in, sizes_of_updates}
use Rattle.vol_types.specs.declared.positions.Btree.TheVariants.{Extents}
use Rattle.btree_map.proofs.map.KeyMap.sizes_after_updates.Goals as goal

pub loop-btree-preserved : goal.loop-btree-preserved
loop-btree-preserved c =
    listing_more (sizes_in c.args.self.now c.args.updates.now) all_btrees c.loop-btree.btree-index Extents c.loop-btree.sizes c.add_sizes.new.sizes (sizes_of_updates c.args.self.now c.args.updates.now) c.loop-btree-test.true c.loop-btree.invariant c.in_ok-add_sizes.ensures
