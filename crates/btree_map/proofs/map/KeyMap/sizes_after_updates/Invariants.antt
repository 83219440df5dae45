use Rattle.std.proofs.Common.{◌≡◌, ◌++◌, drop}
use Rattle.std.specs.List.{flat_map}
use Rattle.btree_map.specs.Sizes.{all_btrees, sizes_in, sizes_of_updates}
use Rattle.btree_map.proofs.map.KeyMap.sizes_after_updates.Given as goal

abbrev pub invariant-loop-btree : goal.invariant-loop-btree
invariant-loop-btree l = l.sizes ++ flat_map (sizes_in l.self l.updates) (drop l.btree-index all_btrees) ≡ sizes_of_updates l.self l.updates
