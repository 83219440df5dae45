use Rattle.std.proofs.Common.{◌≡◌, take}
use Rattle.btree_map.specs.Trees.{keys_in}
use Rattle.vol_types.specs.KeyMaps.{entries_of, with_updates}
use Rattle.vol_types.specs.declared.positions.Btree.TheVariants.{Snapshots}
use Rattle.dirty_nodes.proofs.ids.records_after.Given as goal

abbrev pub invariant-loop-update : goal.invariant-loop-update
invariant-loop-update l = l.snaps.entries ≡ entries_of (with_updates (take l.update-index l.updates) (keys_in l.map)) Snapshots
