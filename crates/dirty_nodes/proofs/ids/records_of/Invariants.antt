use Rattle.std.proofs.Common.{◌≡◌, ◌++◌}
use Rattle.btree_map.specs.Trees.{keys_in}
use Rattle.vol_types.specs.KeyMaps.{entries_of}
use Rattle.vol_types.specs.declared.positions.Btree.TheVariants.{Snapshots}
use Rattle.dirty_nodes.proofs.ids.records_of.Given as goal

abbrev pub invariant-loop-pos : goal.invariant-loop-pos
invariant-loop-pos l = l.snaps.entries ++ l.pos-iterator ≡ entries_of (keys_in l.map) Snapshots
