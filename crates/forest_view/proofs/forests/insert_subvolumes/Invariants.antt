use Rattle.std.proofs.Common.{◌≡◌}
use Rattle.btree_map.specs.Trees.{keys_in}
use Rattle.vol_types.specs.KeyMaps.{entries_of}
use Rattle.vol_types.specs.declared.positions.Btree.TheVariants.{Subvols}
use Rattle.forest_view.specs.Subvolumes.{with_subvolumes}
use Rattle.forest_view.proofs.forests.insert_subvolumes.Given as goal

abbrev pub invariant-loop-pos : goal.invariant-loop-pos
invariant-loop-pos l = with_subvolumes (keys_in l.map) l.pos-iterator l.forest ≡ with_subvolumes (keys_in l.map) (entries_of (keys_in l.map) Subvols) l.fn.forest
