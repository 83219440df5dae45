use Rattle.std.proofs.Common.{◌≡◌, ◌++◌, map}
use Rattle.interior.specs.Contents.{entry_of}
use Rattle.vol_types.specs.KeyMaps.{keys_in}
use Rattle.btree_map.proofs.births.children_keys.Given as goal

abbrev pub invariant-loop-pos : goal.invariant-loop-pos
invariant-loop-pos l = l.keys ++ keys_in (map entry_of l.pos-iterator) ≡ keys_in (map entry_of l.fn.children)
