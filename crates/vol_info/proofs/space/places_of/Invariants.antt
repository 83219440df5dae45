use Rattle.std.proofs.Common.{◌≡◌, ◌++◌, drop}
use Rattle.std.specs.List.{flat_map}
use Rattle.vol_info.specs.Facts.{places_in}
use Rattle.vol_info.proofs.space.places_of.Given as goal

abbrev pub invariant-loop-btree : goal.invariant-loop-btree
invariant-loop-btree l = l.places ++ flat_map places_in (drop l.btree-index l.btrees) ≡ flat_map places_in l.btrees
