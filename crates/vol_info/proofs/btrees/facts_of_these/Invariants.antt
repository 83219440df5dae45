use Rattle.std.proofs.Common.{◌≡◌, ◌++◌, drop, map}
use Rattle.image_reader.specs.Volumes.{found_of}
use Rattle.vol_info.specs.Facts.{btree_facts}
use Rattle.vol_info.proofs.btrees.facts_of_these.Given as goal

abbrev pub invariant-loop-btree : goal.invariant-loop-btree
invariant-loop-btree l = l.facts ++ map (btree_facts (found_of l.found).trees) (drop l.btree-index l.btrees) ≡ map (btree_facts (found_of l.found).trees) l.btrees
