use Rattle.std.proofs.Common.{◌≡◌, ◌++◌, drop}
use Rattle.std.specs.List.{flat_map}
use Rattle.vol_info.specs.Lines.{btree_line}
use Rattle.vol_info.proofs.text.add_btrees.Given as goal

abbrev pub invariant-loop-btree : goal.invariant-loop-btree
invariant-loop-btree l = l.text ++ flat_map btree_line (drop l.btree-index l.btrees) ≡ l.fn.text ++ flat_map btree_line l.btrees
