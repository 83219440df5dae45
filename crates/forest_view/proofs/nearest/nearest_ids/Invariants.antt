use Rattle.std.proofs.Common.{◌≡◌, []}
use Rattle.btree_map.specs.Trees.{entries_in}
use Rattle.forest_view.specs.Nearest.{nearest_with}
use Rattle.forest_view.proofs.nearest.nearest_ids.Given as goal

abbrev pub invariant-loop-pos : goal.invariant-loop-pos
invariant-loop-pos l = nearest_with l.chain.keys l.pos-iterator l.nearest.entries ≡ nearest_with l.chain.keys (entries_in l.map l.fn.btree) []
