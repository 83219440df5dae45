use Rattle.std.proofs.Common.{◌≡◌}
use Rattle.btree_map.specs.Trees.{keys_in}
use Rattle.key_meaning.specs.Visible.{snaps_of}
use Rattle.forest_view.proofs.ChainLaws.{snaps_with}
use Rattle.forest_view.proofs.chains.snaps_of.Given as goal

abbrev pub invariant-loop-pos : goal.invariant-loop-pos
invariant-loop-pos l = snaps_with l.pos-iterator l.snaps.entries ≡ snaps_of (keys_in l.map)
