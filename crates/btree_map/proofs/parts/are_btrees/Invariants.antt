use Rattle.std.proofs.Common.{[], ◌<◌}
use Rattle.std.specs.Prelude.{slice_index_or}
use Rattle.btree_map.specs.Trees.{IsBtree, cut_of}
use Rattle.vol_types.specs.Btrees.{btree_code}
use Rattle.vol_types.specs.declared.positions.Btree.{Btree}
use Rattle.btree_map.proofs.parts.are_btrees.Given as goal

abbrev pub invariant-loop-code : goal.invariant-loop-code
invariant-loop-code l = (btree : Btree) → btree_code btree < l.code → IsBtree btree (cut_of l.keys btree) (slice_index_or l.nodes (btree_code btree) [])
