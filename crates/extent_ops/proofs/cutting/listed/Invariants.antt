use Rattle.std.proofs.Common.{◌≡◌, ◌++◌, map}
use Rattle.std.specs.BTreeMap.{btree_map_len}
use Rattle.extent_ops.specs.Cutting.{update_at}
use Rattle.extent_ops.proofs.cutting.listed.Given as goal

abbrev pub invariant-loop-end : goal.invariant-loop-end
invariant-loop-end l = l.updates ++ map (update_at l.file l.id) l.entries.entries ≡ map (update_at l.file l.id) l.fn.entries.entries

abbrev pub decreases-loop-end : goal.decreases-loop-end
decreases-loop-end l = btree_map_len l.entries
