use Rattle.std.proofs.Common.{◌≡◌, ◌+◌, ◌*◌, ◌^◌, ◌<◌, ◌≤◌, length}
use Rattle.std.specs.Prelude.{All}
use Rattle.std.specs.Map.{values_of}
use Rattle.node_mem.specs.Counts.{lengths_of}
use Rattle.vol_types.specs.Ranges.{IsValue}
use Rattle.tree_keys.proofs.leaves.total.Given as goal

abbrev pub invariant-loop-value : goal.invariant-loop-value
invariant-loop-value l = record {
  sum : l.bytes + lengths_of l.value-iterator ≡ lengths_of l.fn.values;
  bound : l.bytes + 2 ^ 32 * length l.value-iterator ≤ 2 ^ 32 * length l.fn.values;
  few : length l.fn.values < 2 ^ 63;
  in_range : All IsValue (values_of l.value-iterator);
}
