use Rattle.std.proofs.Common.{◌≡◌, ◌+◌, ◌≤◌, ◌*◌, ◌^◌, length}
use Rattle.std.specs.Prelude.{All, Some, sum_by}
use Rattle.vol_types.specs.Lengths.{key_length_of}
use Rattle.vol_types.specs.Ranges.{IsValue}
use Rattle.node_mem.specs.Counts.{lengths_of}
use Rattle.node_mem.proofs.lengths.total.Given as goal

abbrev pub invariant-loop-value : goal.invariant-loop-value
invariant-loop-value l = record {
  sum : l.bytes + sum_by (λ value. key_length_of (Some value)) l.value-iterator ≡ lengths_of l.entries.entries;
  bound : l.bytes + 2 ^ 32 * length l.value-iterator ≤ 2 ^ 32 * length l.entries.entries;
  in_range : All IsValue l.value-iterator;
}
