use Rattle.std.proofs.Common.{◌≡◌, ◌+◌, ◌*◌, ◌≤◌, drop, length}
use Rattle.std.specs.Prelude.{sum_by}
use Rattle.core_volume.proofs.space.heights.Given as goal

abbrev pub invariant-loop-code : goal.invariant-loop-code
invariant-loop-code l = record {
  sum : l.heights + sum_by length (drop l.code l.map.nodes) ≡ sum_by length l.map.nodes;
  few : l.heights ≤ 255 * l.code;
}
