-- So far there is a root for each btree.
use Rattle.std.proofs.Common.{◌≡◌, ◌≤◌, map}
use Rattle.std.specs.List.{range_with_len}
use Rattle.vol_format.specs.Fresh.{fresh_root}
use Rattle.vol_format.proofs.fresh.roots_of.Given as goal

abbrev pub invariant-loop-number : goal.invariant-loop-number
invariant-loop-number l = record {
  roots : l.roots ≡ map (fresh_root l.fn.layout) (range_with_len 0 l.number);
  few : l.number ≤ 9;
}
