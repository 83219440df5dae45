use Rattle.std.proofs.Common.{◌≡◌, ◌+◌, ◌^◌, ◌<◌, length}
use Rattle.tree_keys.proofs.copies.count_values.Given as goal

abbrev pub invariant-loop : goal.invariant-loop
invariant-loop l = record {
  counted : l.count + length l.iterator' ≡ length l.fn.values;
  few : length l.fn.values < 2 ^ 63;
}
