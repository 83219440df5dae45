-- So far there is a key for each counter.
use Rattle.std.proofs.Common.{◌≡◌, ◌≤◌, map}
use Rattle.std.specs.List.{range_with_len}
use Rattle.vol_format.proofs.CounterKeys.{counter_key}
use Rattle.vol_format.proofs.fresh.counter_keys.Given as goal

abbrev pub invariant-loop-counter : goal.invariant-loop-counter
invariant-loop-counter l = record {
  keys : l.keys ≡ map counter_key (range_with_len 0 l.counter);
  few : l.counter ≤ 17;
}
