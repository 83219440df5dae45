use Rattle.std.proofs.Common.{◌≡◌, ◌+◌, ◌≤◌, drop, length}
use Rattle.dirty_nodes.specs.Dirty.{with_pins}
use Rattle.dirty_nodes.proofs.dirty.pin_all.Given as goal

abbrev pub invariant-loop-birth : goal.invariant-loop-birth
invariant-loop-birth l = record {
  pinned : with_pins l.seq (drop l.birth-index l.births) l.pins.numbers ≡ with_pins l.seq l.births l.initial.pins.numbers;
  room : length l.births ≤ l.pins.spare + l.birth-index;
}
