-- The nodes that are left may be moved, and what they make of the pins and marks now is what all of them make of those at first.
use Rattle.std.proofs.Common.{◌≡◌, drop}
use Rattle.node_writeback.specs.Placing.{MayMove, moved_pins}
use Rattle.node_writeback.proofs.placing.move_all.Given as goal

abbrev pub invariant-loop-node : goal.invariant-loop-node
invariant-loop-node l = record {
  pins : moved_pins (drop l.node-index l.frozen) l.fn.dirty.later.numbers l.dirty.pins.numbers ≡ moved_pins l.frozen l.fn.dirty.later.numbers l.fn.dirty.pins.numbers;
  marks : moved_pins (drop l.node-index l.frozen) l.fn.dirty.later.numbers l.dirty.marks.numbers ≡ moved_pins l.frozen l.fn.dirty.later.numbers l.fn.dirty.marks.numbers;
  later : l.dirty.later.numbers ≡ l.fn.dirty.later.numbers;
  may : MayMove l.dirty.pins.numbers l.dirty.marks.numbers (drop l.node-index l.frozen);
}
