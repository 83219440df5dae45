use Rattle.std.proofs.Common.{◌≡◌, drop}
use Rattle.dirty_nodes.specs.Dirty.{AreMarked, changed_nodes, paths_of, with_pins}
use Rattle.core_volume.specs.Opening.{updates_in}
use Rattle.core_volume.proofs.opening.make_all_dirty.Given as goal

abbrev pub invariant-loop-found : goal.invariant-loop-found
invariant-loop-found l = record {
  pins : with_pins l.seq (changed_nodes l.map.nodes (updates_in (drop l.found-index l.needed))) l.dirty.pins.numbers ≡ with_pins l.seq (changed_nodes l.map.nodes (updates_in l.needed)) l.initial.dirty.pins.numbers;
  marked : AreMarked l.map.nodes l.dirty.pins.numbers l.dirty.marks.numbers;
  marks : with_pins l.seq (paths_of l.map.nodes (updates_in (drop l.found-index l.needed))) l.dirty.marks.numbers ≡ with_pins l.seq (paths_of l.map.nodes (updates_in l.needed)) l.initial.dirty.marks.numbers;
}
