-- The first btree that is due among those that are left is the first one of all.
use Rattle.std.proofs.Common.{◌≡◌, drop}
use Rattle.std.specs.List.{filter}
use Rattle.node_writeback.specs.Due.{is_due}
use Rattle.node_writeback.proofs.due.first_due.Given as goal

abbrev pub invariant-loop-btree : goal.invariant-loop-btree
invariant-loop-btree l =
    filter (is_due l.durable l.map.nodes l.dirty.pins.numbers l.frozen) (drop l.btree-index l.btrees) ≡ filter (is_due l.durable l.map.nodes l.dirty.pins.numbers l.frozen) l.btrees
