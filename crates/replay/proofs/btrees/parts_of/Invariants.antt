use Rattle.std.specs.Vec.Iter.{into_iter_items}
use Rattle.replay.proofs.Making.{IsMaking}
use Rattle.replay.proofs.btrees.parts_of.Given as goal

abbrev pub invariant-loop-btree : goal.invariant-loop-btree
invariant-loop-btree l = IsMaking l.fn.btrees l.parts.keys l.parts.nodes l.parts.ends l.parts.ragged (into_iter_items l.btree-iterator)
