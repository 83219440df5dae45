use Rattle.image_reader.proofs.Making.{IsMaking}
use Rattle.image_reader.proofs.changes.with_changes.Given as goal

abbrev pub invariant-loop-pos : goal.invariant-loop-pos
invariant-loop-pos l = IsMaking l.fn.node l.changes.entries l.node l.pos-iterator
