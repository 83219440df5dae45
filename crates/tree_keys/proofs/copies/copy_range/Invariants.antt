use Rattle.tree_keys.proofs.Copying.{IsCopying}
use Rattle.tree_keys.proofs.copies.copy_range.Given as goal

abbrev pub invariant-loop-pos : goal.invariant-loop-pos
invariant-loop-pos l = IsCopying l.least l.greatest l.fn.values l.node l.pos-iterator
