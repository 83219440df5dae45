use Rattle.birth_index.proofs.Adding.{IsAdding}
use Rattle.birth_index.proofs.making.add_level.Given as goal

abbrev pub invariant-loop-greatest : goal.invariant-loop-greatest
invariant-loop-greatest l = IsAdding l.fn.names.entries l.names.entries l.btree l.level l.nodes l.greatest-iterator
