use Rattle.birth_index.proofs.Growing.{IsGrowing}
use Rattle.birth_index.proofs.making.add_tree.Given as goal

abbrev pub invariant-loop-level : goal.invariant-loop-level
invariant-loop-level l = IsGrowing l.fn.names.entries l.names.entries l.btree l.tree l.level
