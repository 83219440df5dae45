use Rattle.birth_index.proofs.Putting.{IsPutting}
use Rattle.birth_index.proofs.pointers.put_all.Given as goal

abbrev pub invariant-loop-place : goal.invariant-loop-place
invariant-loop-place l = IsPutting l.fn.trees.items l.fn.changes l.trees.items l.births l.changes l.place
