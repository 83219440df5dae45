use Rattle.tree_keys.proofs.Made.{IsTesting}
use Rattle.tree_keys.proofs.making.are_in_range.Given as goal

abbrev pub invariant-loop-pos : goal.invariant-loop-pos
invariant-loop-pos l = IsTesting l.keys.entries l.pos-iterator
