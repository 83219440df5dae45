use Rattle.dirty_nodes.proofs.Pinning.{IsCounting}
use Rattle.dirty_nodes.proofs.dirty.count_marked.Given as goal

abbrev pub invariant-loop-birth : goal.invariant-loop-birth
invariant-loop-birth l = IsCounting l.seq l.births l.marks.numbers l.fresh.numbers l.birth-index
