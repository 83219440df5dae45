use Rattle.lock_table.specs.Nodes.{EachInUse}
use Rattle.lock_table.proofs.Released.{ReleasesTo}
use Rattle.lock_table.proofs.holding.release_all.Given as goal

-- the births so far are let go
abbrev pub invariant-loop-birth : goal.invariant-loop-birth
invariant-loop-birth l = record {
  so_far : ReleasesTo l.fn.sequence l.fn.nodes.entries l.actor l.births l.birth-index l.sequence l.nodes.entries;
  in_use : EachInUse l.count l.nodes.entries;
}
