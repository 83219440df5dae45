use Rattle.std.proofs.Common.{◌≡◌, drop, []}
use Rattle.node_store.specs.NodeContents.{entries_after}
use Rattle.node_store.proofs.contents.merged.Given as goal

abbrev pub invariant-loop-set : goal.invariant-loop-set
invariant-loop-set l = record {
  so_far : entries_after l.wanted (drop l.set-index l.sets) l.node.entries ≡ entries_after l.wanted l.sets [];
  least : l.node.least ≡ l.wanted.least;
  greatest : l.node.greatest ≡ l.wanted.greatest;
}
