-- The exchanges so far, and those of the leaves that are left, are those of all.
use Rattle.std.proofs.Common.{◌≡◌, ◌++◌, drop}
use Rattle.node_writeback.specs.Placing.{exchanges_of}
use Rattle.node_writeback.proofs.placing.exchanges_of.Given as goal

abbrev pub invariant-loop-node : goal.invariant-loop-node
invariant-loop-node l = l.changes.items ++ exchanges_of (drop l.node-index l.frozen) ≡ exchanges_of l.frozen
