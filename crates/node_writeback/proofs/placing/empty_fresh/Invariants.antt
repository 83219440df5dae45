-- What the leaves that are left empty of the pool now is what all of them do of it at first.
use Rattle.std.proofs.Common.{◌≡◌, drop}
use Rattle.bucket_pool.specs.Space.{emptied_all}
use Rattle.node_writeback.specs.Placing.{fresh_places}
use Rattle.node_writeback.proofs.placing.empty_fresh.Given as goal

abbrev pub invariant-loop-node : goal.invariant-loop-node
invariant-loop-node l = emptied_all (fresh_places (drop l.node-index l.frozen)) l.sequence l.pool ≡ emptied_all (fresh_places l.frozen) l.sequence l.fn.pool
