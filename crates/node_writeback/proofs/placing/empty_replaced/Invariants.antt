-- What the leaves that are left empty of the pool now is what all of them do of it at first.
use Rattle.std.proofs.Common.{◌≡◌, drop}
use Rattle.bucket_pool.specs.Space.{emptied_all}
use Rattle.node_writeback.specs.Placing.{places_of}
use Rattle.node_writeback.proofs.placing.empty_replaced.Given as goal

abbrev pub invariant-loop-change : goal.invariant-loop-change
invariant-loop-change l = emptied_all (places_of (drop l.change-index l.replaced)) l.sequence l.pool ≡ emptied_all (places_of l.replaced) l.sequence l.fn.pool
