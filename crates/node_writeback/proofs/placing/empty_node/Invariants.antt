-- What the places that are left empty of the pool now is what all of them do of it at first.
use Rattle.std.proofs.Common.{◌≡◌, drop}
use Rattle.bucket_pool.specs.Space.{emptied_all}
use Rattle.node_writeback.proofs.placing.empty_node.Given as goal

abbrev pub invariant-loop-place : goal.invariant-loop-place
invariant-loop-place l = emptied_all (drop l.place-index l.place-items) l.sequence l.pool ≡ emptied_all l.place-items l.sequence l.fn.pool
