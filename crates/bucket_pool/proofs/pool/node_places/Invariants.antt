use Rattle.std.proofs.Common.{◌≡◌, take}
use Rattle.bucket_pool.specs.Places.{each_place}
use Rattle.bucket_pool.specs.Space.{node_place}
use Rattle.bucket_pool.proofs.pool.node_places.Given as goal

abbrev pub invariant-loop-dev : goal.invariant-loop-dev
invariant-loop-dev l = l.places ≡ each_place node_place (take l.dev l.devices)
