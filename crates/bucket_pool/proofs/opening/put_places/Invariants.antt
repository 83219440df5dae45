use Rattle.std.proofs.Common.{◌≡◌, take}
use Rattle.std.specs.List.{fold}
use Rattle.bucket_pool.specs.Opening.{with_place}
use Rattle.bucket_pool.proofs.opening.put_places.Given as goal

abbrev pub invariant-loop-place : goal.invariant-loop-place
invariant-loop-place l = l.devices ≡ fold with_place l.fn.devices (take l.place-index l.nodes)
