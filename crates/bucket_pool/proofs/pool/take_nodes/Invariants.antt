use Rattle.std.proofs.Common.{◌≡◌}
use Rattle.bucket_pool.specs.Places.{partly}
use Rattle.bucket_pool.specs.Space.{with_node}
use Rattle.bucket_pool.proofs.pool.take_nodes.Given as goal

abbrev pub invariant-loop-dev : goal.invariant-loop-dev
invariant-loop-dev l = l.devices ≡ partly (λ _. with_node) l.dev l.fn.devices
