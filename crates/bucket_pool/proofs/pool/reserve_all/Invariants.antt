use Rattle.std.proofs.Common.{◌≤◌}
use Rattle.bucket_pool.specs.Space.{reserved_on}
use Rattle.bucket_pool.proofs.Picking.{Picking}
use Rattle.bucket_pool.proofs.pool.reserve_all.Given as goal

abbrev pub invariant-loop-dev : goal.invariant-loop-dev
invariant-loop-dev l = record {
  so_far : Picking (reserved_on l.want.blocks l.want.actor l.held) l.replicas l.fn.devices l.dev l.left l.pointers.members l.devices;
  room : l.left ≤ l.pointers.spare;
}
