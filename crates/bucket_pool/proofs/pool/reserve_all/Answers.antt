use Rattle.std.proofs.Common.{ℕ, subst}
use Rattle.bucket_pool.specs.Space.{reserved_on}
use Rattle.bucket_pool.proofs.Picking.{Picking, picking_full}
use Rattle.bucket_pool.proofs.pool.reserve_all.Goals as goal

pub returns-then-left-eq0-clause-given : goal.returns-then-left-eq0-clause-given
returns-then-left-eq0-clause-given c =
    let pick = reserved_on c.args.want.blocks c.args.want.actor c.args.held.now in
    let initial = c.args.devices.now in
    (picking_full pick c.args.replicas initial c.loop-dev.dev c.loop-dev.pointers.members c.loop-dev.devices
    (subst (λ (left : ℕ). Picking pick c.args.replicas initial c.loop-dev.dev left c.loop-dev.pointers.members c.loop-dev.devices) c.if-left-eq0.true c.loop-dev.invariant.so_far)).0

pub returns-then-left-eq0-clause-after : goal.returns-then-left-eq0-clause-after
returns-then-left-eq0-clause-after c =
    let pick = reserved_on c.args.want.blocks c.args.want.actor c.args.held.now in
    let initial = c.args.devices.now in
    (picking_full pick c.args.replicas initial c.loop-dev.dev c.loop-dev.pointers.members c.loop-dev.devices
    (subst (λ (left : ℕ). Picking pick c.args.replicas initial c.loop-dev.dev left c.loop-dev.pointers.members c.loop-dev.devices) c.if-left-eq0.true c.loop-dev.invariant.so_far)).1
