use Rattle.std.proofs.Common.{ℕ, slice_index, ap, ◌∙◌, arith}
use Rattle.bucket_pool.specs.Space.{can_give, givers}
use Rattle.bucket_pool.proofs.Counts.{count_more, count_none, one_at_most}
use Rattle.bucket_pool.proofs.pool.count_givers.Goals as goal

pub loop-dev-init : goal.loop-dev-init
loop-dev-init c = record { few = omega arith; so_far = omega arith }

pub loop-dev-preserved : goal.loop-dev-preserved
loop-dev-preserved c =
    let f = λ (dev : ℕ). can_give c.args.want.blocks c.args.want.actor (slice_index c.args.held.now dev) in
    record {
      few = one_at_most c.loop-dev.count c.one_if-count.result c.loop-dev.dev c.can_give.result c.loop-dev.invariant.few c.one_if-count.ensures;
      so_far = count_more f c.loop-dev.count c.one_if-count.result c.loop-dev.dev c.args.devices.now c.index-devices-dev.result c.can_give.result (givers c.args.want.blocks c.args.want.actor c.args.held.now c.args.devices.now)
          c.loop-dev-test.true c.loop-dev.invariant.so_far (c.can_give.ensures.value ∙ ap (f c.loop-dev.dev) c.index-devices-dev.is) c.one_if-count.ensures;
    }

pub returns : goal.returns
returns c =
    let f = λ (dev : ℕ). can_give c.args.want.blocks c.args.want.actor (slice_index c.args.held.now dev) in
    let none = count_none f c.loop-dev.dev c.args.devices.now (omega arith) in
    let so_far = c.loop-dev.invariant.so_far in
    omega (arith, none, so_far)
