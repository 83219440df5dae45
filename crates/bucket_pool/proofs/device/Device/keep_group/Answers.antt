use Rattle.std.proofs.Common.{◌<◌, ◌+◌, ◌*◌, ℕ, length, ap, subst, ◌∙◌, arith}
use Rattle.bucket_pool.specs.Buckets.{kept_at}
use Rattle.bucket_pool.proofs.EachPlace.{length-partly_from, partly_put, partly_to_end, same_length}
use Rattle.bucket_pool.proofs.Idling.{pass_idle, kept_stays}
use Rattle.bucket_pool.proofs.device.Device.keep_group.Goals as goal

pub loop-at-preserved : goal.loop-at-preserved
loop-at-preserved c =
    let f = (kept_at c.args.actor c.args.runs.now c.args.dev) in
    let now = c.loop-at.self in
    let after = c.put.new.self in
    record {
      so_far = λ whole is.
          let so_far = c.loop-at.invariant.so_far whole is in
          let there : c.loop-at.at < length whole = subst (λ (n : ℕ). c.loop-at.at < n) (ap length so_far ∙ length-partly_from f 0 c.loop-at.at whole) (omega arith) in
          partly_put f c.loop-at.at whole now after c.at-bucket.result c.kept.result there so_far c.at-bucket.ensures c.kept.ensures c.put.ensures;
      size = same_length c.loop-at.at (length c.args.self.now) now after c.kept.result c.loop-at.invariant.size c.put.ensures;
    }

pub returns-clause-after : goal.returns-clause-after
returns-clause-after c =
    let f = kept_at c.args.actor c.args.runs.now c.args.dev in
    λ whole is.
    let size = c.len.ensures.count ∙ ap length is ∙ length-partly_from f 0 (256 * c.args.group) whole in
    c.loop-at.invariant.so_far whole is ∙ partly_to_end f c.loop-at.at (256 * c.args.group) (256 * (c.args.group + 1)) c.len.result c.min-end.result whole size c.min-end.ensures c.loop-at-test.false c.loop-at.auto.at (omega arith) c.loop-at.auto.at-end

pub returns-then-not-is_busy-clause-after : goal.returns-then-not-is_busy-clause-after
returns-then-not-is_busy-clause-after c = λ whole is.
    let size = ap length is ∙ length-partly_from (kept_at c.args.actor c.args.runs.now c.args.dev) 0 (256 * c.args.group) whole in
    pass_idle (kept_at c.args.actor c.args.runs.now c.args.dev) c.args.group whole c.args.self.now (kept_stays c.args.actor c.args.runs.now c.args.dev) is size (c.is_busy.ensures c.if-not-is_busy.true)
