use Rattle.std.proofs.Common.{◌∙◌, ℕ, arith}
use Rattle.bucket_pool.specs.Buckets.{kept_at}
use Rattle.bucket_pool.specs.Places.{each_place}
use Rattle.bucket_pool.proofs.EachPlace.{partly_all, partly_more}
use Rattle.bucket_pool.proofs.pool.keep_all.Goals as goal

pub loop-dev-preserved : goal.loop-dev-preserved
loop-dev-preserved c =
    let step = λ (dev : ℕ). each_place (kept_at c.args.actor c.args.runs.now dev) in
    partly_more step c.loop-dev.dev c.args.devices.now c.loop-dev.devices c.keep.new.self c.index-devices-dev.result c.loop-dev-test.true c.loop-dev.invariant c.keep.ensures

pub returns : goal.returns
returns c =
    let step = λ (dev : ℕ). each_place (kept_at c.args.actor c.args.runs.now dev) in
    c.loop-dev.invariant ∙ partly_all step c.loop-dev.dev c.args.devices.now (omega arith)
