use Rattle.std.proofs.Common.{◌∙◌, map, arith}
use Rattle.bucket_pool.specs.Buckets.{settled}
use Rattle.bucket_pool.proofs.EachPlace.{partly_map, partly_more}
use Rattle.bucket_pool.proofs.pool.settle_all.Goals as goal

pub loop-dev-preserved : goal.loop-dev-preserved
loop-dev-preserved c =
    partly_more (λ _. map (settled c.args.seq)) c.loop-dev.dev c.args.devices.now c.loop-dev.devices c.settle.new.self c.index-devices-dev.result c.loop-dev-test.true c.loop-dev.invariant c.settle.ensures

pub returns : goal.returns
returns c = c.loop-dev.invariant ∙ partly_map (map (settled c.args.seq)) c.loop-dev.dev c.args.devices.now (omega arith)
