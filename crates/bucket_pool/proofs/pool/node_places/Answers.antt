use Rattle.std.proofs.Common.{◌<◌, length, arith}
use Rattle.bucket_pool.proofs.Nodes.{places_more}
use Rattle.bucket_pool.proofs.pool.node_places.Goals as goal

pub loop-dev-preserved : goal.loop-dev-preserved
loop-dev-preserved c =
    let dev = c.loop-dev.dev in
    let space = c.args.devices.now in
    let there : dev < length space = omega arith in
    places_more dev space c.loop-dev.places c.push.new.self c.index-devices-dev.result c.node_place.result there c.index-devices-dev.is c.loop-dev.invariant c.node_place.ensures c.in_ok-push.ensures.ok
