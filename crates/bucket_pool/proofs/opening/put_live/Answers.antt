use Rattle.std.proofs.Common.{arith}
use Rattle.bucket_pool.specs.Opening.{as_live}
use Rattle.bucket_pool.specs.Places.{changed}
use Rattle.bucket_pool.proofs.Changed.{changed_past, changed_there}
use Rattle.bucket_pool.proofs.opening.put_live.Goals as goal

pub returns-then-dev-devices : goal.returns-then-dev-devices
returns-then-dev-devices c = changed_past (changed (as_live c.args.live) c.args.at) c.args.dev c.args.devices.now c.if-dev-devices.true

pub returns : goal.returns
returns c = changed_there (changed (as_live c.args.live) c.args.at) c.args.dev c.args.devices.now c.index-devices-dev.result c.put_live.new.self (omega arith) c.put_live.ensures
