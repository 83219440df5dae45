use Rattle.std.proofs.Common.{arith}
use Rattle.bucket_pool.specs.Buckets.{waited}
use Rattle.bucket_pool.specs.Places.{changed}
use Rattle.bucket_pool.proofs.Changed.{changed_past, changed_there}
use Rattle.bucket_pool.proofs.pool.wait_at.Goals as goal

pub returns-then-dev-devices : goal.returns-then-dev-devices
returns-then-dev-devices c = changed_past (changed (waited c.args.seq) c.args.at) c.args.dev c.args.devices.now c.if-dev-devices.true

pub returns : goal.returns
returns c = changed_there (changed (waited c.args.seq) c.args.at) c.args.dev c.args.devices.now c.index-devices-dev.result c.wait.new.self (omega arith) c.wait.ensures
