use Rattle.std.proofs.Common.{◌≡◌, ◌++◌, map, take}
use Rattle.bucket_pool.specs.Opening.{blank_device}
use Rattle.bucket_pool.proofs.opening.add_devices.Given as goal

abbrev pub invariant-loop-size : goal.invariant-loop-size
invariant-loop-size l = l.devices.items ≡ l.fn.devices.items ++ map (blank_device l.first) (take l.size-index l.blocks)
