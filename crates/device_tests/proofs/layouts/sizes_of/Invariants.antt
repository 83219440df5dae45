use Rattle.std.proofs.Common.{◌≡◌, take}
use Rattle.device_tests.proofs.layouts.sizes_of.Given as goal

abbrev pub invariant-loop-dev : goal.invariant-loop-dev
invariant-loop-dev g l = l.sizes.items ≡ take l.dev (g.D.Devices.state l.devices).sizes
