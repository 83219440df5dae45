use Rattle.dev_model.specs.Frames.{AreOnlyRead}
use Rattle.bvol.proofs.overwriting.say_what_is_lost.Given as goal

-- the devices were only read so far
abbrev pub invariant-loop-dev : goal.invariant-loop-dev
invariant-loop-dev g l = AreOnlyRead g.D.Devices.tells (g.D.Devices.state l.fn.devices) (g.D.Devices.state l.devices)
