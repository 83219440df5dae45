use Rattle.std.proofs.Common.{◌≡◌, drop}
use Rattle.geometry.specs.Superblocks.{belong_from}
use Rattle.geometry.proofs.judging.belong.Given as goal

abbrev pub invariant-loop-dev : goal.invariant-loop-dev
invariant-loop-dev l = belong_from l.devices l.layout l.dev (drop l.dev l.copies) ≡ belong_from l.devices l.layout 0 l.copies
