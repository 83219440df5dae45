use Rattle.std.proofs.Common.{Some}
use Rattle.core_volume.proofs.Written.{halted-kept}
use Rattle.core_volume.proofs.volume.Volume.halt.Goals as goal

pub invariant_of-self : goal.invariant_of-self
invariant_of-self c = halted-kept _ c.self.invariant (Some c.args.halt)
