use Rattle.core_volume.proofs.Written.{written-kept}
use Rattle.core_volume.proofs.volume.Volume.write_part.Goals as goal

pub invariant_of-self : goal.invariant_of-self
invariant_of-self g c = written-kept _ c.self.invariant c.write_part.result c.write_part.new.self c.write_part.ensures.ok c.write_part.ensures.err

pub returns-clause-sound : goal.returns-clause-sound
returns-clause-sound g c = invariant_of-self g c
