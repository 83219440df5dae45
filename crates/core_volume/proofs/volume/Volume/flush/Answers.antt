use Rattle.core_volume.proofs.Written.{flushed-kept}
use Rattle.core_volume.proofs.volume.Volume.flush.Goals as goal

pub invariant_of-self : goal.invariant_of-self
invariant_of-self g c = flushed-kept _ c.self.invariant c.args.dev c.flush.result c.flush.new.self c.flush.ensures.ok c.flush.ensures.err

pub returns-clause-sound : goal.returns-clause-sound
returns-clause-sound g c = invariant_of-self g c
