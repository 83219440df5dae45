use Rattle.forest_ops.specs.FitLaws.{one_phase_fit}
use Rattle.forest_ops.proofs.fit_laws.one_phase_fits.Goals as goal

pub returns : goal.returns
returns c = one_phase_fit
