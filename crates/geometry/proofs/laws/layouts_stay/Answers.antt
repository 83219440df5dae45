use Rattle.geometry.specs.SuperLaws.{same_layout, same_counting, layout_fits}
use Rattle.geometry.proofs.laws.layouts_stay.Goals as goal

pub returns : goal.returns
returns c = record { same_layout = same_layout; same_counting = same_counting; fits = layout_fits }
