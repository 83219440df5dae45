use Rattle.vol_types.specs.LayoutLaws.{layout_found, layout_again}
use Rattle.vol_types.proofs.laws.layouts_are_tested.Goals as goal

pub returns : goal.returns
returns c = λ layout. (layout_found layout, layout_again layout)
