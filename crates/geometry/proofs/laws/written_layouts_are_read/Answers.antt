use Rattle.geometry.specs.SuperLaws.{layout_of_copies, no_super}
use Rattle.geometry.proofs.laws.written_layouts_are_read.Goals as goal

pub returns : goal.returns
returns c = record { copies = layout_of_copies; no_super = no_super }
