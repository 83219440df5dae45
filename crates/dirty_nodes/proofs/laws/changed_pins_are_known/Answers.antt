use Rattle.dirty_nodes.specs.PinLaws.{look-pins}
use Rattle.dirty_nodes.proofs.Moving.{pinned-root}
use Rattle.dirty_nodes.proofs.laws.changed_pins_are_known.Goals as goal

pub returns : goal.returns
returns c = record { each = look-pins; root = λ nodes btree root updates seq numbers differ trees alone fits. pinned-root nodes btree root trees differ alone updates seq numbers fits }
