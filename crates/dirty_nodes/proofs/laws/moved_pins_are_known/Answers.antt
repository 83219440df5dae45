use Rattle.dirty_nodes.specs.PinLaws.{moved-fresh, moved-from, moved-old, moved-other, rises-moved}
use Rattle.dirty_nodes.proofs.laws.moved_pins_are_known.Goals as goal

pub returns : goal.returns
returns c = record { fresh = moved-fresh; old = moved-old; others = moved-other; rise = rises-moved; least = moved-from }
