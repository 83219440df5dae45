use Rattle.id_steps.proofs.Counting.{slot_is_as_long}
use Rattle.id_steps.proofs.leaves.slots_are_counted.Goals as goal

pub returns : goal.returns
returns c = λ keys nodes layout read slot is sound tidy. slot_is_as_long keys read is sound.leaves tidy.drawn tidy.named slot
