use Rattle.id_steps.proofs.SlotLists.{other_puts, with_puts, without_puts}
use Rattle.id_steps.proofs.entries.slots_take_subvolumes.Goals as goal

pub returns : goal.returns
returns c = record { added = with_puts; changed = other_puts; removed = without_puts }
