use Rattle.lock_table.proofs.Known.{one_name_awaited}
use Rattle.lock_table.proofs.laws.one_name_is_awaited.Goals as goal

pub returns : goal.returns
returns c = one_name_awaited
