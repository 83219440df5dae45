use Rattle.dirty_nodes.proofs.Records.{ids_stay}
use Rattle.dirty_nodes.proofs.laws.other_updates_leave_ids.Goals as goal

pub returns : goal.returns
returns c = ids_stay
