use Rattle.key_meaning.specs.ChangeLaws.{updates_change_only}
use Rattle.key_meaning.specs.TreeLaws.{subvolumes-changed}
use Rattle.key_meaning.proofs.changes.changes_stay_in_their_id.Goals as goal

pub returns : goal.returns
returns c = record { only = updates_change_only; tree = subvolumes-changed }
