use Rattle.key_view.proofs.Seeing.{updates_see}
use Rattle.key_view.proofs.changes.changes_are_seen.Goals as goal

pub returns : goal.returns
returns c keys btree inode offset id value is tree files shows there = updates_see keys btree inode offset id is files tree there value shows
