use Rattle.key_meaning.specs.UpdateLaws.{inode_in-put, inode_in-removed, inode_update}
use Rattle.key_meaning.proofs.changes.inodes_are_updated.Goals as goal

pub returns : goal.returns
returns c = record { only = inode_update; put = inode_in-put; removed = inode_in-removed }
