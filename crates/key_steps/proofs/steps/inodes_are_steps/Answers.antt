use Rattle.std.proofs.Common.{ap, refl}
use Rattle.std.specs.Prelude.{is_some, option_map}
use Rattle.key_meaning.specs.SoundLaws.{joined_are_trees}
use Rattle.key_steps.proofs.Inodes.{inode_is_step, inode_shows}
use Rattle.key_steps.proofs.Staying.{two_btrees}
use Rattle.key_steps.specs.Steps.{inode_value}
use Rattle.vol_types.specs.declared.positions.Btree.TheVariants.{Inodes, Snapshots}
use Rattle.key_steps.proofs.steps.inodes_are_steps.Goals as goal

pub returns : goal.returns
returns c keys nodes layout id number inode kept leaf fits drawn may =
    inode_is_step keys nodes layout id number inode kept leaf fits drawn may
    (c.changes_are_seen.ensures keys Inodes 0 number id (option_map inode_value inode) kept.is_map (joined_are_trees keys kept.trees) (two_btrees Inodes Snapshots refl) (inode_shows inode) (ap is_some leaf.found))
