use Rattle.std.proofs.Common.{None, ap, refl}
use Rattle.std.specs.Prelude.{is_some}
use Rattle.key_meaning.specs.SoundLaws.{joined_are_trees}
use Rattle.key_steps.proofs.Removals.{removal_is_step}
use Rattle.key_steps.proofs.Staying.{two_btrees}
use Rattle.vol_types.specs.declared.positions.Btree.TheVariants.{Inodes, Snapshots}
use Rattle.key_steps.proofs.steps.files_go_in_steps.Goals as goal

pub returns : goal.returns
returns c keys nodes layout id number kept leaf file =
    removal_is_step keys nodes layout id number kept leaf file
    (c.changes_are_seen.ensures keys Inodes 0 number id None kept.is_map (joined_are_trees keys kept.trees) (two_btrees Inodes Snapshots refl) refl (ap is_some leaf.found))
