use Rattle.std.proofs.Common.{ap, refl}
use Rattle.std.specs.Prelude.{is_some}
use Rattle.key_meaning.specs.SoundLaws.{joined_are_trees}
use Rattle.key_steps.proofs.Names.{names_are_step}
use Rattle.key_meaning.specs.Forest.{links_of}
use Rattle.key_steps.proofs.Showing.{shown_is_drawn, standing_drawn, standing_good}
use Rattle.vol_types.specs.declared.values.FileKind.TheVariants.{Directory}
use Rattle.key_steps.proofs.Staying.{two_btrees}
use Rattle.vol_types.specs.declared.positions.Btree.TheVariants.{Dirents, Snapshots}
use Rattle.key_steps.proofs.steps.names_are_steps.Goals as goal

pub returns : goal.returns
returns c keys nodes layout id directory slot value kept leaf may shows is standing =
    names_are_step keys nodes layout id directory slot kept leaf (shown_is_drawn keys id directory Directory kept.drawn is) value may
    (standing_drawn keys id directory slot (links_of value) kept.drawn standing) (standing_good keys id directory slot (links_of value) kept.named standing)
    (c.changes_are_seen.ensures keys Dirents directory slot id value kept.is_map (joined_are_trees keys kept.trees) (two_btrees Dirents Snapshots refl) shows (ap is_some leaf.found))
