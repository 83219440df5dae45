use Rattle.key_meaning.specs.TreeLaws.{directories_in-blocks, files_in-blocks}
use Rattle.key_meaning.specs.UpdateLaws.{extent_update}
use Rattle.key_meaning.proofs.changes.blocks_are_updated.Goals as goal

pub returns : goal.returns
returns c = record { only = extent_update; files = files_in-blocks; directories = directories_in-blocks }
