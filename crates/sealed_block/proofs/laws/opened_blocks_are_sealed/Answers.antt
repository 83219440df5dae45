use Rattle.sealed_block.proofs.Opened.{opens_from_opened}
use Rattle.sealed_block.proofs.laws.opened_blocks_are_sealed.Goals as goal

pub returns : goal.returns
returns c = opens_from_opened
