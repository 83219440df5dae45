use Rattle.key_meaning.specs.ReadLaws.{forest_in-agree}
use Rattle.key_meaning.proofs.laws.forests_hang_on_their_blocks.Goals as goal

pub returns : goal.returns
returns c = forest_in-agree
