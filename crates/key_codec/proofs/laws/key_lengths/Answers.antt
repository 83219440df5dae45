use Rattle.key_codec.specs.LengthLaws.{length-encoding}
use Rattle.key_codec.proofs.laws.key_lengths.Goals as goal

pub returns : goal.returns
returns c = length-encoding
