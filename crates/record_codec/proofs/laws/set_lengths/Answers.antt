use Rattle.record_codec.proofs.SetLaws.{length-set}
use Rattle.record_codec.proofs.laws.set_lengths.Goals as goal

pub returns : goal.returns
returns c = length-set
