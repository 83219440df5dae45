use Rattle.record_codec.proofs.SetLaws.{sets_meet}
use Rattle.record_codec.proofs.laws.one_set_encoding.Goals as goal

pub returns : goal.returns
returns c = sets_meet
