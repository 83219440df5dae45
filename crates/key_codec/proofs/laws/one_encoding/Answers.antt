use Rattle.key_codec.specs.KeyLaws.{keys_meet}
use Rattle.key_codec.proofs.laws.one_encoding.Goals as goal

pub returns : goal.returns
returns c = keys_meet
