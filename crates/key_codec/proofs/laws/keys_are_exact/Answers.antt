use Rattle.key_codec.specs.KeyLaws.{key-exact}
use Rattle.key_codec.proofs.laws.keys_are_exact.Goals as goal

pub returns : goal.returns
returns c = key-exact
