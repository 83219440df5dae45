use Rattle.record_codec.proofs.SetLaws.{set-exact}
use Rattle.record_codec.proofs.laws.sets_are_exact.Goals as goal

pub returns : goal.returns
returns c = set-exact
