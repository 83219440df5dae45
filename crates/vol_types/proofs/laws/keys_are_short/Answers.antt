use Rattle.vol_types.specs.LengthLaws.{short_key}
use Rattle.vol_types.proofs.laws.keys_are_short.Goals as goal

pub returns : goal.returns
returns c = short_key
