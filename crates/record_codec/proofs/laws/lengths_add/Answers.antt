use Rattle.record_codec.specs.LengthLaws.{entry_length_of-append, set_length_of-append}
use Rattle.record_codec.proofs.laws.lengths_add.Goals as goal

pub returns : goal.returns
returns c = record { entries = entry_length_of-append; sets = set_length_of-append }
