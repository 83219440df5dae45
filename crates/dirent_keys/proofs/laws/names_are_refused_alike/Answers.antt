use Rattle.dirent_keys.proofs.Counting.{counted, refused_alike}
use Rattle.dirent_keys.proofs.laws.names_are_refused_alike.Goals as goal

pub returns : goal.returns
returns c = record { counted = counted; refused = refused_alike }
