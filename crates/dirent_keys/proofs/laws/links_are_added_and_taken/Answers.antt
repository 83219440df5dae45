use Rattle.dirent_keys.proofs.Changed.{adds_name, takes_name}
use Rattle.dirent_keys.proofs.laws.links_are_added_and_taken.Goals as goal

pub returns : goal.returns
returns c = record { added = adds_name; taken = takes_name }
