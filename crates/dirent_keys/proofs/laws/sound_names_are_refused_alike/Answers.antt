use Rattle.dirent_keys.proofs.Sounding.{shown_in_range, sound_refused}
use Rattle.dirent_keys.proofs.laws.sound_names_are_refused_alike.Goals as goal

pub returns : goal.returns
returns c = record { in_range = shown_in_range; refused = sound_refused }
