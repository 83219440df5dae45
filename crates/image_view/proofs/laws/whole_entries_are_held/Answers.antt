use Rattle.image_view.specs.CrashEntries.{whole-held}
use Rattle.image_view.proofs.laws.whole_entries_are_held.Goals as goal

pub returns : goal.returns
returns c = whole-held
