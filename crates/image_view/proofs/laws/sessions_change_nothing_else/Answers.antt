use Rattle.image_view.proofs.OtherSession.{found-named, in_order-named, mounts-named, unsound-named}
use Rattle.image_view.proofs.laws.sessions_change_nothing_else.Goals as goal

pub returns : goal.returns
returns c = record { found = found-named; mounts = mounts-named; unsound = unsound-named; orderly = in_order-named }
