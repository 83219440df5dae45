use Rattle.forest_view.proofs.Unread.{unread_byte}
use Rattle.forest_view.proofs.laws.unread_blocks_are_zeros.Goals as goal

pub returns : goal.returns
returns c = unread_byte
