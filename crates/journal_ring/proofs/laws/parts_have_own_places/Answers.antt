use Rattle.journal_ring.proofs.Places.{parts_apart}
use Rattle.journal_ring.proofs.laws.parts_have_own_places.Goals as goal

pub returns : goal.returns
returns c = parts_apart
