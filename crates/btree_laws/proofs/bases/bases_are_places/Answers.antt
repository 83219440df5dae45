use Rattle.btree_laws.proofs.BasePlaces.{agree_at, agree_but, agree_on}
use Rattle.btree_laws.proofs.bases.bases_are_places.Goals as goal

pub returns : goal.returns
returns c = record { agree = agree_on; each = agree_at; elsewhere = agree_but }
