use Rattle.btree_safety.proofs.LeafVolumes.{roots_may_be_put}
use Rattle.btree_safety.proofs.leaves.written_leaves_may_be_put_in_place.Goals as goal

pub returns : goal.returns
returns c = roots_may_be_put
