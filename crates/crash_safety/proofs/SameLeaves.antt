-- What is kept of leaves is kept of the same leaves.
use Rattle.std.proofs.Common.{◌≡◌, Option, sym, subst}
use Rattle.dev_model.specs.Devices.{DevicesState}
use Rattle.image_view.specs.Found.{Found}
use Rattle.crash_safety.specs.Writings.{Writing}
use Rattle.crash_safety.specs.KeptLeaves.{KeepsLeaves}
use Rattle.crash_safety.specs.CheckpointLeaves.{Leaves}
use Rattle.crash_safety.specs.LeafSteps.{AreSameLeaves}

-- The same leaves are equal.
one_leaves : (one other : Leaves) → AreSameLeaves one other → other ≡ one
one_leaves one other same = λ i. record { root = λ btree. same.root btree i; pin = λ btree. same.pin btree i; fresh = same.fresh i; space = same.space i }

pub same_kept : (f : Found) (writing : Option Writing) (state : DevicesState) (one other : Leaves) → KeepsLeaves f writing state one → AreSameLeaves one other → KeepsLeaves f writing state other
same_kept f writing state one other keeps same = subst (KeepsLeaves f writing state) (sym (one_leaves one other same)) keeps
