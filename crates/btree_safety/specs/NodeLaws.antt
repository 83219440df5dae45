-- Laws on nodes while devices are called, for whoever calls them: a node's buckets stay where calls ask for none of their blocks.
use Rattle.std.proofs.Common.{ℕ, ◌+◌, ◌<◌, List, length, get_or, refl, arith}
use Rattle.std.proofs.lemmas.List.Elements.{Contains-get_or}
use Rattle.dev_model.specs.Devices.{DevicesState}
use Rattle.vol_types.specs.Limits.{bucket_blocks}
use Rattle.vol_types.specs.declared.pointers.NodePtr.{NodePtr}
use Rattle.vol_types.specs.declared.pointers.Place.{Place}
use Rattle.crash_safety.specs.Leaves.{IsOfNode, KeepsOff}
use Rattle.crash_safety.specs.Parts.{AsksAt}
use Rattle.btree_safety.specs.StayingNodes.{StaysAsRead}

-- the blocks of the bucket on a node's places
of_node : (node : NodePtr) (k : ℕ) (d : Place) → k < length node.places → (n : ℕ) → n < bucket_blocks → IsOfNode node (get_or node.places k d).dev ((get_or node.places k d).block + n)
of_node node k d lower n few = (get_or node.places k d, n, Contains-get_or node.places k d lower, few, refl, refl)

-- A node's buckets stay where calls ask for none of their blocks.
pub stays_elsewhere : (touched : ℕ → ℕ → Type 0) (asked : ℕ → ℕ → List ℕ → Type 0) (old new : DevicesState) (node : NodePtr) → AsksAt touched asked old new → KeepsOff touched node → StaysAsRead old new node
stays_elsewhere touched asked old new node call off = record {
  read = λ k d lower n few. call.elsewhere _ _ (off _ _ (of_node node k d lower n few));
  left = λ image may.
      let before = call.crashes.each new.moment call.crashes.later (omega arith) image may in
      (before.0, before.1, λ k d lower n few. before.2 _ _ (off _ _ (of_node node k d lower n few)));
}
