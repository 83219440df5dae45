-- The nine btrees, each with its own.
use Rattle.std.proofs.Common.{◌≡◌, ℕ, zero, suc, List, [], ◌∷◌, map, get_or, Some, refl, ap}
use Rattle.std.proofs.lemmas.List.Elements.{All-append, All-head, All-map, All-nil, All-tail}
use Rattle.std.proofs.lemmas.Option.{none-some, same_Some}
use Rattle.std.specs.List.{flat_map}
use Rattle.std.specs.Prelude.{All, slice_get}
use Rattle.btree_map.specs.Sizes.{all_btrees}
use Rattle.image_view.specs.Trees.{nodes_of}
use Rattle.crash_safety.specs.Leaves.{leaf_nodes}
use Rattle.vol_types.specs.Btrees.{btree_code}
use Rattle.vol_types.specs.declared.pointers.NodePtr.{NodePtr}
use Rattle.vol_types.specs.declared.pointers.Place.{Place}
use Rattle.vol_types.specs.declared.positions.Btree.{Btree}
use Rattle.vol_types.specs.declared.positions.Btree.TheVariants.{Extents, Inodes, Dirents, Subvols, Snapshots, Alloc, Backptrs, Deleted, Counters}

module _ {X : Type 0} (of : Btree → X) where
  -- What is of a btree stands at its number.
  pub at_code : (btree : Btree) → slice_get (map of all_btrees) (btree_code btree) ≡ Some (of btree)
  at_code Extents = refl
  at_code Inodes = refl
  at_code Dirents = refl
  at_code Subvols = refl
  at_code Snapshots = refl
  at_code Alloc = refl
  at_code Backptrs = refl
  at_code Deleted = refl
  at_code Counters = refl

  -- What stands at a number is of the btree with this number.
  pub btree_at : (k : ℕ) (x : X) → slice_get (map of all_btrees) k ≡ Some x → (btree : Btree) × (btree_code btree ≡ k) × (of btree ≡ x)
  btree_at zero x at = (Extents, refl, same_Some (of Extents) x at)
  btree_at (suc zero) x at = (Inodes, refl, same_Some (of Inodes) x at)
  btree_at (suc (suc zero)) x at = (Dirents, refl, same_Some (of Dirents) x at)
  btree_at (suc (suc (suc zero))) x at = (Subvols, refl, same_Some (of Subvols) x at)
  btree_at (suc (suc (suc (suc zero)))) x at = (Snapshots, refl, same_Some (of Snapshots) x at)
  btree_at (suc (suc (suc (suc (suc zero))))) x at = (Alloc, refl, same_Some (of Alloc) x at)
  btree_at (suc (suc (suc (suc (suc (suc zero)))))) x at = (Backptrs, refl, same_Some (of Backptrs) x at)
  btree_at (suc (suc (suc (suc (suc (suc (suc zero))))))) x at = (Deleted, refl, same_Some (of Deleted) x at)
  btree_at (suc (suc (suc (suc (suc (suc (suc (suc zero)))))))) x at = (Counters, refl, same_Some (of Counters) x at)
  btree_at (suc (suc (suc (suc (suc (suc (suc (suc (suc k))))))))) x at = absurd (none-some x at)

  -- What holds of each btree's holds of all nine.
  pub each_btree : (P : X → Type 0) → ((btree : Btree) → P (of btree)) → All P (map of all_btrees)
  each_btree P each = All-map P of all_btrees (λ k d within. each (get_or all_btrees k d))

-- What holds of the places of each node holds of those of all.
pub each_place : (P : Place → Type 0) (nodes : List NodePtr) → All (λ (node : NodePtr). All P node.places) nodes → All P (flat_map (λ (node : NodePtr). node.places) nodes)
each_place P [] all = All-nil P
each_place P (node ∷ nodes) all = All-append P node.places (flat_map (λ (n : NodePtr). n.places) nodes) (All-head (λ (n : NodePtr). All P n.places) node nodes all) (each_place P nodes (All-tail (λ (n : NodePtr). All P n.places) node nodes all))

-- The nodes of btrees of one leaf are their roots.
pub nodes_are_roots : (roots : List NodePtr) → nodes_of (leaf_nodes roots) ≡ roots
nodes_are_roots [] = refl
nodes_are_roots (root ∷ roots) = ap (λ (rest : List NodePtr). root ∷ rest) (nodes_are_roots roots)
