-- The places of a base: those of an image on which it hangs what was found in it.
use Rattle.std.specs.Prelude.{◌≡◌, ◌⊎◌, ℕ, ◌+◌, ◌%◌, ◌<◌, ◌≤◌, Contains}
use Rattle.image_view.specs.Found.{Found}
use Rattle.image_view.specs.Trees.{nodes_of}
use Rattle.journal_ring.specs.declared.found.FoundEntry.{FoundEntry}
use Rattle.vol_types.specs.Limits.{bucket_blocks}
use Rattle.vol_types.specs.declared.layout.Layout.{Layout}
use Rattle.vol_types.specs.declared.pointers.NodePtr.{NodePtr}
use Rattle.vol_types.specs.declared.pointers.Place.{Place}

-- A superblock stands there.
abbrev pub IsOfSuper : ℕ → Type 0
IsOfSuper block = (block ≡ 0) ⊎ (block ≡ 8)

-- A session is sealed there, on a metadata device.
abbrev pub IsOfSession : Layout → ℕ → ℕ → Type 0
IsOfSession layout dev block = (dev < layout.metadata_replicas) × ((block ≡ 4) ⊎ (block ≡ 5))

-- A part of the entry stands there, on a metadata device.
abbrev pub IsOfEntry : Layout → FoundEntry → ℕ → ℕ → Type 0
IsOfEntry layout found dev block = (number : ℕ) × (dev < layout.metadata_replicas) × (found.number ≤ number) × (number < found.end) × (block ≡ 16 + number % layout.journal)

-- It is a block of the node's bucket on one of its places.
abbrev pub IsOfNode : NodePtr → ℕ → ℕ → Type 0
IsOfNode node dev block = (place : Place) × (n : ℕ) × Contains node.places place × (n < bucket_blocks) × (dev ≡ place.dev) × (block ≡ place.block + n)

-- It is a place of the base of what was found: of a superblock, a session, a needed entry or a node that was read.
pub data IsOfBase (f : Found) (dev block : ℕ) : Type 0 where
  super : IsOfSuper block → IsOfBase f dev block
  session : IsOfSession f.layout dev block → IsOfBase f dev block
  entry : (found : FoundEntry) → Contains f.needed found → IsOfEntry f.layout found dev block → IsOfBase f dev block
  node : (pointer : NodePtr) → Contains (nodes_of f.trees.nodes) pointer → IsOfNode pointer dev block → IsOfBase f dev block

-- It is a place of none of these.
abbrev pub IsElsewhere : Found → ℕ → ℕ → Type 0
IsElsewhere f dev block = ¬ IsOfBase f dev block
