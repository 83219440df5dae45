-- The next entry of the journal while it is written. It may lead to new nodes: these were written whole into buckets of their own.
use Rattle.std.specs.Prelude.{◌≡◌, ℕ, List, [], ◌∷◌, ◌++◌, drop, All, Option, IfSome, Some, None, Ok, ⊤}
use Rattle.dev_model.specs.Disk.{Image}
use Rattle.image_view.specs.Found.{Found, IsAlike, node_places, sets_in, updates_of}
use Rattle.image_view.specs.Mends.{IsPlaceOf}
use Rattle.image_view.specs.NewNodes.{AreNodesInOrder}
use Rattle.image_view.specs.NextEntries.{IsNext, with_entry}
use Rattle.image_view.specs.Trees.{TreesRead, nodes_of, trees_of}
use Rattle.journal_ring.specs.EntryBlocks.{AreEntryBlocks, HoldBlocks}
use Rattle.journal_ring.specs.Mending.{IsEntryBlock}
use Rattle.journal_ring.specs.declared.found.FoundEntry.{FoundEntry}
use Rattle.key_meaning.specs.Checks.{AreNodesPlaced}
use Rattle.vol_types.specs.declared.layout.Layout.{Layout}

-- an entry that is written: how many needed entries it passes, what it is, the btrees with it, and its blocks
pub record Writing : Type 0 where
  pub passed : ℕ
  pub next : FoundEntry
  pub trees : TreesRead
  pub blocks : List (List ℕ)

-- what was found, with the entry
abbrev pub after : Writing → Found → Found
after w f = with_entry w.passed w.next w.trees f

-- The entry may be written behind what was found in the image: it is a next one, these are its blocks, and the btrees with it are what
-- the entries that it needs, and it, mean over the image's sets. Its nodes, of which any may be new, are in order in the image, and lie
-- where nodes may.
pub record IsWriting (f : Found) (image : Image) (w : Writing) : Type 0 where
  pub next : IsNext f w.passed w.next
  pub sealed : AreEntryBlocks f.layout.id w.next.number w.next.entry w.blocks
  pub trees : trees_of (sets_in f.layout image) (updates_of (drop w.passed f.needed ++ w.next ∷ [])) w.next.entry.roots ≡ Ok w.trees
  pub in_order : AreNodesInOrder (after w f) image
  pub placed : AreNodesPlaced (node_places (after w f)) f.layout

-- The nodes that were found hold the same sets on every metadata device of the image, and so do those of the entry that is written, if one is.
pub record AreNodesAlike (f : Found) (image : Image) (writing : Option Writing) : Type 0 where
  pub found : All (IsAlike f image) (nodes_of f.trees.nodes)
  pub next : IfSome writing (λ w. All (IsAlike (after w f) image) (nodes_of w.trees.nodes))

-- It is the place of one of the first so many parts of the entry that is written, if one is.
abbrev pub IsAsked : Layout → Option Writing → ℕ → ℕ → ℕ → Type 0
IsAsked layout None count dev block = ⊥
IsAsked layout (Some w) count dev block = IsPlaceOf layout w.next count dev block

-- These bytes are a block of the entry that is written, if one is, and this is its place.
abbrev pub IsWritingBlock : Layout → Option Writing → ℕ → ℕ → List ℕ → Type 0
IsWritingBlock layout None dev block bytes = ⊥
IsWritingBlock layout (Some w) dev block bytes = IsEntryBlock layout.metadata_replicas layout.journal w.next.number w.blocks dev block bytes

-- The first so many parts of the entry that is written, if one is, stand on every metadata device.
abbrev pub HoldParts : Layout → Option Writing → ℕ → Image → Type 0
HoldParts layout None count image = ⊤
HoldParts layout (Some w) count image = HoldBlocks layout.metadata_replicas layout.journal w.next.number w.blocks count image

-- what an image may mean while the entry is written: what was found, and then that with the entry
abbrev pub meant_by : Found → Option Writing → List Found
meant_by f None = f ∷ []
meant_by f (Some w) = f ∷ after w f ∷ []
