-- What stands whole on one metadata device, whatever the others hold.
use Rattle.std.specs.Prelude.{◌≡◌, ℕ, ◌+◌, ◌<◌, List, [], length, All, Contains, Option, Some, slice_index_or}
use Rattle.dev_model.specs.Disk.{Image, block_at}
use Rattle.image_view.specs.Found.{Found, PassesNone}
use Rattle.image_view.specs.Trees.{nodes_of}
use Rattle.journal_ring.specs.Entries.{IsMadeOf}
use Rattle.journal_ring.specs.Parts.{Area, area_of, numbered}
use Rattle.journal_ring.specs.declared.found.FoundEntry.{FoundEntry}
use Rattle.node_store.specs.Answers.{IsOfNode}
use Rattle.node_store.specs.Copies.{block_in, copies_at, copy_at}
use Rattle.node_store.specs.StoredSets.{Copies}
use Rattle.node_store.specs.declared.opening.OpenBlock.{OpenBlock}
use Rattle.replay.specs.Roots.{Shows}
use Rattle.sealed_block.specs.Opening.{opened}
use Rattle.sealed_block.specs.Records.{Continues}
use Rattle.sealed_block.specs.declared.heads.Head.{Head}
use Rattle.vol_types.specs.declared.layout.Layout.{Layout}
use Rattle.vol_types.specs.declared.pointers.NodeEnd.{NodeEnd}
use Rattle.vol_types.specs.declared.pointers.NodePtr.{NodePtr}
use Rattle.vol_types.specs.declared.pointers.Place.{Place}

-- The devices agree on the parts of an entry with these blocks: what opens on one of them at the place of a part, and continues the record
-- that this head begins, is that part.
abbrev pub AgreeOnParts : Layout → Area → ℕ → List (List ℕ) → Head → Type 0
AgreeOnParts layout area number blocks first =
    (dev p : ℕ) (block : List ℕ) (head : Head) → dev < layout.metadata_replicas → p < length blocks → numbered layout area dev (number + p) ≡ Some block → opened block ≡ Some head → Continues first p head → block ≡ slice_index_or blocks p []

-- The entry stands whole on this metadata device: it is made of blocks each of which stands there, and the devices agree on its parts.
pub record EntryStandsOn (layout : Layout) (mirror : ℕ) (area : Area) (entry : FoundEntry) : Type 0 where
  pub blocks : List (List ℕ)
  pub made : IsMadeOf layout area entry blocks
  pub stand : (p : ℕ) → p < length blocks → numbered layout area mirror (entry.number + p) ≡ Some (slice_index_or blocks p [])
  pub agree : AgreeOnParts layout area entry.number blocks made.first

-- A copy lacks none of the first so many blocks of a node: of each that some copy shows, it shows the same.
abbrev pub LacksNone : List ℕ → ℕ → ℕ → Copies → List (Option OpenBlock) → Type 0
LacksNone id birth end copies copy = (n : ℕ) (block : OpenBlock) → n < end → IsOfNode id birth block.head → Shows copies n block → block_in copy n ≡ Some block

-- A node stands whole on this metadata device: its copy there lacks no block before the end of its sets.
abbrev pub NodeStandsOn : Found → ℕ → Image → NodePtr → Type 0
NodeStandsOn f mirror image node =
    (end : NodeEnd) → Contains f.trees.ends end → end.birth ≡ node.birth → (place : Place) → Contains node.places place → place.dev ≡ mirror
    → LacksNone f.layout.id node.birth end.block (copies_at (block_at image) node.places) (copy_at (block_at image) place)

-- What was found stands whole on this metadata device: each needed entry, and each node.
pub record StandsWholeOn (f : Found) (mirror : ℕ) (image : Image) : Type 0 where
  pub on_mirror : mirror < f.layout.metadata_replicas
  pub entries : All (EntryStandsOn f.layout mirror (area_of image)) f.needed
  pub nodes : All (NodeStandsOn f mirror image) (nodes_of f.trees.nodes)

-- No entry that blocks of the image make up, from whichever device each part is taken, passes those that were found.
abbrev pub NonePassed : Found → Image → Type 0
NonePassed f image = (entry : FoundEntry) (blocks : List (List ℕ)) → IsMadeOf f.layout (area_of image) entry blocks → PassesNone f entry
