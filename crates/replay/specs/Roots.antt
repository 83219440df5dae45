-- What it is that the roots of a volume are mended: each block of such a node that one of its places shows stands on the others too, and
-- nothing else is written.
use Rattle.std.specs.Prelude.{◌≡◌, ◌↔◌, ◌==◌, ℕ, ◌<◌, ◌≤◌, if◌then◌else◌, List, [], ◌∷◌, All, Contains, Option, Some, None, length, map, slice_index_or}
use Rattle.dev_model.specs.Crashes.{SameBut}
use Rattle.dev_model.specs.Disk.{Image, block_at}
use Rattle.image_view.specs.Found.{Found, IsAlike}
use Rattle.node_store.specs.Answers.{AreAlike, IsOfNode}
use Rattle.node_store.specs.Copies.{block_in, copies_at}
use Rattle.node_store.specs.Mending.{CanBeMended, IsToMend, IsWanted, StayShown}
use Rattle.node_store.specs.StoredSets.{Copies}
use Rattle.node_store.specs.Writes.{IsCopyOf}
use Rattle.node_store.specs.declared.opening.OpenBlock.{OpenBlock}
use Rattle.vol_types.specs.Limits.{bucket_blocks}
use Rattle.vol_types.specs.declared.layout.Layout.{Layout}
use Rattle.vol_types.specs.declared.pointers.NodeEnd.{NodeEnd}
use Rattle.vol_types.specs.declared.pointers.NodePtr.{NodePtr}
use Rattle.vol_types.specs.declared.pointers.Place.{Place}

-- a node that stands for none
abbrev pub no_node : NodePtr
no_node = record { birth = 0; level = 0; places = [] }

-- The place is on a metadata device.
abbrev pub IsOnMirror : Layout → Place → Type 0
IsOnMirror layout place = place.dev < layout.metadata_replicas

-- It is a block of a node's bucket, on one of its places.
pub record IsBlockOf (node : NodePtr) (dev block : ℕ) : Type 0 where
  pub number : ℕ
  pub below : number < bucket_blocks
  pub copy : IsCopyOf node.places number dev block

-- No two of the nodes share a block.
abbrev pub ShareNoBlock : List NodePtr → Type 0
ShareNoBlock nodes =
    (one other dev block : ℕ) → one < length nodes → other < length nodes
    → IsBlockOf (slice_index_or nodes one no_node) dev block → IsBlockOf (slice_index_or nodes other no_node) dev block → one ≡ other

-- where the sets of a node of this birth end, by the first of these ends that names it
abbrev pub listed_end : List NodeEnd → ℕ → Option ℕ
listed_end [] birth = None
listed_end (end ∷ ends) birth = if end.birth == birth then Some end.block else listed_end ends birth

-- It is a block before the listed end of a node, on one of its places; and it shows no block of the node, or a call of its device failed.
pub record IsToMendIn (id : List ℕ) (ends : List NodeEnd) (node : NodePtr) (image : Image) (failed : ℕ → Type 0) (dev block : ℕ) : Type 0 where
  pub end : ℕ
  pub listed : listed_end ends node.birth ≡ Some end
  pub within : end ≤ bucket_blocks
  pub mends : IsToMend id node.birth node.places end image failed dev block

-- These bytes are what a place of the node shows of this block, which is before the node's listed end.
pub record IsWantedIn (id : List ℕ) (ends : List NodeEnd) (node : NodePtr) (image : Image) (dev block : ℕ) (bytes : List ℕ) : Type 0 where
  pub end : ℕ
  pub listed : listed_end ends node.birth ≡ Some end
  pub within : end ≤ bucket_blocks
  pub wanted : IsWanted id node.birth node.places end image dev block bytes

-- It is such a block of one of the first so many nodes.
pub record IsToMendOf (id : List ℕ) (ends : List NodeEnd) (nodes : List NodePtr) (count : ℕ) (image : Image) (failed : ℕ → Type 0) (dev block : ℕ) : Type 0 where
  pub index : ℕ
  pub below : index < count
  pub inside : index < length nodes
  pub mends : IsToMendIn id ends (slice_index_or nodes index no_node) image failed dev block

-- These bytes are what a place of one of them shows of this block.
pub record IsWantedOf (id : List ℕ) (ends : List NodeEnd) (nodes : List NodePtr) (count : ℕ) (image : Image) (dev block : ℕ) (bytes : List ℕ) : Type 0 where
  pub index : ℕ
  pub below : index < count
  pub inside : index < length nodes
  pub wanted : IsWantedIn id ends (slice_index_or nodes index no_node) image dev block bytes

-- The node stands whole: its places show the same up to its listed end.
abbrev pub IsWholeUpTo : List NodeEnd → Image → NodePtr → Type 0
IsWholeUpTo ends image node = (end : ℕ) → listed_end ends node.birth ≡ Some end → AreAlike end (copies_at (block_at image) node.places)

-- Each block of the node's bucket before its listed end that some place shows in the first image is still shown in the second one.
abbrev pub StaysShownUpTo : List ℕ → List NodeEnd → Image → Image → NodePtr → Type 0
StaysShownUpTo id ends one other node = (end : ℕ) → listed_end ends node.birth ≡ Some end → end ≤ bucket_blocks → StayShown id node.birth node.places end one other

-- Where the node could be mended up to its listed end in the first image, it stands whole in the second one.
abbrev pub IsMendedIn : Layout → List NodeEnd → List ℕ → Image → Image → NodePtr → Type 0
IsMendedIn layout ends sizes one other node =
    (end : ℕ) → listed_end ends node.birth ≡ Some end → All (IsOnMirror layout) node.places → CanBeMended layout node.birth node.places end sizes one
    → AreAlike end (copies_at (block_at other) node.places)

-- The roots that the newest entry of what was found names have the same sets on every metadata device in this image.
abbrev pub AreRootsAlike : Found → Image → Type 0
AreRootsAlike f image = All (IsAlike f image) f.last.entry.roots

-- It is a block of the bucket of one of the roots that the newest entry of what was found names.
pub record IsRootBlock (f : Found) (dev block : ℕ) : Type 0 where
  pub root : NodePtr
  pub one : Contains f.last.entry.roots root
  pub of_root : IsBlockOf root dev block

-- ---- copies of which blocks are mended

-- Some copy shows this block there.
abbrev pub Shows : Copies → ℕ → OpenBlock → Type 0
Shows copies n block = (copy : List (Option OpenBlock)) × Contains copies copy × (block_in copy n ≡ Some block)

-- The same blocks of a node are shown at each block number, on whichever copies: so it is before a node is mended, meanwhile, and then.
abbrev pub ShowTheSame : List ℕ → ℕ → Copies → Copies → Type 0
ShowTheSame id birth one other = (n : ℕ) (block : OpenBlock) → IsOfNode id birth block.head → Shows one n block ↔ Shows other n block

-- Two images of equal lengths differ in blocks of the roots alone, and show the same of each root.
pub record DifferInRoots (f : Found) (one other : Image) : Type 0 where
  pub lengths : map (λ blocks. length blocks) one ≡ map (λ blocks. length blocks) other
  pub elsewhere : SameBut (IsRootBlock f) one other
  pub shown : All (λ root. ShowTheSame f.layout.id root.birth (copies_at (block_at one) root.places) (copies_at (block_at other) root.places)) f.last.entry.roots
