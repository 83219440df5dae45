-- What reading an image gives, also where reads of nodes fail.
use Rattle.std.specs.Prelude.{◌≡◌, ◌↔◌, ℕ, ⊤, List, map, All, Contains, Result, Ok, Err}
use Rattle.std.specs.List.{flat_map}
use Rattle.std.specs.Map.{values_of}
use Rattle.std.specs.Option.{ok_or}
use Rattle.dev_model.specs.Disk.{Image, block_at}
use Rattle.geometry.specs.Sessions.{session_in}
use Rattle.geometry.specs.Superblocks.{layout_in}
use Rattle.image_view.specs.Found.{Found, PlacesAgree, found, super_fault}
use Rattle.image_view.specs.Trees.{BtreeRead, TreesRead, nodes_of}
use Rattle.image_view.specs.declared.fault.MountFault.{MountFault}
use Rattle.image_view.specs.declared.fault.MountFault.TheVariants.{NoSuper, Version, Mixed, BadLayout, NoEntry, MissingEntry, BadNode, Unsound, DeviceFault, NoMemory}
use Rattle.journal_ring.specs.declared.found.FoundEntry.{FoundEntry}
use Rattle.journal_ring.specs.Entries.{IsWhole}
use Rattle.journal_ring.specs.Parts.{Area, area_of}
use Rattle.key_codec.specs.Formats.{carried}
use Rattle.node_store.specs.Answers.{AreAlike}
use Rattle.node_store.specs.Copies.{copies_at}
use Rattle.node_store.specs.StoredSets.{sets_of}
use Rattle.node_store.specs.declared.sets.StoredSets.{StoredSets}
use Rattle.vol_types.specs.declared.layout.Layout.{Layout}
use Rattle.vol_types.specs.declared.pointers.NodePtr.{NodePtr}
use Rattle.vol_types.specs.declared.pointers.Place.{Place}
use Rattle.image_reader.specs.Volumes.{entries_in, found_of, with_last}
use Rattle.image_reader.specs.declared.fault.TreeFault.{TreeFault}
use Rattle.image_reader.specs.declared.fault.TreeFault.TheVariants as trees
use Rattle.image_reader.specs.declared.found.FoundVolume.{FoundVolume}

-- What was read is what is expected, seen by view, unless a device failed or it was out of memory.
abbrev pub Finds : {X Y : Type 0} → (X → Y) → Result Y MountFault → Result X MountFault → Type 0
Finds view expected (Ok x) = expected ≡ Ok (view x)
Finds view expected (Err (DeviceFault dev)) = ⊤
Finds view expected (Err NoMemory) = ⊤
Finds view expected (Err fault) = expected ≡ Err fault

-- The answer is what is found in the image, unless a device failed or it was out of memory.
abbrev pub IsAnswer : Result Found MountFault → Result FoundVolume MountFault → Type 0
IsAnswer expected result = Finds found_of expected result

-- This is what was read, unless a device failed or it was out of memory.
abbrev pub IsRead : Found → Result FoundVolume MountFault → Type 0
IsRead f (Ok read) = found_of read ≡ f
IsRead f (Err (DeviceFault dev)) = ⊤
IsRead f (Err NoMemory) = ⊤
IsRead f (Err fault) = ⊥

-- A fault that shows before any node is read.
abbrev pub IsEarly : MountFault → Type 0
IsEarly NoSuper = ⊤
IsEarly Version = ⊤
IsEarly Mixed = ⊤
IsEarly BadLayout = ⊤
IsEarly NoEntry = ⊤
IsEarly (MissingEntry sequence) = ⊤
IsEarly (BadNode place) = ⊥
IsEarly (Unsound check) = ⊥
IsEarly (DeviceFault dev) = ⊥
IsEarly NoMemory = ⊥

-- A fault that isn't one of nodes or of keys.
abbrev pub IsNotLate : MountFault → Type 0
IsNotLate (BadNode place) = ⊥
IsNotLate (Unsound check) = ⊥
IsNotLate fault = ⊤

-- The places of a node don't all show the same blocks up to the end of its sets.
pub record IsRagged (id : List ℕ) (image : Image) (pointer : NodePtr) : Type 0 where
  pub sets : StoredSets
  pub found : sets_of (block_at image) id pointer ≡ Ok sets
  pub differ : AreAlike sets.end (copies_at (block_at image) pointer.places) → ⊥

-- One of the nodes, of this birth, is ragged.
pub record HasRagged (id : List ℕ) (image : Image) (pointers : List NodePtr) (birth : ℕ) : Type 0 where
  pub pointer : NodePtr
  pub one : Contains pointers pointer
  pub born : pointer.birth ≡ birth
  pub ragged : IsRagged id image pointer

-- The layout, the session and the needed entries of a volume are those of the image.
pub record IsFront (image : Image) (layout : Layout) (session : ℕ) (needed : List FoundEntry) : Type 0 where
  pub layout_is : carried super_fault (layout_in image) ≡ Ok layout
  pub session_is : ok_or (session_in layout image) NoEntry ≡ Ok session
  pub entries_are : entries_in layout (area_of image) ≡ Ok (with_last needed)

-- The entry was whole in some journal areas of the volume: where it was read.
abbrev pub WasWhole : Layout → FoundEntry → Type 0
WasWhole layout found = (area : Area) × IsWhole layout area found

-- A part of a btree was read as expected, seen by view, unless a device failed or it was out of memory.
abbrev pub Tells : {X Y : Type 0} → (X → Y) → Result Y Place → Result X TreeFault → Type 0
Tells view expected (Ok x) = expected ≡ Ok (view x)
Tells view expected (Err (trees.BadNode place)) = expected ≡ Err place
Tells view expected (Err (trees.DeviceFault dev)) = ⊤
Tells view expected (Err trees.NoMemory) = ⊤

-- A btree is read for certain: it is one, and the places of each of its nodes agree.
pub record IsSureBtree (id : List ℕ) (image : Image) (expected : Result BtreeRead Place) : Type 0 where
  pub btree : BtreeRead
  pub finds : expected ≡ Ok btree
  pub agree : All (PlacesAgree id image) (flat_map values_of btree.levels)

-- Btrees are read for certain: each is one, and the places of each of their nodes agree.
pub record AreSureBtrees (id : List ℕ) (image : Image) (expected : Result (List BtreeRead) Place) : Type 0 where
  pub btrees : List BtreeRead
  pub finds : expected ≡ Ok btrees
  pub agree : All (PlacesAgree id image) (nodes_of (map (λ btree. btree.levels) btrees))

-- The btrees of a volume are read for certain: they are some, and the places of each of their nodes agree.
pub record AreSureTrees (id : List ℕ) (image : Image) (expected : Result TreesRead Place) : Type 0 where
  pub trees : TreesRead
  pub finds : expected ≡ Ok trees
  pub agree : All (PlacesAgree id image) (nodes_of trees.nodes)

-- The births are those of the nodes of which some place lacks a set.
abbrev pub AreRagged : List ℕ → Image → List NodePtr → List ℕ → Type 0
AreRagged id image pointers births = (birth : ℕ) → Contains births birth ↔ HasRagged id image pointers birth
