-- What an image means, in its parts: the layout and the session, the entries that are needed, the btrees that these and the nodes
-- make; and with them the volume.
use Rattle.std.specs.Prelude.{◌≡◌, ◌==◌, ◌&&◌, ℕ, ◌+◌, ◌*◌, ◌<◌, ◌≤◌, ◌^◌, Bool, nat_le, if◌then◌else◌, List, [], ◌∷◌, map, slice_get, slice_index, Contains, All, IfSome, Option, Some, None, Result, Ok, Err, ⊤}
use Rattle.std.specs.List.{flat_map, range_with_len}
use Rattle.std.specs.Option.{ok_or, option_or}
use Rattle.dev_model.specs.Disk.{Image, block_at}
use Rattle.geometry.specs.Sessions.{session_in}
use Rattle.geometry.specs.Superblocks.{layout_in}
use Rattle.geometry.specs.declared.fault.SuperFault.{SuperFault}
use Rattle.geometry.specs.declared.fault.SuperFault.TheVariants as supers
use Rattle.journal_ring.specs.Counting.{needed_by, newest}
use Rattle.journal_ring.specs.Entries.{IsMadeOf}
use Rattle.journal_ring.specs.Leading.{IsBehind}
use Rattle.journal_ring.specs.Parts.{Area, area_of}
use Rattle.journal_ring.specs.declared.found.FoundEntry.{FoundEntry}
use Rattle.key_codec.specs.Formats.{◌>>=◌, carried}
use Rattle.key_meaning.specs.Checks.{IsFirstFailed, IsSound}
use Rattle.key_meaning.specs.Forest.{Read, forest_in}
use Rattle.node_store.specs.Answers.{AgreeOn, AreAlike}
use Rattle.node_store.specs.Copies.{copies_at}
use Rattle.node_store.specs.NodeContents.{content_of}
use Rattle.plain_forest.specs.Forest.{Forest}
use Rattle.sealed_block.specs.declared.heads.Head.{Head}
use Rattle.sealed_block.specs.Opening.{opened}
use Rattle.record_codec.specs.declared.entries.EntryRecord.{EntryRecord}
use Rattle.vol_digest.specs.Digests.{short_of}
use Rattle.vol_types.specs.declared.keys.Update.{Update}
use Rattle.vol_types.specs.declared.layout.Layout.{Layout}
use Rattle.vol_types.specs.Btrees.{btree_code}
use Rattle.vol_types.specs.Limits.{bucket_blocks}
use Rattle.vol_types.specs.declared.pointers.NodeEnd.{NodeEnd}
use Rattle.vol_types.specs.declared.pointers.NodePtr.{NodePtr}
use Rattle.vol_types.specs.declared.pointers.Place.{Place}
use Rattle.image_view.specs.Trees.{SetsOf, TreesRead, first_place, nodes_of, trees_of}
use Rattle.image_view.specs.declared.fault.MountFault.{MountFault}
use Rattle.image_view.specs.declared.fault.MountFault.TheVariants.{NoSuper, Version, Mixed, BadLayout, NoEntry, MissingEntry, BadNode, Unsound, DeviceFault, NoMemory}

-- why an image without superblocks of one volume doesn't mount
abbrev pub super_fault : SuperFault → MountFault
super_fault supers.NoSuper = NoSuper
super_fault supers.Version = Version
super_fault supers.Mixed = Mixed
super_fault supers.BadLayout = BadLayout
super_fault (supers.DeviceFault dev) = DeviceFault dev
super_fault supers.NoMemory = NoMemory

-- a block of a node's bucket on its first place
abbrev pub bad_place : NodePtr → ℕ → Place
bad_place pointer n = record { dev = (first_place pointer).dev; block = (first_place pointer).block + n }

-- whether a place is a bucket on this device, inside it
abbrev pub is_inside : Layout → ℕ → Place → Bool
is_inside layout dev place = place.dev == dev && nat_le (place.block + bucket_blocks) (slice_index layout.blocks dev)

-- whether places are one bucket inside each metadata device from this one on, in their order
abbrev pub are_mirrored : Layout → ℕ → List Place → Bool
are_mirrored layout dev [] = dev == layout.metadata_replicas
are_mirrored layout dev (place ∷ places) = is_inside layout dev place && are_mirrored layout (dev + 1) places

-- what an image's sets of a node come to, or the place of the block at fault, on the node's first place. A node whose places aren't one
-- bucket inside each metadata device, in their order, is bad.
abbrev pub sets_in : Layout → Image → SetsOf
sets_in layout image wanted =
    if are_mirrored layout 0 wanted.pointer.places
    then carried (bad_place wanted.pointer) (content_of (block_at image) layout.id wanted.btree wanted.least wanted.greatest wanted.pointer)
    else Err (first_place wanted.pointer)

-- the updates of entries, in their order
abbrev pub updates_of : List FoundEntry → List Update
updates_of entries = flat_map (λ found. found.entry.updates) entries

-- what is found in an image: the layout, the session, the newest entry, the entries that are needed up to it, the oldest first, and
-- the btrees
pub record Found : Type 0 where
  pub layout : Layout
  pub session : ℕ
  pub last : FoundEntry
  pub needed : List FoundEntry
  pub trees : TreesRead

-- what was found, but in another session
abbrev pub with_session : ℕ → Found → Found
with_session session f = record f { session = session }

-- what is found in an image, or the first fault
unfoldable pub found : Image → Result Found MountFault
found image = do
  layout ← carried super_fault (layout_in image)
  session ← ok_or (session_in layout image) NoEntry
  last ← ok_or (newest layout (area_of image)) NoEntry
  needed ← carried MissingEntry (needed_by layout (area_of image) last)
  trees ← carried BadNode (trees_of (sets_in layout image) (updates_of needed) last.entry.roots)
  Ok (record { layout = layout; session = session; last = last; needed = needed; trees = trees })

-- the bytes at a place, if their digest is this one
abbrev pub with_digest : ℕ → Option (List ℕ) → Option (List ℕ)
with_digest digest None = None
with_digest digest (Some bytes) = if short_of bytes == digest then Some bytes else None

-- the bytes that an image holds at the first of these places whose digest this is, or none
abbrev pub read_in : Image → Read
read_in image [] digest = None
read_in image (place ∷ places) digest = option_or (with_digest digest (block_at image place.dev place.block)) (read_in image places digest)

-- a volume: how it lies on its devices, the number of commits since it was formatted, and its forest
pub record Volume : Type 0 where
  pub layout : Layout
  pub commits : ℕ
  pub forest : Forest

-- the volume of what is found in an image
abbrev pub volume_of : Image → Found → Volume
volume_of image f = record { layout = f.layout; commits = f.last.entry.commits; forest = forest_in f.trees.keys (read_in image) }

-- the places of all nodes that were read
abbrev pub node_places : Found → List Place
node_places f = flat_map (λ pointer. pointer.places) (nodes_of f.trees.nodes)

-- An image mounts as a volume: that is what is found in it, and its keys are sound.
pub record MountsAs (image : Image) (volume : Volume) : Type 0 where
  pub f : Found
  pub finds : found image ≡ Ok f
  pub sound : IsSound f.trees.keys (node_places f) f.layout
  pub volume_is : volume ≡ volume_of image f

-- What is found in an image isn't sound: this is the first check that fails.
pub record IsUnsound (image : Image) (check : ℕ) : Type 0 where
  pub f : Found
  pub finds : found image ≡ Ok f
  pub fails : IsFirstFailed f.trees.keys (node_places f) f.layout check

-- what an image means: the volume, or why it doesn't mount
abbrev pub Mounts : Image → Result Volume MountFault → Type 0
Mounts image (Ok volume) = MountsAs image volume
Mounts image (Err (Unsound check)) = IsUnsound image check
Mounts image (Err fault) = found image ≡ Err fault

-- Each entry begins where the one before it ends.
abbrev pub FollowOn : List FoundEntry → Type 0
FollowOn [] = ⊤
FollowOn (one ∷ []) = ⊤
FollowOn (one ∷ next ∷ entries) = (next.number ≡ one.end) × FollowOn (next ∷ entries)

-- An entry passes none of those that were found: its sequence isn't greater than the newest one's, and where it has that of a needed one
-- it is behind it.
pub record PassesNone (f : Found) (entry : FoundEntry) : Type 0 where
  pub sequence : entry.entry.sequence ≤ f.last.entry.sequence
  pub behind : All (λ needed. entry.entry.sequence ≡ needed.entry.sequence → IsBehind entry needed) f.needed

-- They fit the journal area together: from the beginning of each to the end of each no place comes twice.
abbrev pub FitTogether : Layout → List FoundEntry → Type 0
FitTogether layout needed = All (λ one. All (λ other. other.end ≤ one.number + layout.journal) needed) needed

-- Each block of the journal area that opens as a part of an entry of the volume was written in a session up to this one.
abbrev pub AreOwned : Layout → ℕ → Area → Type 0
AreOwned layout session area =
    (dev place : ℕ) (bytes : List ℕ) (head : Head) → dev < layout.metadata_replicas → place < layout.journal
    → area dev place ≡ Some bytes → opened bytes ≡ Some head → head.kind ≡ 2 → head.id ≡ layout.id → head.owner ≤ session

-- The node has one place on each metadata device, in their order.
abbrev pub IsMirrored : Layout → NodePtr → Type 0
IsMirrored layout node = map (λ place. place.dev) node.places ≡ range_with_len 0 layout.metadata_replicas

-- No update of the entry is above the root of its btree as the entry names it.
abbrev pub IsBelowRoots : EntryRecord → Type 0
IsBelowRoots entry = All (λ update. IfSome (slice_get entry.roots (btree_code update.btree)) (λ root. update.level ≤ root.level)) entry.updates

-- The copies of a node's bucket show the same up to where its sets end.
abbrev pub IsAlike : Found → Image → NodePtr → Type 0
IsAlike f image node = (end : NodeEnd) → Contains f.trees.ends end → end.birth ≡ node.birth → AreAlike end.block (copies_at (block_at image) node.places)

-- The places of a node agree on it: no two of them show different blocks of its sets at one block of the bucket.
abbrev pub PlacesAgree : List ℕ → Image → NodePtr → Type 0
PlacesAgree id image pointer = AgreeOn id pointer.birth (copies_at (block_at image) pointer.places)

-- The places of each node that was found agree on it.
pub record NodesAgree (image : Image) (f : Found) : Type 0 where
  pub each : All (PlacesAgree f.layout.id image) (nodes_of f.trees.nodes)

-- What was found in an image that nobody else wrote is orderly: the needed entries follow each other without a gap, and fit the
-- journal area together; no entry passes them that its blocks make up, from whichever device each part is taken, and no block of
-- it is of a later session, and no update of them is above its root; and the places of each node agree on it, and it was
-- born in a session up to its own. A place may lack blocks of a node that another one shows. That no two nodes have one birth, that each lies on every
-- metadata device, and that no set of a node stands behind a gap, is part of what is found.
pub record IsInOrder (f : Found) (image : Image) : Type 0 where
  pub entries : FollowOn f.needed
  pub fits : FitTogether f.layout f.needed
  pub others : (entry : FoundEntry) (blocks : List (List ℕ)) → IsMadeOf f.layout (area_of image) entry blocks → PassesNone f entry
  pub owners : AreOwned f.layout f.session (area_of image)
  pub levels : All (λ found. IsBelowRoots found.entry) f.needed
  pub agree : NodesAgree image f
  pub births : All (λ node. node.birth < (f.session + 1) * 2 ^ 32) (nodes_of f.trees.nodes)

-- An image is orderly: something is found in it, and that is in order.
pub record IsOrderly (image : Image) : Type 0 where
  pub f : Found
  pub finds : found image ≡ Ok f
  pub in_order : IsInOrder f image
