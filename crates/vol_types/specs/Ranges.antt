-- The ranges of the fields of values, beyond the widths of their types.
use Rattle.std.specs.Prelude.{◌≡◌, ℕ, ◌<◌, ◌≤◌, ◌%◌, Option, Some, None, List, [], ◌∷◌, length, map, All, ⊤}
use Rattle.std.specs.Int.{IsInRange}
use Rattle.std.specs.Ordering.{nat_cmp}
use Rattle.std.specs.Cmp.Lexicographic.{slice_cmp}
use Rattle.std.specs.declared.cmp.Ordering.{Ordering}
use Rattle.std.specs.declared.cmp.Ordering.TheVariants.{Less}
use Rattle.vol_types.specs.Limits.{bucket_blocks}
use Rattle.vol_types.specs.declared.pointers.NodePtr.{NodePtr}
use Rattle.vol_types.specs.declared.pointers.Place.{Place}
use Rattle.vol_types.specs.declared.values.FileKind.{FileKind}
use Rattle.vol_types.specs.declared.values.FileKind.TheVariants.{File, Directory}
use Rattle.vol_types.specs.declared.values.Extent.{Extent}
use Rattle.vol_types.specs.declared.values.Inode.{Inode}
use Rattle.vol_types.specs.declared.values.Link.{Link}
use Rattle.vol_types.specs.declared.values.Sub.{Sub}
use Rattle.vol_types.specs.declared.values.Value.{Value}
use Rattle.vol_types.specs.declared.values.Value.TheVariants as values

-- names are in the order of their bytes
abbrev pub name_cmp : List ℕ → List ℕ → Ordering
name_cmp = slice_cmp nat_cmp

-- It is above what was before, if anything was.
abbrev pub IsAbove : {X : Type 0} → (X → X → Ordering) → Option X → X → Type 0
IsAbove cmp None x = ⊤
IsAbove cmp (Some before) x = cmp before x ≡ Less

-- The first is above what was before, and each further one above the one before it.
abbrev pub RiseFrom : {X : Type 0} → (X → X → Ordering) → Option X → List X → Type 0
RiseFrom cmp before [] = ⊤
RiseFrom cmp before (x ∷ xs) = IsAbove cmp before x × RiseFrom cmp (Some x) xs

-- Each is above the one before it.
abbrev pub Rise : {X : Type 0} → (X → X → Ordering) → List X → Type 0
Rise cmp xs = RiseFrom cmp None xs

-- the most links of an inode: those of a file are counted, a directory has one
abbrev pub most_links : FileKind → ℕ
most_links File = 255
most_links Directory = 1

-- the greatest size of an inode: 4,096 blocks for a file, and 0 for a directory
abbrev pub most_bytes : FileKind → ℕ
most_bytes File = 16777216
most_bytes Directory = 0

-- The links and the size of the inode are in range.
pub record IsInode (inode : Inode) : Type 0 where
  pub links : IsInRange 1 (most_links inode.kind) inode.links
  pub size : inode.size ≤ most_bytes inode.kind

-- A name has 1 to 255 bytes.
abbrev pub IsName : List ℕ → Type 0
IsName name = IsInRange 1 255 (length name)

-- The names of 1 to 8 links rise.
pub record AreLinks (links : List Link) : Type 0 where
  pub count : IsInRange 1 8 (length links)
  pub each : All (λ link. IsName link.name) links
  pub rise : Rise name_cmp (map (λ link. link.name) links)

-- The names of 1 to 8 subvolumes rise.
pub record AreSubs (subs : List Sub) : Type 0 where
  pub count : IsInRange 1 8 (length subs)
  pub each : All (λ sub. IsName sub.name) subs
  pub rise : Rise name_cmp (map (λ sub. sub.name) subs)

-- A volume has at most 8 devices.
abbrev pub IsDevice : ℕ → Type 0
IsDevice dev = dev < 8

-- The copies of an extent of 1 to 16 blocks lie on 1 to 3 devices, whose numbers rise.
pub record IsExtent (extent : Extent) : Type 0 where
  pub blocks : IsInRange 1 16 (length extent.digests)
  pub copies : IsInRange 1 3 (length extent.pointers)
  pub each : All (λ pointer. IsDevice pointer.place.dev) extent.pointers
  pub rise : Rise nat_cmp (map (λ pointer. pointer.place.dev) extent.pointers)

-- The place is the first block of a bucket.
pub record IsBucket (place : Place) : Type 0 where
  pub device : IsDevice place.dev
  pub first : place.block % bucket_blocks ≡ 0

-- A node is of level 0 to 7, and lies on 1 to 3 devices.
pub record IsNode (node : NodePtr) : Type 0 where
  pub level : node.level ≤ 7
  pub copies : IsInRange 1 3 (length node.places)
  pub each : All IsBucket node.places

-- The fields of the value are in range.
abbrev pub IsValue : Value → Type 0
IsValue (values.Inode inode) = IsInode inode
IsValue (values.Names links) = AreLinks links
IsValue (values.Extent extent) = IsExtent extent
IsValue (values.Hole blocks) = IsInRange 1 4096 blocks
IsValue values.White = ⊤
IsValue (values.Subs subs) = AreSubs subs
IsValue (values.Snap snap) = ⊤
IsValue (values.Live live) = live.blocks ≤ bucket_blocks
IsValue (values.Back extent) = ⊤
IsValue values.Gone = ⊤
IsValue (values.Counter next) = ⊤
IsValue (values.Node node) = IsNode node

-- The value of a key is in range, if there is one.
abbrev pub IsKeyValue : Option Value → Type 0
IsKeyValue None = ⊤
IsKeyValue (Some value) = IsValue value
