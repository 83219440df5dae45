-- The fields of each kind of value, in their order, with their numbers, widths and ranges.
use Rattle.std.specs.Prelude.{ℕ, ◌%◌, Bool, List, length, Option, option_map, if◌then◌else◌, ◌==◌}
use Rattle.std.specs.Ordering.{nat_cmp}
use Rattle.vol_types.specs.declared.pointers.NodePtr.{NodePtr}
use Rattle.vol_types.specs.declared.pointers.Place.{Place}
use Rattle.vol_types.specs.declared.pointers.Pointer.{Pointer}
use Rattle.vol_types.specs.declared.positions.Pos.{Pos}
use Rattle.vol_types.specs.declared.values.Extent.{Extent}
use Rattle.vol_types.specs.declared.values.FileKind.{FileKind}
use Rattle.vol_types.specs.declared.values.FileKind.TheVariants.{File, Directory}
use Rattle.vol_types.specs.declared.values.Inode.{Inode}
use Rattle.vol_types.specs.declared.values.Link.{Link}
use Rattle.vol_types.specs.declared.values.Live.{Live}
use Rattle.vol_types.specs.declared.values.Snap.{Snap}
use Rattle.vol_types.specs.declared.values.SnapState.{SnapState}
use Rattle.vol_types.specs.declared.values.SnapState.TheVariants.{LiveLeaf, Interior, DeadLeaf}
use Rattle.vol_types.specs.declared.values.Sub.{Sub}
use Rattle.vol_types.specs.Ranges.{name_cmp, most_links, most_bytes}
use Rattle.vol_types.specs.Values.{file_kind_code, snap_state_code}
use Rattle.key_codec.specs.declared.fault.KeyFault.TheVariants.{Range, Order}
use Rattle.key_codec.specs.Formats.{Format, u8_byte, u32_le, u64_le, raw, checked, ranged, followed, both, mapped, items, counted, is_above}

-- a position: inode, offset and snapshot
unfoldable pub position : Format Pos
position = mapped (both u64_le (both u64_le u32_le)) (λ x. record { inode = x.0; offset = x.1.0; snapshot = x.1.1 }) (λ p. (p.inode, (p.offset, p.snapshot)))

-- the kind of inode with this number
abbrev pub file_kind_of : ℕ → FileKind
file_kind_of code = if code == 1 then File else Directory

-- field number k: 1 for a file, 2 for a directory
unfoldable pub file_kind : ℕ → Format FileKind
file_kind k = mapped (ranged k u8_byte 1 2) file_kind_of file_kind_code

-- the state of a snapshot id with this number
abbrev pub snap_state_of : ℕ → SnapState
snap_state_of code = if code == 1 then LiveLeaf else if code == 2 then Interior else DeadLeaf

-- field number k: 1 for a live leaf, 2 for an interior id, 3 for a dead leaf
unfoldable pub snap_state : ℕ → Format SnapState
snap_state k = mapped (ranged k u8_byte 1 3) snap_state_of snap_state_code

-- field number k: 1 for yes, 0 for no
unfoldable pub flag : ℕ → Format Bool
flag k = mapped (ranged k u8_byte 0 1) (λ n. n == 1) (λ yes. if yes then 1 else 0)

-- field number k: a length of 1 to 255, and then the bytes of the name
unfoldable pub name : ℕ → Format (List ℕ)
name k = mapped (followed (ranged k u8_byte 1 255) raw) (λ x. x.1) (λ bytes. (length bytes, bytes))

-- an inode: its kind, and its links and its size, whose ranges depend on the kind
unfoldable pub inode_fields : Format Inode
inode_fields = mapped (followed (file_kind 1) (λ kind. both (ranged 2 u32_le 1 (most_links kind)) (ranged 3 u64_le 0 (most_bytes kind))))
    (λ x. record { kind = x.0; links = x.1.0; size = x.1.1 }) (λ i. (i.kind, (i.links, i.size)))

-- a name of a directory: number, kind and name, which is above the one before it
unfoldable pub link_item : Option Link → Format Link
link_item before = mapped (both u64_le (both (file_kind 3) (checked (name 4) (is_above name_cmp (option_map (λ l. l.name) before)) Order)))
    (λ x. record { number = x.0; kind = x.1.0; name = x.1.1 }) (λ l. (l.number, (l.kind, l.name)))

-- the names of a directory that share a slot, 1 to 8
unfoldable pub names_fields : Format (List Link)
names_fields = counted 1 8 link_item

-- where a copy lies: a device, which is above the one before it, the first block and the generation
unfoldable pub pointer_item : Option Pointer → Format Pointer
pointer_item before = mapped (both (checked (ranged 3 u8_byte 0 7) (is_above nat_cmp (option_map (λ p. p.place.dev) before)) Order) (both u32_le u32_le))
    (λ x. record { place = record { dev = x.0; block = x.1.0 }; generation = x.1.1 }) (λ p. (p.place.dev, (p.place.block, p.generation)))

-- a digest
abbrev pub digest_item : Option ℕ → Format ℕ
digest_item before = u64_le

-- blocks of a file: their number, 1 to 16, the pointers to 1 to 3 copies, and a digest for each block
unfoldable pub extent_fields : Format Extent
extent_fields = mapped (followed (ranged 1 u8_byte 1 16) (λ blocks. both (counted 2 3 pointer_item) (items digest_item blocks)))
    (λ x. record { pointers = x.1.0; digests = x.1.1 }) (λ e. (length e.digests, (e.pointers, e.digests)))

-- blocks that show nothing: their number, 1 to 4,096
unfoldable pub hole_fields : Format ℕ
hole_fields = ranged 1 u32_le 1 4096

-- a subvolume: id, number of the root, whether it is read-only, and a name, which is above the one before it
unfoldable pub sub_item : Option Sub → Format Sub
sub_item before = mapped (both u32_le (both u64_le (both (flag 4) (checked (name 5) (is_above name_cmp (option_map (λ s. s.name) before)) Order))))
    (λ x. record { id = x.0; root = x.1.0; read_only = x.1.1.0; name = x.1.1.1 }) (λ s. (s.id, (s.root, (s.read_only, s.name))))

-- the subvolumes whose names share a slot, 1 to 8
unfoldable pub subs_fields : Format (List Sub)
subs_fields = counted 1 8 sub_item

-- a snapshot id: its parent, its two children and its state
unfoldable pub snap_fields : Format Snap
snap_fields = mapped (both u32_le (both u32_le (both u32_le (snap_state 4))))
    (λ x. record { parent = x.0; first_child = x.1.0; second_child = x.1.1.0; state = x.1.1.1 }) (λ s. (s.parent, (s.first_child, (s.second_child, s.state))))

-- a bucket: its generation, and how many of its blocks are in use
unfoldable pub live_fields : Format Live
live_fields = mapped (both u32_le (ranged 2 u8_byte 0 16)) (λ x. record { generation = x.0; blocks = x.1 }) (λ l. (l.generation, l.blocks))

-- a number that is a multiple of 16
abbrev pub is_bucket_start : ℕ → Bool
is_bucket_start block = block % 16 == 0

-- where a node lies: a device, and the first block of a bucket
unfoldable pub place_item : Option Place → Format Place
place_item before = mapped (both (ranged 4 u8_byte 0 7) (checked u32_le is_bucket_start (Range 5)))
    (λ x. record { dev = x.0; block = x.1 }) (λ p. (p.dev, p.block))

-- a node: its birth, its level, and 1 to 3 places
unfoldable pub node_fields : Format NodePtr
node_fields = mapped (both u64_le (both (ranged 2 u8_byte 0 7) (counted 3 3 place_item)))
    (λ x. record { birth = x.0; level = x.1.0; places = x.1.1 }) (λ n. (n.birth, (n.level, n.places)))
