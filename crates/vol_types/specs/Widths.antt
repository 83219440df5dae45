-- The widths of the fields whose range is all of their type. The fields of each value in the code have them.
use Rattle.std.specs.Prelude.{ℕ, ◌<◌, ◌^◌, Option, Some, None, List, All, ⊤}
use Rattle.vol_types.specs.declared.pointers.NodePtr.{NodePtr}
use Rattle.vol_types.specs.declared.pointers.Pointer.{Pointer}
use Rattle.vol_types.specs.declared.positions.Pos.{Pos}
use Rattle.vol_types.specs.declared.values.Extent.{Extent}
use Rattle.vol_types.specs.declared.values.Link.{Link}
use Rattle.vol_types.specs.declared.values.Snap.{Snap}
use Rattle.vol_types.specs.declared.values.Sub.{Sub}
use Rattle.vol_types.specs.declared.values.Value.{Value}
use Rattle.vol_types.specs.declared.values.Value.TheVariants as values

-- Each element is a byte.
abbrev pub AreBytes : List ℕ → Type 0
AreBytes bytes = All (λ b. b < 256) bytes

-- The parts of the position have their widths.
pub record PosFits (pos : Pos) : Type 0 where
  pub inode : pos.inode < 2 ^ 64
  pub offset : pos.offset < 2 ^ 64
  pub snapshot : pos.snapshot < 2 ^ 32

-- The parts of the link have their widths.
pub record LinkFits (link : Link) : Type 0 where
  pub number : link.number < 2 ^ 64
  pub name : AreBytes link.name

-- The parts of the subvolume have their widths.
pub record SubFits (sub : Sub) : Type 0 where
  pub id : sub.id < 2 ^ 32
  pub root : sub.root < 2 ^ 64
  pub name : AreBytes sub.name

-- The parts of the pointer have their widths.
pub record PointerFits (pointer : Pointer) : Type 0 where
  pub block : pointer.place.block < 2 ^ 32
  pub generation : pointer.generation < 2 ^ 32

-- The parts of the extent have their widths.
pub record ExtentFits (extent : Extent) : Type 0 where
  pub pointers : All PointerFits extent.pointers
  pub digests : All (λ digest. digest < 2 ^ 64) extent.digests

-- The ids have their widths.
pub record SnapFits (snap : Snap) : Type 0 where
  pub parent : snap.parent < 2 ^ 32
  pub first_child : snap.first_child < 2 ^ 32
  pub second_child : snap.second_child < 2 ^ 32

-- The parts of the pointer to a node have their widths.
pub record NodeFits (node : NodePtr) : Type 0 where
  pub birth : node.birth < 2 ^ 64
  pub places : All (λ place. place.block < 2 ^ 32) node.places

-- The fields of the value have their widths.
abbrev pub ValueFits : Value → Type 0
ValueFits (values.Inode inode) = ⊤
ValueFits (values.Names links) = All LinkFits links
ValueFits (values.Extent extent) = ExtentFits extent
ValueFits (values.Hole blocks) = ⊤
ValueFits values.White = ⊤
ValueFits (values.Subs subs) = All SubFits subs
ValueFits (values.Snap snap) = SnapFits snap
ValueFits (values.Live live) = live.generation < 2 ^ 32
ValueFits (values.Back extent) = PosFits extent
ValueFits values.Gone = ⊤
ValueFits (values.Counter next) = next < 2 ^ 64
ValueFits (values.Node node) = NodeFits node

-- The fields of the key's value have their widths, if there is one.
abbrev pub KeyValueFits : Option Value → Type 0
KeyValueFits None = ⊤
KeyValueFits (Some value) = ValueFits value
