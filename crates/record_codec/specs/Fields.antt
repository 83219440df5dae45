-- The fields that sets and entries are made of, with the faults of a record.
use Rattle.std.specs.Prelude.{ℕ, List, [], ◌∷◌, length, Option, ⊤, ◌&&◌, ◌==◌, nat_lt, get_or}
use Rattle.vol_types.specs.declared.pointers.NodePtr.{NodePtr}
use Rattle.vol_types.specs.declared.positions.Btree.{Btree}
use Rattle.vol_types.specs.declared.positions.Btree.TheVariants.{Extents, Inodes, Dirents, Subvols, Snapshots, Alloc, Backptrs, Deleted, Counters}
use Rattle.vol_types.specs.declared.positions.Pos.{Pos}
use Rattle.vol_types.specs.declared.values.Value.{Value}
use Rattle.vol_types.specs.Btrees.{btree_code}
use Rattle.key_codec.specs.Formats.{FormatOf, u8_byte, u32_le, u64_le, mapped, checked, checked_by, followed, both, items, lifted}
use Rattle.key_codec.specs.Keys.{kind_number, fields}
use Rattle.key_codec.specs.Kinds as kinds
use Rattle.key_codec.specs.declared.fault.KeyFault.TheVariants.{Kind}
use Rattle.record_codec.specs.declared.fault.RecordFault.{RecordFault}
use Rattle.record_codec.specs.declared.fault.RecordFault.TheVariants.{Key, Field}
use Rattle.record_codec.specs.Reading.{key_fault, root_fault}
use Rattle.vol_types.specs.Standing.{stands}

-- a number in one byte
unfoldable pub byte : FormatOf RecordFault ℕ
byte = lifted key_fault u8_byte

-- a number in four bytes, the lowest first
unfoldable pub u32_field : FormatOf RecordFault ℕ
u32_field = lifted key_fault u32_le

-- a number in eight bytes, the lowest first
unfoldable pub u64_field : FormatOf RecordFault ℕ
u64_field = lifted key_fault u64_le

-- a position
unfoldable pub position : FormatOf RecordFault Pos
position = lifted key_fault kinds.position

-- a pointer to a root, encoded as the fields of a node's key
unfoldable pub root : FormatOf RecordFault NodePtr
root = lifted root_fault kinds.node_fields

-- two bytes that are zero, judged together
unfoldable pub zeros : FormatOf RecordFault ⊤
zeros = mapped (checked (both byte byte) (λ x. (x.0 == 0) && (x.1 == 0)) Field) (λ x. tt) (λ x. (0, 0))

-- the btrees in the order of their numbers
abbrev pub btrees : List Btree
btrees = Extents ∷ Inodes ∷ Dirents ∷ Subvols ∷ Snapshots ∷ Alloc ∷ Backptrs ∷ Deleted ∷ Counters ∷ []

-- the btree with this number
abbrev pub btree_of : ℕ → Btree
btree_of code = get_or btrees code Extents

-- a btree's number, 0 to 8
unfoldable pub btree : FormatOf RecordFault Btree
btree = mapped (checked byte (λ code. nat_lt code 9) Field) btree_of btree_code

-- the kind of a key that may stand there, and the fields of that kind
unfoldable pub value_in : Btree → ℕ → FormatOf RecordFault (Option Value)
value_in tree level = mapped (followed (checked_by byte (stands tree level) (λ kind. Key (Kind kind))) (λ kind. lifted key_fault (fields kind))) (λ x. x.1) (λ value. (kind_number value, value))

-- a count in four bytes, and then so many items
unfoldable pub listing : {A : Type 0} → (Option A → FormatOf RecordFault A) → FormatOf RecordFault (List A)
listing item = mapped (followed u32_field (items item)) (λ x. x.1) (λ xs. (length xs, xs))
