-- What a key is on disk: its position, the number of its kind, and the fields of its value.
use Rattle.std.specs.Prelude.{⊤, ℕ, ◌-◌, List, [], ◌∷◌, length, Option, Some, None, Result, Ok, Err}
use Rattle.std.specs.List.{slice_get}
use Rattle.vol_types.specs.declared.keys.Key.{Key}
use Rattle.vol_types.specs.declared.positions.Pos.{Pos}
use Rattle.vol_types.specs.declared.values.Value.{Value}
use Rattle.vol_types.specs.declared.values.Value.TheVariants.{Inode, Names, Extent, Hole, White, Subs, Snap, Live, Back, Gone, Counter, Node}
use Rattle.vol_types.specs.Ranges.{IsKeyValue}
use Rattle.vol_types.specs.Values.{kind_of}
use Rattle.vol_types.specs.Widths.{PosFits, KeyValueFits}
use Rattle.key_codec.specs.declared.fault.KeyFault.{KeyFault}
use Rattle.key_codec.specs.declared.fault.KeyFault.TheVariants.{Kind}
use Rattle.key_codec.specs.declared.reading.KeyRead.{KeyRead}
use Rattle.key_codec.specs.Formats.{Format, ◌>>=◌, u8_byte, u64_le, mapped, followed, both}
use Rattle.key_codec.specs.Kinds as kinds

-- the number of a key's kind, 0 where it has no value
abbrev pub kind_number : Option Value → ℕ
kind_number None = 0
kind_number (Some value) = kind_of value

-- the bytes of a value's fields
unfoldable pub fields_of : Option Value → List ℕ
fields_of None = []
fields_of (Some (Inode inode)) = kinds.inode_fields.encode inode
fields_of (Some (Names links)) = kinds.names_fields.encode links
fields_of (Some (Extent extent)) = kinds.extent_fields.encode extent
fields_of (Some (Hole blocks)) = kinds.hole_fields.encode blocks
fields_of (Some White) = []
fields_of (Some (Subs subs)) = kinds.subs_fields.encode subs
fields_of (Some (Snap snap)) = kinds.snap_fields.encode snap
fields_of (Some (Live live)) = kinds.live_fields.encode live
fields_of (Some (Back extent)) = kinds.position.encode extent
fields_of (Some Gone) = []
fields_of (Some (Counter next)) = u64_le.encode next
fields_of (Some (Node node)) = kinds.node_fields.encode node

-- The value has a list.
abbrev pub HasList : Value → Type 0
HasList (Names links) = ⊤
HasList (Extent extent) = ⊤
HasList (Subs subs) = ⊤
HasList (Node node) = ⊤
HasList (Inode inode) = ⊥
HasList (Hole blocks) = ⊥
HasList White = ⊥
HasList (Snap snap) = ⊥
HasList (Live live) = ⊥
HasList (Back extent) = ⊥
HasList Gone = ⊥
HasList (Counter next) = ⊥

-- The value is an inode, a hole or a snapshot id.
abbrev pub IsRecord : Value → Type 0
IsRecord (Inode inode) = ⊤
IsRecord (Hole blocks) = ⊤
IsRecord (Snap snap) = ⊤
IsRecord (Names links) = ⊥
IsRecord (Extent extent) = ⊥
IsRecord White = ⊥
IsRecord (Subs subs) = ⊥
IsRecord (Live live) = ⊥
IsRecord (Back extent) = ⊥
IsRecord Gone = ⊥
IsRecord (Counter next) = ⊥
IsRecord (Node node) = ⊥

-- The key has a encoding: its position and the fields of its value have their widths, and are in range.
pub record IsKey (pos : Pos) (value : Option Value) : Type 0 where
  pub pos_fits : PosFits pos
  pub value_fits : KeyValueFits value
  pub in_range : IsKeyValue value

-- how the fields of a kind are read
abbrev pub FieldsReader : Type 0
FieldsReader = List ℕ → Result (Option Value × List ℕ) KeyFault

-- a kind without fields
abbrev pub without_fields : Option Value → FieldsReader
without_fields value bytes = Ok (value, bytes)

-- a kind whose fields have this format
abbrev pub with_fields : {A : Type 0} → Format A → (A → Value) → FieldsReader
with_fields format make bytes = do
  x ← format.read bytes
  Ok (Some (make x.0), x.1)

-- how the fields of each kind are read, from number 0 on
abbrev pub readers : List FieldsReader
readers =
    without_fields None
    ∷ with_fields kinds.inode_fields Inode
    ∷ with_fields kinds.names_fields Names
    ∷ with_fields kinds.extent_fields Extent
    ∷ with_fields kinds.hole_fields Hole
    ∷ without_fields (Some White)
    ∷ with_fields kinds.subs_fields Subs
    ∷ with_fields kinds.snap_fields Snap
    ∷ with_fields kinds.live_fields Live
    ∷ with_fields kinds.position Back
    ∷ without_fields (Some Gone)
    ∷ with_fields u64_le Counter
    ∷ with_fields kinds.node_fields Node
    ∷ []

-- The fields are read as those of the kind, if there is one of this number.
abbrev pub read_by : Option FieldsReader → ℕ → FieldsReader
read_by None kind bytes = Err (Kind kind)
read_by (Some reader) kind bytes = reader bytes

-- the fields of a kind, read off the start of the bytes
unfoldable pub read_fields : ℕ → FieldsReader
read_fields kind = read_by (slice_get readers kind) kind

-- the fields of the kind of this number
abbrev pub fields : ℕ → Format (Option Value)
fields kind = record { encode = fields_of; read = read_fields kind }

-- a key: its position, the number of its kind, and the fields of that kind
unfoldable pub key_format : Format Key
key_format = mapped (both kinds.position (followed u8_byte fields)) (λ x. record { pos = x.0; value = x.1.1 }) (λ key. (key.pos, (kind_number key.value, key.value)))

-- the one encoding of a key
abbrev pub encoding : Pos → Option Value → List ℕ
encoding pos value = key_format.encode (record { pos = pos; value = value })

-- the key at the start of the bytes with the number of its bytes, or the first fault
unfoldable pub key_in : List ℕ → Result KeyRead KeyFault
key_in bytes = do
  x ← key_format.read bytes
  Ok (record { pos = x.0.pos; value = x.0.value; used = length bytes - length x.1 })
