-- What a set of a node is on disk: which keys of the node's range it holds, and how they are encoded.
use Rattle.std.specs.Prelude.{ℕ, ◌<◌, ◌^◌, Bool, List, [], ◌∷◌, length, map, All, Option, option_copied, option_map, Result, Ok, Err, ◌&&◌}
use Rattle.std.specs.Ordering.{is_le}
use Rattle.vol_types.specs.declared.keys.Key.{Key}
use Rattle.vol_types.specs.declared.positions.Pos.{Pos}
use Rattle.vol_types.specs.Positions.{pos_cmp, IsWithin}
use Rattle.vol_types.specs.Ranges.{Rise, IsKeyValue}
use Rattle.vol_types.specs.Widths.{PosFits, KeyValueFits}
use Rattle.key_codec.specs.Formats.{FormatOf, ◌>>=◌, mapped, checked, followed, both, is_above}
use Rattle.record_codec.specs.declared.fault.RecordFault.{RecordFault}
use Rattle.record_codec.specs.declared.fault.RecordFault.TheVariants.{Order, Long}
use Rattle.record_codec.specs.declared.sets.KeyRef.{KeyRef}
use Rattle.record_codec.specs.declared.sets.SetHead.{SetHead}
use Rattle.record_codec.specs.declared.sets.SetRecord.{SetRecord}
use Rattle.record_codec.specs.Fields.{byte, u64_field, position, zeros, btree, value_in, listing}
use Rattle.vol_types.specs.Standing.{Stands}

-- The keys of a set rise, and each is covered by the node, may stand there, and has a value in range.
pub record IsSetInRange (set : SetRecord) : Type 0 where
  pub few : length set.keys < 2 ^ 32
  pub rise : Rise pos_cmp (map (λ key. key.pos) set.keys)
  pub covered : All (λ key. IsWithin set.least set.greatest key.pos) set.keys
  pub stand : All (λ key. Stands set.btree set.level key.value) set.keys
  pub in_range : All (λ key. IsKeyValue key.value) set.keys

-- The parts of the key have their widths.
pub record KeyFits (key : Key) : Type 0 where
  pub pos : PosFits key.pos
  pub value : KeyValueFits key.value

-- The parts of what stands before the keys have their widths.
pub record HeadFits (head : SetHead) : Type 0 where
  pub birth : head.birth < 2 ^ 64
  pub level : head.level < 2 ^ 8
  pub least : PosFits head.least
  pub greatest : PosFits head.greatest

-- what stands before the keys of a set
abbrev pub head_of : SetRecord → SetHead
head_of set = record { birth = set.birth; btree = set.btree; level = set.level; least = set.least; greatest = set.greatest }

-- a key that is lent
abbrev pub lent_key : KeyRef → Key
lent_key key = record { pos = key.pos.now; value = option_copied key.value }

-- the set of keys that are lent
abbrev pub lent_set : SetHead → List KeyRef → SetRecord
lent_set head keys = record { birth = head.birth; btree = head.btree; level = head.level; least = head.least; greatest = head.greatest; keys = map lent_key keys }

-- The parts of the set have their widths.
pub record SetFits (set : SetRecord) : Type 0 where
  pub head : HeadFits (head_of set)
  pub keys : All KeyFits set.keys

-- The set has a encoding.
pub record IsSet (set : SetRecord) : Type 0 where
  pub fits : SetFits set
  pub in_range : IsSetInRange set

-- a node's birth, its btree and its level, two zero bytes, and its least and greatest position
unfoldable pub set_head : FormatOf RecordFault SetHead
set_head = mapped (both u64_field (both btree (both byte (both zeros (both position position)))))
    (λ x. record { birth = x.0; btree = x.1.0; level = x.1.1.0; least = x.1.1.1.1.0; greatest = x.1.1.1.1.1 }) (λ h. (h.birth, (h.btree, (h.level, (tt, (h.least, h.greatest))))))

-- whether a position is above that of the key before it, if there was one, and is covered by the node
abbrev pub is_next : SetHead → Option Key → Pos → Bool
is_next head before pos = is_above pos_cmp (option_map (λ key. key.pos) before) pos && (is_le (pos_cmp head.least pos) && is_le (pos_cmp pos head.greatest))

-- a key of a set: its position, which is judged first, its kind, and the fields of that kind
unfoldable pub key_item : SetHead → Option Key → FormatOf RecordFault Key
key_item head before = mapped (both (checked position (is_next head before) Order) (value_in head.btree head.level)) (λ x. record { pos = x.0; value = x.1 }) (λ key. (key.pos, key.value))

-- a set: what the node is, the number of keys, and the keys
unfoldable pub set_format : FormatOf RecordFault SetRecord
set_format = mapped (followed set_head (λ head. listing (key_item head)))
    (λ x. record { birth = x.0.birth; btree = x.0.btree; level = x.0.level; least = x.0.least; greatest = x.0.greatest; keys = x.1 }) (λ set. (head_of set, set.keys))

-- what was read, if no bytes are left
abbrev pub all_read : {A : Type 0} → A × List ℕ → Result A RecordFault
all_read (x, []) = Ok x
all_read (x, b ∷ rest) = Err Long

-- the set that the bytes are, or the first fault
unfoldable pub set_in : List ℕ → Result SetRecord RecordFault
set_in bytes = do
  x ← set_format.read bytes
  all_read x
