-- What a node in memory keeps beside its values: how many bytes they take.
use Rattle.std.specs.Prelude.{◌≡◌, ℕ, Option, Some, None, sum_by}
use Rattle.std.specs.Map.{values_of}
use Rattle.vol_types.specs.KeyMaps.{Entries, keys_in}
use Rattle.vol_types.specs.Lengths.{key_length_of}
use Rattle.vol_types.specs.Sets.{set_length_of}
use Rattle.vol_types.specs.declared.values.Value.{Value}

-- the bytes of a value's key, or none where there is no value
abbrev pub length_of : Option Value → ℕ
length_of None = 0
length_of (Some value) = key_length_of (Some value)

-- the bytes of the entries' keys
abbrev pub lengths_of : Entries → ℕ
lengths_of entries = sum_by (λ value. key_length_of (Some value)) (values_of entries)

-- The bytes of a node's set are counted.
pub record IsCounted (entries : Entries) (bytes : ℕ) : Type 0 where
  pub total : bytes ≡ set_length_of (keys_in entries)
