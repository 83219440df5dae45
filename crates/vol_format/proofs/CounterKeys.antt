-- The keys of the counters, one for each number.
use Rattle.std.proofs.Common.{◌≡◌, ℕ, map, refl}
use Rattle.std.specs.List.{range_with_len}
use Rattle.vol_types.specs.KeyMaps.{key_of, keys_in}
use Rattle.vol_types.specs.declared.keys.Key.{Key}
use Rattle.vol_types.specs.declared.values.Value.TheVariants as values
use Rattle.key_meaning.specs.Fresh.{at_offset, fresh_keys}
use Rattle.vol_format.specs.Fresh.{count_at}

-- the key of a counter
abbrev pub counter_key : ℕ → Key
counter_key counter = key_of (at_offset counter (values.Counter (count_at counter)))

-- All of them are those of the fresh keys.
pub all_counters : map counter_key (range_with_len 0 17) ≡ keys_in fresh_keys.counters
all_counters = refl
