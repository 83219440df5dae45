-- Bytes of files, by their place.
use Rattle.std.proofs.Common.{◌≡◌, ℕ, ◌+◌, ◌-◌, ◌*◌, ◌/◌, ◌%◌, ◌<◌, ◌≤◌, List, length, map, take, replicate, min, refl, sym, ◌∙◌, inl, inr, arith}
use Rattle.std.specs.Prelude.{◌⊎◌, slice_index}
use Rattle.std.specs.List.{range_with_len}
use Rattle.std.proofs.Math.Nat.{mod-lt}
use Rattle.std.proofs.lemmas.Grind.{div_ceil_times}
use Rattle.std.proofs.lemmas.List.{ext_get_or, get_or-append_right, get_or-replicate, get_or-take, get_or_append_left, get_or_past, length-replicate, length-take}
use Rattle.std.proofs.lemmas.List.FromFn.{get_or-map-range_with_len, length-map-range_with_len}
use Rattle.std.proofs.lemmas.Nat.{div-add-mod'}
use Rattle.vol_types.specs.KeyMaps.{KeyMap}
use Rattle.vol_types.specs.Limits.{block_size}
use Rattle.key_meaning.specs.Forest.{Read, byte_in, content_of}
use Rattle.file_plan.specs.Ends.{zeroed}
use Rattle.file_plan.specs.Sizes.{blocks_up_to}
use Rattle.file_plan.proofs.Fresh.{lt_or_le}

-- Functions that agree up to a number have the same values there.
pub same_bytes : (f g : ℕ → ℕ) (count : ℕ) → ((i : ℕ) → i < count → f i ≡ g i) → map f (range_with_len 0 count) ≡ map g (range_with_len 0 count)
same_bytes f g count same = ext_get_or 0 (map f (range_with_len 0 count)) (map g (range_with_len 0 count))
    (length-map-range_with_len f 0 count ∙ sym (length-map-range_with_len g 0 count))
    (λ i lt. let below : i < count = (let long = length-map-range_with_len f 0 count in omega (arith, long, lt)) in
    get_or-map-range_with_len f 0 count i i 0 below (omega arith) ∙ same i below ∙ sym (get_or-map-range_with_len g 0 count i i 0 below (omega arith)))

-- A byte of a file, up to its end and behind it.
pub byte_below : (keys : KeyMap) (read : Read) (id number size i : ℕ) → i < size → slice_index (content_of keys read id number size) i ≡ byte_in keys read id number i
byte_below keys read id number size i lt = get_or-map-range_with_len (byte_in keys read id number) 0 size i i 0 lt (omega arith)

pub byte_past : (keys : KeyMap) (read : Read) (id number size i : ℕ) → size ≤ i → slice_index (content_of keys read id number size) i ≡ 0
byte_past keys read id number size i le = get_or_past (content_of keys read id number size) i 0 (let long = length-map-range_with_len (byte_in keys read id number) 0 size in omega (arith, long, le))

-- Zeros, as far as there are some and behind them.
zeros : (count k : ℕ) → slice_index (replicate count 0) k ≡ 0
zeros count k = by (lt_or_le k count)
  where
    by : (k < count) ⊎ (count ≤ k) → slice_index (replicate count 0) k ≡ 0
    by (inl below) = get_or-replicate count k 0 0 below
    by (inr le) = get_or_past (replicate count 0) k 0 (let long = length-replicate {A = ℕ} count 0 in omega (arith, long, le))

-- Zeros from a byte on: the bytes before it are as they were.
pub zero_from : (from i : ℕ) (bytes : List ℕ) → from ≤ i → slice_index (zeroed from bytes) i ≡ 0
zero_from from i bytes le =
    get_or-append_right (take from bytes) (replicate (block_size - from) 0) (length (take from bytes)) i 0 refl (let long = length-take from bytes in omega (arith, long, le))
    ∙ zeros (block_size - from) (i - length (take from bytes))

pub same_below : (from i : ℕ) (bytes : List ℕ) → i < from → slice_index (zeroed from bytes) i ≡ slice_index bytes i
same_below from i bytes lt = by (lt_or_le i (length bytes))
  where
    long : length (take from bytes) ≡ min from (length bytes)
    long = length-take from bytes

    by : (i < length bytes) ⊎ (length bytes ≤ i) → slice_index (zeroed from bytes) i ≡ slice_index bytes i
    by (inl within) = get_or_append_left (take from bytes) (replicate (block_size - from) 0) 0 i (omega (arith, long, lt, within)) ∙ get_or-take from bytes i 0 lt
    by (inr past) = get_or-append_right (take from bytes) (replicate (block_size - from) 0) (length (take from bytes)) i 0 refl (omega (arith, long, past))
        ∙ zeros (block_size - from) (i - length (take from bytes)) ∙ sym (get_or_past bytes i 0 past)

-- Where a number lies among blocks.
pub record LiesIn (i : ℕ) : Type 0 where
  pub is : i / block_size * block_size + i % block_size ≡ i
  pub below : i % block_size < block_size

pub lies_in : (i : ℕ) → LiesIn i
lies_in i = record { is = div-add-mod' i block_size; below = mod-lt i (omega arith) }

-- The blocks of a size reach up to it, and no block further.
pub blocks_reach : (size : ℕ) → (size ≤ blocks_up_to size * block_size) × (blocks_up_to size * block_size < size + block_size)
blocks_reach size = div_ceil_times size block_size (omega arith)
