-- A block that was made of what it showed and of bytes that are written is the block of the file with these.
use Rattle.std.proofs.Common.{◌≡◌, ℕ, ◌+◌, ◌-◌, ◌*◌, ◌/◌, ◌%◌, ◌<◌, ◌≤◌, Bool, true, false, cond, Option, Some, None, List, [], length, map, max, refl, sym, ap, ◌∙◌, inl, inr, arith}
use Rattle.std.specs.Prelude.{◌⊎◌, ◌&&◌, is_some, nat_le, nat_lt, slice_index, unwrap_or}
use Rattle.std.specs.List.{range_with_len}
use Rattle.std.proofs.lemmas.Bool.{true≢false}
use Rattle.std.proofs.lemmas.Bool.Decides.{nat_tests}
use Rattle.std.proofs.lemmas.List.{ext_get_or}
use Rattle.std.proofs.lemmas.List.FromFn.{get_or-map-range_with_len, length-map-range_with_len}
use Rattle.vol_types.specs.KeyMaps.{KeyMap}
use Rattle.vol_types.specs.Limits.{block_size}
use Rattle.vol_types.specs.declared.keys.Key.{Key}
use Rattle.key_meaning.specs.Blocks.{Block}
use Rattle.key_meaning.specs.Forest.{Read, byte_at, byte_in, bytes_in, content_of}
use Rattle.extent_ops.specs.Content.{given_by}
use Rattle.file_plan.specs.Content.{byte_from, written_over}
use Rattle.file_plan.specs.Writes.{GiveAfter, block_after, byte_after, byte_over, is_over, written}
use Rattle.file_plan.proofs.Bytes.{LiesIn, byte_below, byte_past, lies_in, same_bytes}
use Rattle.file_plan.proofs.Fresh.{lt_or_le}

-- A byte that isn't written is left of the block.
left : (offset n start i : ℕ) → (nat_le offset i && nat_lt i (offset + n)) ≡ false → start ≤ i → i < start + 4096 → (start < offset) ⊎ (offset + n < start + 4096)
left offset n start i none le lt = by (lt_or_le start offset)
  where
    over : (offset n i : ℕ) → offset ≤ i → (nat_le offset i && nat_lt i (offset + n)) ≡ false → offset + n ≤ i
    over offset n i le none = grind (arith, nat_tests)

    by : (start < offset) ⊎ (offset ≤ start) → (start < offset) ⊎ (offset + n < start + 4096)
    by (inl is) = inl is
    by (inr ge) = inr (let past = over offset n i (omega (arith, ge, le)) none in omega (arith, past, lt))

-- No bytes are zeros.
or_none : (o : Option (List ℕ)) (k : ℕ) → slice_index (unwrap_or o []) k ≡ byte_at o k
or_none None k = refl
or_none (Some bytes) k = refl

module _ (keys : KeyMap) (read : Read) (id number size block offset : ℕ) (bytes base : List ℕ) (shown : (block * block_size < offset) ⊎ (offset + length bytes < block * block_size + block_size) → base ≡ unwrap_or (bytes_in keys read id number block) []) where
  below_size : (i : ℕ) → i < size → nat_lt i size ≡ true
  below_size i lt = grind (arith, nat_tests)

  past_size : (i : ℕ) → size ≤ i → nat_lt i size ≡ false
  past_size i le = grind (arith, nat_tests)

  each_byte : (i : ℕ) → block * block_size ≤ i → i < block * block_size + block_size → byte_over base size (block * block_size) offset bytes i ≡ byte_after offset bytes (content_of keys read id number size) i
  each_byte i le lt = by (is_over offset bytes i) refl
    where
      old_byte : (is_over offset bytes i) ≡ false → (i < size) ⊎ (size ≤ i) → cond (nat_lt i size) (slice_index base (i - block * block_size)) 0 ≡ slice_index (content_of keys read id number size) i
      old_byte none (inl below) =
          ap (λ b. cond b (slice_index base (i - block * block_size)) 0) (below_size i below)
          ∙ ap (λ (b : List ℕ). slice_index b (i - block * block_size)) (shown (left offset (length bytes) (block * block_size) i none le lt)) ∙ or_none (bytes_in keys read id number block) (i - block * block_size)
          ∙ (let here : LiesIn i = lies_in i in let at = here.is in let under = here.below in
          let same : block ≡ i / block_size = omega (arith, at, under, le, lt) in let inside : i - block * block_size ≡ i % block_size = omega (arith, at, same) in
          (λ j. byte_at (bytes_in keys read id number (same j)) (inside j)))
          ∙ sym (byte_below keys read id number size i below)
      old_byte none (inr past) = ap (λ b. cond b (slice_index base (i - block * block_size)) 0) (past_size i past) ∙ sym (byte_past keys read id number size i past)

      by : (b : Bool) → is_over offset bytes i ≡ b
          → cond (is_over offset bytes i) (slice_index bytes (i - offset)) (cond (nat_lt i size) (slice_index base (i - block * block_size)) 0) ≡ cond (is_over offset bytes i) (slice_index bytes (i - offset)) (slice_index (content_of keys read id number size) i)
      by true is = ap (λ b. cond b (slice_index bytes (i - offset)) (cond (nat_lt i size) (slice_index base (i - block * block_size)) 0)) is ∙ ap (λ b. cond b (slice_index bytes (i - offset)) (slice_index (content_of keys read id number size) i)) (sym is)
      by false is = ap (λ b. cond b (slice_index bytes (i - offset)) (cond (nat_lt i size) (slice_index base (i - block * block_size)) 0)) is ∙ old_byte is (lt_or_le i size) ∙ ap (λ b. cond b (slice_index bytes (i - offset)) (slice_index (content_of keys read id number size) i)) (sym is)

  pub overlaid_is : map (byte_over base size (block * block_size) offset bytes) (range_with_len (block * block_size) block_size) ≡ block_after offset bytes (content_of keys read id number size) block
  overlaid_is =
      let f = byte_over base size (block * block_size) offset bytes in
      let g = byte_after offset bytes (content_of keys read id number size) in
      ext_get_or 0 (map f (range_with_len (block * block_size) block_size)) (map g (range_with_len (block * block_size) block_size))
      (length-map-range_with_len f (block * block_size) block_size ∙ sym (length-map-range_with_len g (block * block_size) block_size))
      (λ i lt. let below : i < block_size = (let long = length-map-range_with_len f (block * block_size) block_size in omega (arith, long, lt)) in
      get_or-map-range_with_len f (block * block_size) block_size i (block * block_size + i) 0 below refl
      ∙ each_byte (block * block_size + i) (omega arith) (omega (arith, below))
      ∙ sym (get_or-map-range_with_len g (block * block_size) block_size i (block * block_size + i) 0 below refl))

-- Where extents give the bytes after a write, they are written over the others.
module _ (keys : KeyMap) (read : Read) (id number size offset : ℕ) (bytes : List ℕ) (extents : List Key) (after : GiveAfter read extents offset bytes (content_of keys read id number size)) where
  abbrev old : List ℕ
  old = content_of keys read id number size

  after_each : (i : ℕ) → byte_from read old i (given_by extents (i / block_size)) ≡ byte_after offset bytes old i
  after_each i = by (given_by extents (i / block_size)) refl
    where
      not_over : given_by extents (i / block_size) ≡ None → (b : Bool) → is_over offset bytes i ≡ b → slice_index old i ≡ cond (is_over offset bytes i) (slice_index bytes (i - offset)) (slice_index old i)
      not_over none true is = absurd (true≢false (sym (after.all i is) ∙ ap is_some none))
      not_over none false is = ap (λ b. cond b (slice_index bytes (i - offset)) (slice_index old i)) (sym is)

      here : LiesIn i
      here = lies_in i

      by : (g : Option (Option Block)) → given_by extents (i / block_size) ≡ g → byte_from read old i g ≡ byte_after offset bytes old i
      by None is = not_over is (is_over offset bytes i) refl
      by (Some shown) is = ap (λ o. byte_at o (i % block_size)) (after.given (i / block_size) shown is)
          ∙ get_or-map-range_with_len (byte_after offset bytes old) (i / block_size * block_size) block_size (i % block_size) i 0 here.below here.is

  pub is_written : written_over read extents old (max size (offset + length bytes)) ≡ written offset bytes old
  is_written =
      same_bytes (λ i. byte_from read old i (given_by extents (i / block_size))) (byte_after offset bytes old) (max size (offset + length bytes)) (λ i _. after_each i)
      ∙ ap (λ n. map (byte_after offset bytes old) (range_with_len 0 (max n (offset + length bytes)))) (sym (length-map-range_with_len (byte_in keys read id number) 0 size))
