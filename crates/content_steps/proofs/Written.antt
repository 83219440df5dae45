-- Bytes after a write and a truncation, place by place and as the plain forest has them.
use Rattle.std.proofs.Common.{◌≡◌, ℕ, ◌+◌, ◌-◌, ◌*◌, ◌<◌, ◌≤◌, Bool, true, false, cond, List, ◌++◌, length, map, take, drop, replicate, min, refl, sym, ap, ◌∙◌, inl, inr, arith, append_assoc}
use Rattle.std.specs.Prelude.{◌⊎◌, ◌&&◌, max, nat_le, nat_lt, slice_index}
use Rattle.std.specs.List.{range_with_len}
use Rattle.std.proofs.lemmas.Bool.Decides.{nat_tests}
use Rattle.std.proofs.lemmas.List.{ext_get_or, get_or-append_right, get_or-drop, get_or-replicate, get_or-take, get_or_append_left, get_or_past, length-append, length-drop, length-replicate, length-take}
use Rattle.std.proofs.lemmas.List.FromFn.{get_or-map-range_with_len, length-map-range_with_len}
use Rattle.file_plan.specs.Content.{resized as resized_bytes}
use Rattle.file_plan.specs.Sizes.{blocks_up_to, cut_size as size_of_cut}
use Rattle.file_plan.specs.Writes.{byte_after, written}
use Rattle.forest_ops.specs.Content.{blocks_of, cut_size, put_at, resized}

-- one number is below another, or not
below_or_not : (m n : ℕ) → (m < n) ⊎ (n ≤ m)
below_or_not m n = by (nat_lt m n) refl
  where
    by : (b : Bool) → nat_lt m n ≡ b → (m < n) ⊎ (n ≤ m)
    by true is = inl (grind (arith, nat_tests))
    by false is = inr (grind (arith, nat_tests))

zeros : (count k : ℕ) → slice_index (replicate count 0) k ≡ 0
zeros count k = by (below_or_not k count)
  where
    by : (k < count) ⊎ (count ≤ k) → slice_index (replicate count 0) k ≡ 0
    by (inl below) = get_or-replicate count k 0 0 below
    by (inr le) = get_or_past (replicate count 0) k 0 (let long = length-replicate {A = ℕ} count 0 in omega (arith, long, le))

-- A file that got a size has it,
resized_long : (size : ℕ) (old : List ℕ) → length (resized size old) ≡ size
resized_long size old =
    let both = length-append (take size old) (replicate (size - length old) 0) in
    let cut = length-take size old in
    let more = length-replicate {A = ℕ} (size - length old) 0 in
    omega (arith, both, cut, more)

-- and its bytes up to it are those that it had, and zeros behind the old end.
resized_byte : (size i : ℕ) (old : List ℕ) → i < size → slice_index (resized size old) i ≡ slice_index old i
resized_byte size i old below = by (below_or_not i (length old))
  where
    long : length (take size old) ≡ min size (length old)
    long = length-take size old

    by : (i < length old) ⊎ (length old ≤ i) → slice_index (resized size old) i ≡ slice_index old i
    by (inl within) = get_or_append_left (take size old) (replicate (size - length old) 0) 0 i (omega (arith, long, below, within)) ∙ get_or-take size old i 0 below
    by (inr past) = get_or-append_right (take size old) (replicate (size - length old) 0) (length (take size old)) i 0 refl (omega (arith, long, past))
        ∙ zeros (size - length old) (i - length (take size old)) ∙ sym (get_or_past old i 0 past)

-- So it is place by place.
pub resized_same : (size : ℕ) (old : List ℕ) → resized_bytes old size ≡ resized size old
resized_same size old = ext_get_or 0 (map (slice_index old) (range_with_len 0 size)) (resized size old)
    (length-map-range_with_len (slice_index old) 0 size ∙ sym (resized_long size old))
    (λ i lt. let below : i < size = (let long = length-map-range_with_len (slice_index old) 0 size in omega (arith, long, lt)) in
    get_or-map-range_with_len (slice_index old) 0 size i i 0 below (omega arith) ∙ sym (resized_byte size i old below))

module _ (offset : ℕ) (bytes old : List ℕ) where
  abbrev rest : List ℕ
  rest = drop (offset + length bytes) old

  abbrev size : ℕ
  size = max (length old) (offset + length bytes)

  in_three : put_at offset bytes old ≡ resized offset old ++ (bytes ++ rest)
  in_three = append_assoc (resized offset old) bytes rest

  put_long : length (put_at offset bytes old) ≡ size
  put_long =
      let same = ap (λ (xs : List ℕ). length xs) in_three in
      let whole = length-append (resized offset old) (bytes ++ rest) in
      let first = resized_long offset old in
      let later = length-append bytes rest in
      let last = length-drop (offset + length bytes) old in
      omega (arith, same, whole, first, later, last)

  not_before : (i n : ℕ) → i < offset → (nat_le offset i && nat_lt i (offset + n)) ≡ false
  not_before i n lt = grind (arith, nat_tests)

  over : (i n : ℕ) → offset ≤ i → i < offset + n → (nat_le offset i && nat_lt i (offset + n)) ≡ true
  over i n from to = grind (arith, nat_tests)

  not_behind : (i n : ℕ) → offset + n ≤ i → (nat_le offset i && nat_lt i (offset + n)) ≡ false
  not_behind i n from = grind (arith, nat_tests)

  put_byte : (i : ℕ) → byte_after offset bytes old i ≡ slice_index (put_at offset bytes old) i
  put_byte i = by (below_or_not i offset) (below_or_not i (offset + length bytes))
    where
      behind : offset ≤ i → slice_index (put_at offset bytes old) i ≡ slice_index (bytes ++ rest) (i - offset)
      behind from = ap (λ (xs : List ℕ). slice_index xs i) in_three ∙ get_or-append_right (resized offset old) (bytes ++ rest) offset i 0 (resized_long offset old) from

      by : (i < offset) ⊎ (offset ≤ i) → (i < offset + length bytes) ⊎ (offset + length bytes ≤ i) → byte_after offset bytes old i ≡ slice_index (put_at offset bytes old) i
      by (inl before) other = ap (λ b. cond b (slice_index bytes (i - offset)) (slice_index old i)) (not_before i (length bytes) before)
          ∙ sym (ap (λ (xs : List ℕ). slice_index xs i) in_three ∙ get_or_append_left (resized offset old) (bytes ++ rest) 0 i (let long = resized_long offset old in omega (arith, long, before)) ∙ resized_byte offset i old before)
      by (inr from) (inl to) = ap (λ b. cond b (slice_index bytes (i - offset)) (slice_index old i)) (over i (length bytes) from to)
          ∙ sym (behind from ∙ get_or_append_left bytes rest 0 (i - offset) (omega (arith, from, to)))
      by (inr from) (inr past) = ap (λ b. cond b (slice_index bytes (i - offset)) (slice_index old i)) (not_behind i (length bytes) past)
          ∙ sym (behind from ∙ get_or-append_right bytes rest (length bytes) (i - offset) 0 refl (omega (arith, past)) ∙ get_or-drop (offset + length bytes) old (i - offset - length bytes) 0
          ∙ ap (slice_index old) (let at : offset + length bytes + (i - offset - length bytes) ≡ i = omega (arith, past) in at))

  -- What is written is what is put.
  pub written_same : written offset bytes old ≡ put_at offset bytes old
  written_same = ext_get_or 0 (written offset bytes old) (put_at offset bytes old)
      (length-map-range_with_len (byte_after offset bytes old) 0 size ∙ sym put_long)
      (λ i lt. let below : i < size = (let long = length-map-range_with_len (byte_after offset bytes old) 0 size in omega (arith, long, lt)) in
      get_or-map-range_with_len (byte_after offset bytes old) 0 size i i 0 below (omega arith) ∙ put_byte i)

blocks_same : (size : ℕ) → blocks_up_to size ≡ blocks_of size
blocks_same size = omega arith

-- A truncation comes to the same size.
pub cut_same : (size wanted : ℕ) → size_of_cut size wanted ≡ cut_size size wanted
cut_same size wanted = (λ i. cond (nat_le (blocks_same size i) (blocks_same wanted i + 256)) wanted ((blocks_same size i - 256) * 4096)) ∙ ap (λ b. cond b wanted ((blocks_of size - 256) * 4096)) (tests (blocks_of size) (blocks_of wanted))
  where
    tests : (a b : ℕ) → nat_le a (b + 256) ≡ nat_le (a - b) 256
    tests a b = grind (arith, nat_tests)
