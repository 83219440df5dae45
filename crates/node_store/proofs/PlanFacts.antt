-- The blocks of a plan, by the length of the set.
use Rattle.std.proofs.Common.{◌≡◌, ℕ, zero, suc, ◌+◌, ◌-◌, ◌*◌, ◌/◌, ◌<◌, ◌≤◌, List, ◌++◌, length, replicate, refl, ap, arith}
use Rattle.std.proofs.lemmas.List.{length-append, length-replicate}
use Rattle.node_store.specs.Plans.{blocks_for}

-- A set isn't empty, so it takes some block,
pub some_block : (payload : List ℕ) (total : ℕ) → length payload ≡ 56 + total → 0 < blocks_for payload
some_block payload total is = omega (arith, is)

-- and where it fits its bucket it has so many bytes at most.
pub few_bytes : (payload : List ℕ) (block long : ℕ) → length payload ≡ long → block + (long + 3967) / 3968 ≤ 16 → length payload ≤ 63488
few_bytes payload block long is fits = omega (arith, is, fits)

pub same_fit : (payload : List ℕ) (block long : ℕ) → length payload ≡ long → block + (long + 3967) / 3968 ≤ 16 → block + blocks_for payload ≤ 16
same_fit payload block long is fits = omega (arith, is, fits)

-- The blocks of a new node fill its bucket, and those of a further set are its own.
module _ (block n : ℕ) (sealed all : List ℕ) (size : length sealed ≡ 4096 * n) (fits : block + n ≤ 16) where
  new_length : all ≡ sealed ++ replicate (65536 - length sealed) 0 → length all ≡ 65536
  new_length is = omega (arith, ap length is, length-append sealed (replicate (65536 - length sealed) 0), length-replicate {A = ℕ} (65536 - length sealed) 0, size, fits)

  pub blocks_new : all ≡ sealed ++ replicate (65536 - length sealed) 0 → length all / 4096 ≡ 16
  blocks_new is = omega (arith, new_length is)

  pub blocks_further : all ≡ sealed → length all / 4096 ≡ n
  blocks_further is = omega (arith, ap length is, size)

pub blocks_whole : (block n : ℕ) (sealed all : List ℕ) → length sealed ≡ 4096 * n → block + n ≤ 16 → (block ≡ 0 → all ≡ sealed ++ replicate (65536 - length sealed) 0) → (0 < block → all ≡ sealed)
    → length all ≡ 4096 * (length all / 4096)
blocks_whole zero n sealed all size fits new further = omega (arith, new_length zero n sealed all size fits (new refl))
blocks_whole (suc before) n sealed all size fits new further = omega (arith, ap length (further (omega arith)), size)

pub blocks_end : (block n : ℕ) (sealed all : List ℕ) → length sealed ≡ 4096 * n → block + n ≤ 16 → (block ≡ 0 → all ≡ sealed ++ replicate (65536 - length sealed) 0) → (0 < block → all ≡ sealed)
    → block + length all / 4096 ≤ 16
blocks_end zero n sealed all size fits new further = omega (arith, new_length zero n sealed all size fits (new refl))
blocks_end (suc before) n sealed all size fits new further = omega (arith, blocks_further (suc before) n sealed all size fits (further (omega arith)), fits)
