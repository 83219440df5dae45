-- Where there is no block, and which block of a copy is which.
use Rattle.std.proofs.Common.{◌≡◌, ℕ, zero, suc, ◌+◌, ◌<◌, ◌≤◌, List, [], ◌∷◌, length, get_or, Option, None, refl, ap, ◌∙◌, arith, length-append}
use Rattle.std.proofs.lemmas.Option.{slice_get_past}
use Rattle.dev_model.specs.Disk.{Disk, as_read, block_at, sizes_of}
use Rattle.vol_types.specs.declared.pointers.Place.{Place}
use Rattle.node_store.specs.declared.opening.OpenBlock.{OpenBlock}
use Rattle.node_store.specs.Copies.{Reading, block_in, copy_at, shown_at, shown_below}
use Rattle.node_store.proofs.Seen.{pushed}

-- Past the size of its device a place has no block.
pub no_block : (disks : List Disk) (dev block : ℕ) → get_or (sizes_of disks) dev 0 ≤ block → block_at (as_read disks) dev block ≡ None
no_block [] zero block past = refl
no_block [] (suc dev) block past = refl
no_block (disk ∷ disks) zero block past = slice_get_past disk.blocks block past
no_block (disk ∷ disks) (suc dev) block past = no_block disks dev block past

pub length-shown_below : (read : Reading) (place : Place) (n : ℕ) → length (shown_below read place n) ≡ n
length-shown_below read place zero = refl
length-shown_below read place (suc n) = length-append (shown_below read place n) (shown_at read place n ∷ []) ∙ ap (λ k. k + 1) (length-shown_below read place n) ∙ (let e : n + 1 ≡ suc n = omega arith in e)

-- Block k of what the first so many blocks show is what block k shows.
pub block_in-shown_below : (read : Reading) (place : Place) (n k : ℕ) → k < n → block_in (shown_below read place n) k ≡ shown_at read place k
block_in-shown_below read place zero k lt = absurd (omega (arith, lt))
block_in-shown_below read place (suc n) k lt =
    let all = shown_below read place n in
    let count = length-shown_below read place n in
    pushed (λ a b. b ≡ shown_at read place k) all all (shown_at read place n) (shown_at read place n) k refl
    (λ before. block_in-shown_below read place n k (omega (arith, before, count)))
    (λ here. ap (shown_at read place) (let e : n ≡ k = omega (arith, here, count) in e))
    (λ behind. absurd (omega (arith, behind, count, lt)))

pub block_in-past : (copy : List (Option OpenBlock)) (k : ℕ) → length copy ≤ k → block_in copy k ≡ None
block_in-past [] k past = refl
block_in-past (b ∷ copy) zero past = absurd (omega (arith, past))
block_in-past (b ∷ copy) (suc k) past = block_in-past copy k (omega (arith, past))

pub block_in-copy_at : (read : Reading) (place : Place) (k : ℕ) → k < 16 → block_in (copy_at read place) k ≡ shown_at read place k
unfolding copy_at
block_in-copy_at read place k lt = block_in-shown_below read place 16 k lt

pub behind-copy_at : (read : Reading) (place : Place) (k : ℕ) → 16 ≤ k → block_in (copy_at read place) k ≡ None
unfolding copy_at
behind-copy_at read place k past = block_in-past (shown_below read place 16) k (omega (arith, past, length-shown_below read place 16))
