-- An image with another block at one place.
use Rattle.std.proofs.Common.{◌≡◌, ℕ, zero, suc, ◌<◌, ◌≤◌, List, [], ◌∷◌, length, set, slice_get, Some, None, refl, ap, sym, arith}
use Rattle.std.proofs.lemmas.List.{length-set}
use Rattle.std.proofs.lemmas.Option.{none-some, slice_get_past, slice_get_within}
use Rattle.dev_model.specs.CrashDisks.{slice_get-set_other}
use Rattle.dev_model.specs.Disk.{Image, block_at, changed}
use Rattle.crash_safety.proofs.Images.{sizes}

set_here : (blocks : List (List ℕ)) (block : ℕ) (bytes : List ℕ) → block < length blocks → slice_get (set blocks block bytes) block ≡ Some bytes
set_here [] block bytes within = absurd (omega (arith, within))
set_here (first ∷ blocks) zero bytes within = refl
set_here (first ∷ blocks) (suc block) bytes within = set_here blocks block bytes (omega (arith, within))

abbrev head_of : List ℕ → ℕ
head_of [] = 0
head_of (x ∷ xs) = x

abbrev tail_of : List ℕ → List ℕ
tail_of [] = []
tail_of (x ∷ xs) = xs

-- an image with another block at a place
abbrev pub with_block : ℕ → ℕ → List ℕ → Image → Image
with_block dev block bytes image = changed dev (λ blocks. set blocks block bytes) image

pub sizes_with_block : (dev block : ℕ) (bytes : List ℕ) (image : Image) → sizes image ≡ sizes (with_block dev block bytes image)
sizes_with_block dev block bytes [] = refl
sizes_with_block zero block bytes (blocks ∷ image) = ap (λ n. n ∷ sizes image) (sym (length-set blocks block bytes))
sizes_with_block (suc dev) block bytes (blocks ∷ image) = ap (λ (ns : List ℕ). length blocks ∷ ns) (sizes_with_block dev block bytes image)

-- It stands there, where another image of the same sizes has some block there.
pub with_block_at : (one other : Image) (dev block : ℕ) (bytes held : List ℕ) → sizes one ≡ sizes other → block_at other dev block ≡ Some held → block_at (with_block dev block bytes one) dev block ≡ Some bytes
with_block_at one [] dev block bytes held same there = absurd (none-some held there)
with_block_at [] (b ∷ other) dev block bytes held same there = absurd cc
with_block_at (a ∷ one) (b ∷ other) zero block bytes held same there =
    let within = slice_get_within b block held there in
    let long : length a ≡ length b = ap head_of same in
    set_here a block bytes (omega (arith, within, long))
with_block_at (a ∷ one) (b ∷ other) (suc dev) block bytes held same there = with_block_at one other dev block bytes held (ap tail_of same) there

pub with_block_elsewhere : (dev block : ℕ) (bytes : List ℕ) (image : Image) (d b : ℕ) → ¬ ((d ≡ dev) × (b ≡ block)) → block_at image d b ≡ block_at (with_block dev block bytes image) d b
with_block_elsewhere dev block bytes [] d b away = refl
with_block_elsewhere zero block bytes (blocks ∷ image) zero b away = sym (slice_get-set_other blocks block b bytes (λ same. away (refl, same)))
with_block_elsewhere zero block bytes (blocks ∷ image) (suc d) b away = refl
with_block_elsewhere (suc dev) block bytes (blocks ∷ image) zero b away = refl
with_block_elsewhere (suc dev) block bytes (blocks ∷ image) (suc d) b away = with_block_elsewhere dev block bytes image d b (λ at. away (ap suc at.0, at.1))

-- Where an image has no block none of the same sizes has one.
pub no_block : (one other : Image) (dev block : ℕ) → sizes one ≡ sizes other → block_at other dev block ≡ None → block_at one dev block ≡ None
no_block [] other dev block same none = refl
no_block (a ∷ one) [] dev block same none = absurd cc
no_block (a ∷ one) (b ∷ other) zero block same none =
    let long : length a ≡ length b = ap head_of same in
    slice_get_past a block (let past = past_end b block none in omega (arith, past, long))
  where
    past_end : (blocks : List (List ℕ)) (block : ℕ) → slice_get blocks block ≡ None → length blocks ≤ block
    past_end [] block none = omega arith
    past_end (x ∷ blocks) zero none = absurd (none-some x (sym none))
    past_end (x ∷ blocks) (suc block) none = let past = past_end blocks block none in omega (arith, past)
no_block (a ∷ one) (b ∷ other) (suc dev) block same none = no_block one other dev block (ap tail_of same) none
