-- An image with another block at one place.
use Rattle.std.proofs.Common.{◌≡◌, ℕ, zero, suc, ◌<◌, List, [], ◌∷◌, length, map, set, slice_get, Some, refl, ap, sym, arith}
use Rattle.std.proofs.lemmas.List.{length-set}
use Rattle.std.proofs.lemmas.Option.{none-some, slice_get_within}
use Rattle.dev_model.specs.CrashDisks.{slice_get-set_other}
use Rattle.dev_model.specs.Crashes.{IsAt}
use Rattle.dev_model.specs.Disk.{Image, block_at, changed}

-- the number of blocks of each device
abbrev pub sizes : Image → List ℕ
sizes image = map (λ blocks. length blocks) image

set_here : (blocks : List (List ℕ)) (block : ℕ) (bytes : List ℕ) → block < length blocks → slice_get (set blocks block bytes) block ≡ Some bytes
set_here [] block bytes within = absurd (omega (arith, within))
set_here (first ∷ blocks) zero bytes within = refl
set_here (first ∷ blocks) (suc block) bytes within = set_here blocks block bytes (omega (arith, within))

-- an image with another block at a place
abbrev pub with_block : ℕ → ℕ → List ℕ → Image → Image
with_block dev block bytes image = changed dev (λ blocks. set blocks block bytes) image

-- Its devices are as long.
pub sizes-with_block : (dev block : ℕ) (bytes : List ℕ) (image : Image) → sizes image ≡ sizes (with_block dev block bytes image)
sizes-with_block dev block bytes [] = refl
sizes-with_block zero block bytes (blocks ∷ image) = ap (λ n. n ∷ sizes image) (sym (length-set blocks block bytes))
sizes-with_block (suc dev) block bytes (blocks ∷ image) = ap (λ (ns : List ℕ). length blocks ∷ ns) (sizes-with_block dev block bytes image)

-- The block stands there, where some block did,
pub with_block_here : (image : Image) (dev block : ℕ) (bytes held : List ℕ) → block_at image dev block ≡ Some held → block_at (with_block dev block bytes image) dev block ≡ Some bytes
with_block_here [] dev block bytes held there = absurd (none-some held there)
with_block_here (blocks ∷ image) zero block bytes held there = set_here blocks block bytes (slice_get_within blocks block held there)
with_block_here (blocks ∷ image) (suc dev) block bytes held there = with_block_here image dev block bytes held there

-- and elsewhere what stood there before.
pub with_block_elsewhere : (dev block : ℕ) (bytes : List ℕ) (image : Image) (d b : ℕ) → ¬ IsAt dev block d b → block_at image d b ≡ block_at (with_block dev block bytes image) d b
with_block_elsewhere dev block bytes [] d b away = refl
with_block_elsewhere zero block bytes (blocks ∷ image) zero b away = sym (slice_get-set_other blocks block b bytes (λ same. away (refl, same)))
with_block_elsewhere zero block bytes (blocks ∷ image) (suc d) b away = refl
with_block_elsewhere (suc dev) block bytes (blocks ∷ image) zero b away = refl
with_block_elsewhere (suc dev) block bytes (blocks ∷ image) (suc d) b away = with_block_elsewhere dev block bytes image d b (λ at. away (ap suc at.0, at.1))
