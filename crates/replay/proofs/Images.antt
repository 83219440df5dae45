-- Images that hold the same at their places, or at all of them behind one.
use Rattle.std.proofs.Common.{◌≡◌, ℕ, zero, suc, ◌-◌, ◌<◌, ◌≤◌, ⊎_elim, List, [], ◌∷◌, length, map, slice_get, Some, refl, ap, ◌∙◌, sym, arith}
use Rattle.std.proofs.lemmas.Bool.{cases_lt}
use Rattle.std.proofs.lemmas.List.{length-map}
use Rattle.std.proofs.lemmas.Option.{none-some as none_some, same_Some, slice_get_past}
use Rattle.dev_model.specs.Disk.{Disk, Image, IsCrashImage, as_read, block_at, blocks_of}

-- Lists of which each place holds the same are the same.
same_from_places : (xs ys : List (List ℕ)) → ((n : ℕ) → slice_get xs n ≡ slice_get ys n) → xs ≡ ys
same_from_places [] [] each = refl
same_from_places [] (y ∷ ys) each = absurd (none_some y (each 0))
same_from_places (x ∷ xs) [] each = absurd (none_some x (sym (each 0)))
same_from_places (x ∷ xs) (y ∷ ys) each = ap (λ z. z ∷ xs) (same_Some x y (each 0)) ∙ ap (λ zs. y ∷ zs) (same_from_places xs ys (λ n. each (suc n)))

-- So are images of as many devices.
pub same_image : (one other : Image) → length one ≡ length other → ((d b : ℕ) → block_at one d b ≡ block_at other d b) → one ≡ other
same_image [] [] as_many each = refl
same_image [] (y ∷ ys) as_many each = absurd (omega (arith, as_many))
same_image (x ∷ xs) [] as_many each = absurd (omega (arith, as_many))
same_image (x ∷ xs) (y ∷ ys) as_many each = ap (λ z. z ∷ xs) (same_from_places x y (each 0)) ∙ ap (λ zs. y ∷ zs) (same_image xs ys (omega (arith, as_many)) (λ d. each (suc d)))

-- A crash leaves as many devices as there are.
pub as_many_left : (disks : List Disk) (image : Image) → IsCrashImage disks image → length image ≡ length disks
as_many_left [] [] may = refl
as_many_left [] (left ∷ image) may = absurd may
as_many_left (disk ∷ disks) [] may = absurd may
as_many_left (disk ∷ disks) (left ∷ image) may = ap suc (as_many_left disks image may.1)

pub as_many_read : (disks : List Disk) → length (as_read disks) ≡ length disks
as_many_read disks = length-map {B = List (List ℕ)} disks (λ (disk : Disk). disk.blocks)

there_within : (blocks : List (List ℕ)) (place : ℕ) (block : List ℕ) → slice_get blocks place ≡ Some block → place < length blocks
there_within blocks place block is = ⊎_elim (λ (within : place < length blocks). within) (λ (past : length blocks ≤ place). absurd (none_some block (sym (slice_get_past blocks place past) ∙ is))) (cases_lt place (length blocks))

there_at : (blocks : List (List ℕ)) (place : ℕ) → place < length blocks → (block : List ℕ) × (slice_get blocks place ≡ Some block)
there_at [] place within = absurd (omega (arith, within))
there_at (block ∷ blocks) zero within = (block, refl)
there_at (block ∷ blocks) (suc place) within = there_at blocks place (omega (arith, within))

-- two devices with the same blocks behind a place that one has are as long
same_length : (one other : List (List ℕ)) (bound : ℕ) → bound < length other → ((block : ℕ) → bound ≤ block → slice_get one block ≡ slice_get other block) → length one ≡ length other
same_length one other bound long same =
    let last = there_at other (length other - 1) (omega (arith, long)) in
    let no_less : length other - 1 < length one = there_within one (length other - 1) last.0 (same (length other - 1) (omega (arith, long)) ∙ last.1) in
    ⊎_elim
    (λ (longer : length other < length one).
    let more = there_at one (length other) longer in
    let bad : length other < length other = there_within other (length other) more.0 (sym (same (length other) (omega (arith, long))) ∙ more.1) in
    absurd (omega (arith, bad)))
    (λ (no_more : length one ≤ length other). let e : length one ≡ length other = omega (arith, no_less, no_more, long) in e)
    (cases_lt (length other) (length one))

-- An image of as many devices has the same sizes, where it is the same behind a place that each device has.
pub same_sizes : (one other : Image) (bound : ℕ) → length one ≡ length other → ((dev : ℕ) → dev < length other → bound < length (blocks_of other dev))
    → ((dev block : ℕ) → bound ≤ block → block_at one dev block ≡ block_at other dev block) → map (λ blocks. length blocks) one ≡ map (λ blocks. length blocks) other
same_sizes [] [] bound count long same = refl
same_sizes [] (b ∷ other) bound count long same = absurd (omega (arith, count))
same_sizes (a ∷ one) [] bound count long same = absurd (omega (arith, count))
same_sizes (a ∷ one) (b ∷ other) bound count long same =
    ap (λ n. n ∷ map (λ blocks. length blocks) one) (same_length a b bound (long 0 (omega arith)) (same 0))
    ∙ ap (λ (sizes : List ℕ). length b ∷ sizes) (same_sizes one other bound (omega (arith, count)) (λ dev within. long (suc dev) (omega (arith, within))) (λ dev. same (suc dev)))
