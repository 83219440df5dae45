-- Images that hold the same behind the journal areas have the same sizes.
use Rattle.std.proofs.Common.{◌≡◌, ℕ, zero, suc, ◌+◌, ◌-◌, ◌<◌, ◌≤◌, ⊎_elim, List, [], ◌∷◌, length, map, get_or, slice_get, Some, Ok, refl, ap, ◌∙◌, sym, arith}
use Rattle.std.proofs.lemmas.Bool.{cases_lt}
use Rattle.std.proofs.lemmas.List.{get_or-map, length-map}
use Rattle.std.proofs.lemmas.Option.{slice_get_within}
use Rattle.dev_model.specs.Disk.{Disk, Image, IsCrashImage, as_read, block_at, blocks_of}
use Rattle.geometry.specs.LayoutFacts.{HasPlaces, has_places}
use Rattle.geometry.specs.SuperLaws.{layout_fits}
use Rattle.image_view.specs.BaseLaws.{found-layout}
use Rattle.image_view.specs.Found.{Found, found}

-- the sizes of an image's devices
abbrev pub sizes : Image → List ℕ
sizes image = map (λ blocks. length blocks) image

-- A crash leaves as many devices as there are.
pub as_many_left : (disks : List Disk) (image : Image) → IsCrashImage disks image → length image ≡ length disks
as_many_left [] [] may = refl
as_many_left [] (left ∷ image) may = absurd may
as_many_left (disk ∷ disks) [] may = absurd may
as_many_left (disk ∷ disks) (left ∷ image) may = ap suc (as_many_left disks image may.1)

pub as_many_read : (disks : List Disk) → length (as_read disks) ≡ length disks
as_many_read disks = length-map {B = List (List ℕ)} disks (λ (disk : Disk). disk.blocks)

there_at : (blocks : List (List ℕ)) (place : ℕ) → place < length blocks → (block : List ℕ) × (slice_get blocks place ≡ Some block)
there_at [] place within = absurd (omega (arith, within))
there_at (block ∷ blocks) zero within = (block, refl)
there_at (block ∷ blocks) (suc place) within = there_at blocks place (omega (arith, within))

-- Two devices with the same blocks behind a place that one has are as long.
same_length : (one other : List (List ℕ)) (bound : ℕ) → bound < length other → ((block : ℕ) → bound ≤ block → slice_get one block ≡ slice_get other block) → length one ≡ length other
same_length one other bound long same =
    let last = there_at other (length other - 1) (omega (arith, long)) in
    let no_less : length other - 1 < length one = slice_get_within one (length other - 1) last.0 (same (length other - 1) (omega (arith, long)) ∙ last.1) in
    ⊎_elim
    (λ (longer : length other < length one).
    let more = there_at one (length other) longer in
    let bad : length other < length other = slice_get_within other (length other) more.0 (sym (same (length other) (omega (arith, long))) ∙ more.1) in
    absurd (omega (arith, bad)))
    (λ (no_more : length one ≤ length other). let e : length one ≡ length other = omega (arith, no_less, no_more, long) in e)
    (cases_lt (length other) (length one))

-- An image of as many devices has the same sizes, where it is the same behind a place that each device has.
same_sizes : (one other : Image) (bound : ℕ) → length one ≡ length other → ((dev : ℕ) → dev < length other → bound < length (blocks_of other dev))
    → ((dev block : ℕ) → bound ≤ block → block_at one dev block ≡ block_at other dev block) → sizes one ≡ sizes other
same_sizes [] [] bound count long same = refl
same_sizes [] (b ∷ other) bound count long same = absurd (omega (arith, count))
same_sizes (a ∷ one) [] bound count long same = absurd (omega (arith, count))
same_sizes (a ∷ one) (b ∷ other) bound count long same =
    ap (λ n. n ∷ sizes one) (same_length a b bound (long 0 (omega arith)) (same 0))
    ∙ ap (λ (ns : List ℕ). length b ∷ ns) (same_sizes one other bound (omega (arith, count)) (λ dev within. long (suc dev) (omega (arith, within))) (λ dev. same (suc dev)))

module _ (image : Image) (f : Found) (finds : found image ≡ Ok f) where
  pub places_of : HasPlaces (sizes image) f.layout
  places_of = has_places (sizes image) f.layout (layout_fits image f.layout (found-layout image f finds))

  pub count_is : length (sizes image) ≡ length image
  count_is = length-map {B = ℕ} image (λ (blocks : List (List ℕ)). length blocks)

  -- Each device is longer than its journal area.
  pub long_devices : (dev : ℕ) → dev < length image → 16 + f.layout.journal < length (blocks_of image dev)
  long_devices dev within =
      let has = places_of in
      let there : dev < length (sizes image) = omega (arith, within, count_is) in
      let size : get_or (sizes image) dev 0 ≡ length (blocks_of image dev) = get_or-map (λ (blocks : List (List ℕ)). length blocks) image dev [] 0 within in
      omega (arith, has.room dev there, has.longer dev there, size, has.least)

  -- Each metadata device has each block of its journal area.
  pub journal_within : (dev place : ℕ) → dev < f.layout.metadata_replicas → place < f.layout.journal → 16 + place < length (blocks_of image dev)
  journal_within dev place mirror within =
      let mirrors = places_of.mirrors in
      let long = long_devices dev (omega (arith, mirror, mirrors, count_is)) in
      omega (arith, long, within)

  -- Two images have the same sizes that are the same behind the journal areas, where one has the sizes of this one.
  pub sizes_stay : (one other : Image) → sizes image ≡ sizes one → length other ≡ length one → ((dev block : ℕ) → 16 + f.layout.journal ≤ block → block_at one dev block ≡ block_at other dev block) → sizes one ≡ sizes other
  sizes_stay one other as_long as_many same = sym (same_sizes other one (16 + f.layout.journal) as_many long (λ dev block far. sym (same dev block far)))
    where
      long : (dev : ℕ) → dev < length one → 16 + f.layout.journal < length (blocks_of one dev)
      long dev within =
          let has = places_of in
          let count : length (sizes one) ≡ length one = length-map {B = ℕ} one (λ (blocks : List (List ℕ)). length blocks) in
          let there : dev < length (sizes image) = omega (arith, within, count, ap (λ (ns : List ℕ). length ns) as_long) in
          let size : get_or (sizes image) dev 0 ≡ length (blocks_of one dev) = ap (λ (ns : List ℕ). get_or ns dev 0) as_long ∙ get_or-map (λ (blocks : List (List ℕ)). length blocks) one dev [] 0 within in
          omega (arith, has.room dev there, has.longer dev there, size, has.least)
