-- What follows for a layout and its devices from the tests on them; laws for whoever calls with a layout.
use Rattle.std.proofs.Common.{◌≡◌, ℕ, zero, suc, ◌+◌, ◌*◌, ◌%◌, ◌<◌, ◌≤◌, Bool, true, false, ◌&&◌, nat_le, List, [], ◌∷◌, length, get_or, refl, ap, arith}
use Rattle.std.proofs.lemmas.Bool.{and_parts, false≢true, leb-true}
use Rattle.std.proofs.lemmas.List.Elements.{All-get_or}
use Rattle.vol_types.specs.declared.layout.Layout.{Layout}
use Rattle.vol_types.specs.Layouts.{is_layout, IsDeviceSize}
use Rattle.vol_types.specs.LayoutLaws.{layout_found}
use Rattle.dev_model.specs.Devices.{IsPlace}
use Rattle.geometry.specs.Layouts.{have_room, is_layout_of}

-- The layout is one of devices with these sizes, and its numbers are in their ranges.
pub record HasPlaces (sizes : List ℕ) (layout : Layout) : Type 0 where
  pub devices : length layout.blocks ≡ length sizes
  pub some : 1 ≤ length sizes
  pub few : length sizes ≤ 8
  pub mirrored : 1 ≤ layout.metadata_replicas
  pub mirrors_few : layout.metadata_replicas ≤ 3
  pub mirrors : layout.metadata_replicas ≤ length sizes
  pub replicated : 1 ≤ layout.data_replicas
  pub replicas_few : layout.data_replicas ≤ 3
  pub replicas : layout.data_replicas ≤ length sizes
  pub journal : layout.journal ≤ 4096
  pub least : 256 ≤ layout.journal
  pub journal_whole : layout.journal % 16 ≡ 0
  pub room : (dev : ℕ) → dev < length sizes → 2 * (layout.journal + 16) ≤ get_or layout.blocks dev 0
  pub shortest : (dev : ℕ) → dev < length sizes → 1024 ≤ get_or layout.blocks dev 0
  pub most : (dev : ℕ) → dev < length sizes → get_or layout.blocks dev 0 ≤ 1048576
  pub whole : (dev : ℕ) → dev < length sizes → get_or layout.blocks dev 0 % 16 ≡ 0
  pub longer : (dev : ℕ) → dev < length sizes → get_or layout.blocks dev 0 ≤ get_or sizes dev 0

-- There are as many numbers of blocks as sizes.
pub as_many : (blocks sizes : List ℕ) → have_room blocks sizes ≡ true → length blocks ≡ length sizes
as_many [] [] is = refl
as_many [] (size ∷ sizes) is = absurd (false≢true is)
as_many (n ∷ blocks) [] is = absurd (false≢true is)
as_many (n ∷ blocks) (size ∷ sizes) is = ap suc (as_many blocks sizes (and_parts (nat_le n size) (have_room blocks sizes) is).1)

-- Each device has as many blocks as the layout says.
pub room_at : (blocks sizes : List ℕ) → have_room blocks sizes ≡ true → (dev : ℕ) → get_or blocks dev 0 ≤ get_or sizes dev 0
room_at [] [] is dev = omega arith
room_at [] (size ∷ sizes) is dev = absurd (false≢true is)
room_at (n ∷ blocks) [] is dev = absurd (false≢true is)
room_at (n ∷ blocks) (size ∷ sizes) is zero = leb-true n size (and_parts (nat_le n size) (have_room blocks sizes) is).0
room_at (n ∷ blocks) (size ∷ sizes) is (suc dev) = room_at blocks sizes (and_parts (nat_le n size) (have_room blocks sizes) is).1 dev

-- There are one to eight devices.
pub few_devices : (layout : Layout) → is_layout layout ≡ true → (1 ≤ length layout.blocks) × (length layout.blocks ≤ 8)
few_devices layout is = (layout_found layout is).devices

-- A layout that passes the test has its places on the devices.
pub has_places : (sizes : List ℕ) (layout : Layout) → is_layout_of sizes layout ≡ true → HasPlaces sizes layout
has_places sizes layout is =
    let parts = and_parts (is_layout layout) (have_room layout.blocks sizes) is in
    let count : length layout.blocks ≡ length sizes = as_many layout.blocks sizes parts.1 in
    let fits = layout_found layout parts.0 in
    let each : (dev : ℕ) → dev < length sizes → IsDeviceSize layout.journal (get_or layout.blocks dev 0) =
    λ dev within. All-get_or (IsDeviceSize layout.journal) layout.blocks dev 0 (omega (arith, within, count)) fits.sizes in
    record {
      devices = count;
      some = omega (arith, count, fits.devices.0);
      few = omega (arith, count, fits.devices.1);
      mirrored = fits.metadata.0;
      mirrors_few = omega (arith, fits.metadata.1);
      mirrors = omega (arith, count, fits.metadata.1);
      replicated = fits.data_copies.0;
      replicas_few = omega (arith, fits.data_copies.1);
      replicas = omega (arith, count, fits.data_copies.1);
      journal = fits.journal_range.1;
      least = fits.journal_range.0;
      journal_whole = fits.journal_buckets;
      room = λ dev within. (each dev within).half;
      shortest = λ dev within. (each dev within).blocks_range.0;
      most = λ dev within. (each dev within).blocks_range.1;
      whole = λ dev within. (each dev within).whole_buckets;
      longer = λ dev within. room_at layout.blocks sizes parts.1 dev;
    }

-- A block of the layout is a block of its device.
pub block_is_place : (sizes : List ℕ) (layout : Layout) → is_layout_of sizes layout ≡ true → (dev block : ℕ) → dev < length sizes → block < get_or layout.blocks dev 0 → IsPlace sizes dev block
block_is_place sizes layout is dev block within lower = omega (arith, lower, (has_places sizes layout is).longer dev within)

-- So is each block of the first bucket and of the journal area.
pub area_is_place : (sizes : List ℕ) (layout : Layout) → is_layout_of sizes layout ≡ true → (dev block : ℕ) → dev < length sizes → block < 16 + layout.journal → IsPlace sizes dev block
area_is_place sizes layout is dev block within lower =
    let has = has_places sizes layout is in
    omega (arith, lower, has.room dev within, has.longer dev within)

-- So is each place of the journal area, on a metadata device.
pub journal_place : (sizes : List ℕ) (layout : Layout) (dev place : ℕ) → is_layout_of sizes layout ≡ true → dev < layout.metadata_replicas → place < layout.journal → 16 + place < get_or sizes dev 0
journal_place sizes layout dev place is device within =
    let has = has_places sizes layout is in
    let mirror : dev < length sizes = omega (arith, device, has.mirrors) in
    omega (arith, within, has.room dev mirror, has.longer dev mirror)
