-- What a call of one image makes of all devices.
use Rattle.std.proofs.Common.{◌≡◌, ℕ, zero, suc, ◌<◌, ◌≤◌, List, [], ◌∷◌, length, map, get_or, set, refl, ap, ◌∙◌, sym, subst, arith, Result, Ok, Err, Some, MatchResult, OnOk, OnErr, slice_get, slice_index, inl, inr, ⊎_elim, All}
use Rattle.std.proofs.Math.Seq.{map-set_same}
use Rattle.std.proofs.lemmas.List.{length-map}
use Rattle.std.proofs.lemmas.List.Elements.{All-head, All-tail, All-weaker}
use Rattle.dev_model.specs.Disk.{Disk, IsBlock, after_write, as_read, block_at, changed, extended, flushed, written}
use Rattle.dev_model.specs.Devices.{ChangesDisks, DevicesState, FaultCounts, Is, MayBeExtended, MayBeWritten, MayGrow}
use Rattle.file_devices.specs.Files.{IsDiskNow, IsStill, MayHold, MayReach, Story}
use Rattle.file_devices.specs.Images.{ChangesImage, disks_at}
use Rattle.file_devices.specs.ImageLaws.{still_later}

module _ {I : Type 0} (story : I → Story) (moment : ℕ) where
  -- Since the moment all are as they were.
  pub all_still : (images : List I) → All (λ image. IsStill (story image) moment) images → (m : ℕ) → moment ≤ m → disks_at story images m ≡ disks_at story images moment
  all_still [] still m le = refl
  all_still (image ∷ images) still m le =
      ap (λ disk. disk ∷ disks_at story images m) ((All-head (λ i. IsStill (story i) moment) image images still).since m le)
      ∙ ap (λ disks. story image moment ∷ disks) (all_still images (All-tail (λ i. IsStill (story i) moment) image images still) m le)

  -- One of them was changed since.
  pub one_changed : (images : List I) (dev : ℕ) (d new : I) (change : Disk → Disk) → All (λ image. IsStill (story image) moment) images → dev < length images → (m : ℕ) → moment ≤ m → story new m ≡ change (story (get_or images dev d) moment) → disks_at story (set images dev new) m ≡ changed dev change (disks_at story images moment)
  one_changed [] dev d new change still within m le is = absurd (omega (arith, within))
  one_changed (image ∷ images) zero d new change still within m le is =
      ap (λ disk. disk ∷ disks_at story images m) is
      ∙ ap (λ disks. change (story image moment) ∷ disks) (all_still images (All-tail (λ i. IsStill (story i) moment) image images still) m le)
  one_changed (image ∷ images) (suc dev) d new change still within m le is =
      ap (λ disk. disk ∷ disks_at story (set images dev new) m) ((All-head (λ i. IsStill (story i) moment) image images still).since m le)
      ∙ ap (λ disks. story image moment ∷ disks) (one_changed images dev d new change (All-tail (λ i. IsStill (story i) moment) image images still) (omega (arith, within)) m le is)

  -- One of them was called, and is as it was.
  pub none_changed : (images : List I) (dev : ℕ) (d new : I) → All (λ image. IsStill (story image) moment) images → dev < length images → (m : ℕ) → moment ≤ m → story new m ≡ story (get_or images dev d) moment → disks_at story (set images dev new) m ≡ disks_at story images moment
  none_changed [] dev d new still within m le is = absurd (omega (arith, within))
  none_changed (image ∷ images) zero d new still within m le is =
      ap (λ disk. disk ∷ disks_at story images m) is
      ∙ ap (λ disks. story image moment ∷ disks) (all_still images (All-tail (λ i. IsStill (story i) moment) image images still) m le)
  none_changed (image ∷ images) (suc dev) d new still within m le is =
      ap (λ disk. disk ∷ disks_at story (set images dev new) m) ((All-head (λ i. IsStill (story i) moment) image images still).since m le)
      ∙ ap (λ disks. story image moment ∷ disks) (none_changed images dev d new (All-tail (λ i. IsStill (story i) moment) image images still) (omega (arith, within)) m le is)

  -- What a write may leave of the image, it may leave of the devices,
  pub may_be_written : (images : List I) (dev : ℕ) (d new : I) (block : ℕ) (bytes : List ℕ) → All (λ image. IsStill (story image) moment) images → dev < length images → (m : ℕ) → moment ≤ m → MayHold block bytes (story (get_or images dev d) moment) (story new m) → MayBeWritten dev block bytes (disks_at story images moment) (disks_at story (set images dev new) m)
  may_be_written images dev d new block bytes still within m le may = ⊎_elim
      (λ (same : story new m ≡ story (get_or images dev d) moment). inl (none_changed images dev d new still within m le same))
      (λ (spoilt : (left : List ℕ) × IsBlock left × (story new m ≡ after_write block bytes left (story (get_or images dev d) moment))).
      inr (spoilt.0, spoilt.1, one_changed images dev d new (after_write block bytes spoilt.0) still within m le spoilt.2))
      may

  -- and so with an extension.
  pub may_be_extended : (images : List I) (dev : ℕ) (d new : I) (size : ℕ) → All (λ image. IsStill (story image) moment) images → dev < length images → (m : ℕ) → moment ≤ m → MayReach size (story (get_or images dev d) moment) (story new m) → MayBeExtended dev size (disks_at story images moment) (disks_at story (set images dev new) m)
  may_be_extended images dev d new size still within m le may = (may.0, may.1, one_changed images dev d new (extended may.0) still within m le may.2)

  in_either_case : {T E : Type 0} (result : Result T E) (A B C D : Type 0) → (A → C) → (B → D) → MatchResult result (λ _. A) (λ _. B) → MatchResult result (λ _. C) (λ _. D)
  in_either_case (Ok x) A B C D one other is = one is
  in_either_case (Err e) A B C D one other is = other is

  -- A call of one image is a call of the devices.
  pub devices_change : {T E : Type 0} (result : Result T E) (images : List I) (dev : ℕ) (d new : I) (last : ℕ) (partly wholly : Disk → Type 0) (partly_all wholly_all : List Disk → Type 0) (sizes new_sizes : List ℕ) (faults new_faults : FaultCounts)
      → moment ≤ last
      → ChangesImage result partly wholly moment last (story (get_or images dev d)) (story new)
      → ((m : ℕ) → moment ≤ m → partly (story new m) → partly_all (disks_at story (set images dev new) m))
      → ((m : ℕ) → moment ≤ m → wholly (story new m) → wholly_all (disks_at story (set images dev new) m))
      → ChangesDisks result partly_all wholly_all (record { sizes = sizes; moment = moment; disks = disks_at story images; faults = faults }) (record { sizes = new_sizes; moment = last; disks = disks_at story (set images dev new); faults = new_faults })
  devices_change result images dev d new last partly wholly partly_all wholly_all sizes new_sizes faults new_faults le changes part whole = record {
    later = le;
    past = λ m lo. map-set_same (λ image. story image m) images dev new d (changes.past m lo);
    inside = λ m lo hi. part m (omega (arith, lo)) (changes.inside m lo hi);
    after = in_either_case result (wholly (story new last)) (partly (story new last)) (wholly_all (disks_at story (set images dev new) last)) (partly_all (disks_at story (set images dev new) last)) (whole last le) (part last le) changes.after;
    takes_time = changes.takes_time;
  }

  module _ {T E : Type 0} (result : Result T E) (images : List I) (dev : ℕ) (image new : I) (last : ℕ) (sizes new_sizes : List ℕ) (faults new_faults : FaultCounts) (still : All (λ one. IsStill (story one) moment) images) (within : dev < length images) (there : image ≡ get_or images dev image) (le : moment ≤ last) where
    disk : Disk
    disk = story (get_or images dev image) moment

    abbrev before : DevicesState
    before = record { sizes = sizes; moment = moment; disks = disks_at story images; faults = faults }

    abbrev behind : DevicesState
    behind = record { sizes = new_sizes; moment = last; disks = disks_at story (set images dev new); faults = new_faults }

    -- A read of one image is one of the devices,
    pub device_read : ChangesImage result (IsDiskNow (story image moment)) (IsDiskNow (story image moment)) moment last (story image) (story new) → ChangesDisks result (Is (disks_at story images moment)) (Is (disks_at story images moment)) before behind
    device_read changes = devices_change result images dev image new last (IsDiskNow (story (get_or images dev image) moment)) (IsDiskNow (story (get_or images dev image) moment)) _ _ sizes new_sizes faults new_faults le
        (subst (λ (one : I). ChangesImage result (IsDiskNow (story one moment)) (IsDiskNow (story one moment)) moment last (story one) (story new)) there changes)
        (λ m lo same. none_changed images dev image new still within m lo same)
        (λ m lo same. none_changed images dev image new still within m lo same)

    -- and a write,
    pub device_write : (block : ℕ) (bytes : List ℕ) → ChangesImage result (MayHold block bytes (story image moment)) (IsDiskNow (written block bytes (story image moment))) moment last (story image) (story new) → ChangesDisks result (MayBeWritten dev block bytes (disks_at story images moment)) (Is (changed dev (written block bytes) (disks_at story images moment))) before behind
    device_write block bytes changes = devices_change result images dev image new last (MayHold block bytes (story (get_or images dev image) moment)) (IsDiskNow (written block bytes (story (get_or images dev image) moment))) _ _ sizes new_sizes faults new_faults le
        (subst (λ (one : I). ChangesImage result (MayHold block bytes (story one moment)) (IsDiskNow (written block bytes (story one moment))) moment last (story one) (story new)) there changes)
        (λ m lo may. may_be_written images dev image new block bytes still within m lo may)
        (λ m lo is. one_changed images dev image new (written block bytes) still within m lo is)

    -- a flush
    pub device_flush : ChangesImage result (IsDiskNow (story image moment)) (IsDiskNow (flushed (story image moment))) moment last (story image) (story new) → ChangesDisks result (Is (disks_at story images moment)) (Is (changed dev flushed (disks_at story images moment))) before behind
    device_flush changes = devices_change result images dev image new last (IsDiskNow (story (get_or images dev image) moment)) (IsDiskNow (flushed (story (get_or images dev image) moment))) _ _ sizes new_sizes faults new_faults le
        (subst (λ (one : I). ChangesImage result (IsDiskNow (story one moment)) (IsDiskNow (flushed (story one moment))) moment last (story one) (story new)) there changes)
        (λ m lo same. none_changed images dev image new still within m lo same)
        (λ m lo is. one_changed images dev image new flushed still within m lo is)

    -- and an extension.
    pub device_extension : (size : ℕ) → ChangesImage result (MayReach size (story image moment)) (IsDiskNow (extended size (story image moment))) moment last (story image) (story new) → ChangesDisks result (MayBeExtended dev size (disks_at story images moment)) (Is (changed dev (extended size) (disks_at story images moment))) before behind
    device_extension size changes = devices_change result images dev image new last (MayReach size (story (get_or images dev image) moment)) (IsDiskNow (extended size (story (get_or images dev image) moment))) _ _ sizes new_sizes faults new_faults le
        (subst (λ (one : I). ChangesImage result (MayReach size (story one moment)) (IsDiskNow (extended size (story one moment))) moment last (story one) (story new)) there changes)
        (λ m lo may. may_be_extended images dev image new size still within m lo may)
        (λ m lo is. one_changed images dev image new (extended size) still within m lo is)

  -- The block of an image is that of the devices.
  pub block_of_image : (images : List I) (dev block : ℕ) (d : I) → dev < length images → block_at (as_read (disks_at story images moment)) dev block ≡ slice_get (story (get_or images dev d) moment).blocks block
  block_of_image [] dev block d within = absurd (omega (arith, within))
  block_of_image (image ∷ images) zero block d within = refl
  block_of_image (image ∷ images) (suc dev) block d within = block_of_image images dev block d (omega (arith, within))

  -- What was read of an image was read of the devices.
  pub device_bytes : {T E : Type 0} (result : Result T E) (images : List I) (dev block : ℕ) (image : I) (bytes : List ℕ) → dev < length images → image ≡ get_or images dev image → OnOk result (slice_get (story image moment).blocks block ≡ Some bytes) → OnOk result (block_at (as_read (disks_at story images moment)) dev block ≡ Some bytes)
  device_bytes (Ok x) images dev block image bytes within there read = block_of_image images dev block image within ∙ ap (λ (one : I). slice_get (story one moment).blocks block) (sym there) ∙ read
  device_bytes (Err e) images dev block image bytes within there read = tt

-- Images that were left alone since some moment each were so since a later one.
pub all_ready : {I : Type 0} (story : I → Story) (last : I → ℕ) (moment : ℕ) → ((image : I) → IsStill (story image) (last image)) → (images : List I) → All (λ image. last image ≤ moment) images → All (λ image. IsStill (story image) moment) images
all_ready {I} story last moment still images past = All-weaker (λ (image : I). last image ≤ moment) (λ (image : I). IsStill (story image) moment) (λ image le. still_later (story image) (last image) moment le (still image)) images past

-- Devices that are as long as they were may grow.
none_grown : (old new : List ℕ) (dev size : ℕ) → slice_index old dev ≤ size → new ≡ old → MayGrow dev size old new
none_grown old new dev size longer same = subst (λ (n : List ℕ). MayGrow dev size old n) (sym same) (record { count = refl; no_shorter = omega arith; no_longer = longer; others = λ other differs. refl })

-- Where an extension failed, each device is as long as it was.
pub none_longer : {I T E : Type 0} (result : Result T E) (blocks : I → ℕ) (images : List I) (dev size : ℕ) (image new : I) → slice_index (map blocks images) dev ≤ size → image ≡ get_or images dev image → OnErr result (blocks new ≡ blocks image) → OnErr result (MayGrow dev size (map blocks images) (map blocks (set images dev new)))
none_longer (Ok x) blocks images dev size image new longer there same = tt
none_longer {I} (Err e) blocks images dev size image new longer there same = none_grown (map blocks images) (map blocks (set images dev new)) dev size longer (map-set_same blocks images dev new image (same ∙ ap blocks there))

-- Where a size is given for each image, one that has a size is one of them,
pub is_device : {I : Type 0} (blocks : I → ℕ) (images : List I) (dev : ℕ) → dev < length (map blocks images) → dev < length images
is_device blocks images dev within = omega (arith, within, length-map images blocks)

-- and so is one that has a block.
pub has_block : {I : Type 0} (blocks : I → ℕ) (images : List I) (dev block : ℕ) → block < slice_index (map blocks images) dev → dev < length images
has_block blocks [] zero block place = absurd (omega (arith, place))
has_block blocks [] (suc dev) block place = absurd (omega (arith, place))
has_block blocks (image ∷ images) zero block place = omega arith
has_block blocks (image ∷ images) (suc dev) block place = omega (arith, has_block blocks images dev block place)
