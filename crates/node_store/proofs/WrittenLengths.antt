-- What a crash leaves after a write is as long as something that it might have left before.
use Rattle.std.proofs.Common.{◌≡◌, ℕ, zero, suc, ◌<◌, ◌≤◌, List, [], ◌∷◌, length, map, take, Some, refl, sym, ap, ◌∙◌, subst, arith, Result, ⊎_elim}
use Rattle.std.proofs.lemmas.List.{get_or-take, length-set, length-take-le}
use Rattle.std.proofs.lemmas.List.Elements.{All-head, All-tail, All-take}
use Rattle.std.proofs.lemmas.Option.{slice_get-get_or}
use Rattle.std.specs.Prelude.{All}
use Rattle.dev_model.specs.CrashLaws.{goes_on}
use Rattle.dev_model.specs.Crashes.{EachCrash}
use Rattle.dev_model.specs.Devices.{ChangesDisks, DevicesState, Is, MayBeWritten, now}
use Rattle.dev_model.specs.Disk.{Disk, Image, IsBlock, IsCrashImage, IsCrashOf, IsDisk, after_write, changed, written}
use Rattle.node_store.specs.Writes.{HasLengthsOf}

-- A crash may leave a disk as it is read, but of any length from its shortest up.
left_short : (disk : Disk) (count : ℕ) → IsDisk disk → disk.shortest ≤ count → count ≤ length disk.blocks → (left : List (List ℕ)) × IsCrashOf disk left × (length left ≡ count)
left_short disk count is least most =
    let left : List (List ℕ) = take count disk.blocks in
    let long : length left ≡ count = length-take-le count disk.blocks most in (
      left,
      record {
        no_shorter = omega (arith, least, long);
        no_longer = omega (arith, most, long);
        blocks = All-take IsBlock count disk.blocks is.blocks;
        settled = λ block within rests.
            let low : block < count = omega (arith, within, long) in
            slice_get-get_or left block [] within ∙ ap (λ (bytes : List ℕ). Some bytes) (get_or-take count disk.blocks block [] low) ∙ sym (slice_get-get_or disk.blocks block [] (omega (arith, low, most)));
      },
      long,
    )

abbrev lengths : Image → List ℕ
lengths image = map (λ blocks. length blocks) image

-- After a write, whatever it left to be read, a crash leaves the lengths that it might have left before.
lengths_left : (disks : List Disk) (dev block : ℕ) (bytes read : List ℕ) → All IsDisk disks → (image : Image) → IsCrashImage (changed dev (after_write block bytes read) disks) image → HasLengthsOf disks image
lengths_left [] dev block bytes read are image may = (image, may, refl)
lengths_left (disk ∷ disks) dev block bytes read are [] may = absurd (elim dev as (λ n. IsCrashImage (changed n (after_write block bytes read) (disk ∷ disks)) [] → ⊥) [ zero ↦ λ h. h | suc n ↦ λ h. h ] may)
lengths_left (disk ∷ disks) zero block bytes read are (left ∷ image) may =
    let longest : length left ≤ length disk.blocks = omega (arith, may.0.no_longer, length-set disk.blocks block read) in
    let first = left_short disk (length left) (All-head IsDisk disk disks are) may.0.no_shorter longest in
    (first.0 ∷ image, (first.1, may.1), ap (λ n. n ∷ lengths image) first.2)
lengths_left (disk ∷ disks) (suc dev) block bytes read are (left ∷ image) may =
    let rest = lengths_left disks dev block bytes read (All-tail IsDisk disk disks are) image may.1 in
    (left ∷ rest.0, (may.0, rest.1), ap (λ ns. length left ∷ ns) rest.2)

module _ (first : List Disk) (old mid : DevicesState) (so_far : EachCrash (λ _ _ image. HasLengthsOf first image) old mid) (are : All IsDisk (now mid)) where
  as_before : (disks : List Disk) (image : Image) → disks ≡ now mid → IsCrashImage disks image → HasLengthsOf first image
  as_before disks image is may = so_far.each mid.moment so_far.later (omega arith) image (subst (λ ds. IsCrashImage ds image) is may)

  as_written : (dev block : ℕ) (bytes read : List ℕ) (disks : List Disk) (image : Image) → disks ≡ changed dev (after_write block bytes read) (now mid) → IsCrashImage disks image → HasLengthsOf first image
  as_written dev block bytes read disks image is may =
      let before = lengths_left (now mid) dev block bytes read are image (subst (λ ds. IsCrashImage ds image) is may) in
      let earlier = as_before (now mid) before.0 refl before.1 in
      (earlier.0, earlier.1, earlier.2 ∙ before.2)

  -- So it is after one write more.
  pub lengths_go_on : {T E : Type 0} (result : Result T E) (dev block : ℕ) (bytes : List ℕ) (new : DevicesState) → ChangesDisks result (MayBeWritten dev block bytes (now mid)) (Is (changed dev (written block bytes) (now mid))) mid new
      → EachCrash (λ _ _ image. HasLengthsOf first image) old new
  lengths_go_on result dev block bytes new goes = goes_on result (λ _ _ image. HasLengthsOf first image) _ _ old mid new so_far goes
      (λ m disks image maybe may. ⊎_elim (λ same. as_before disks image same may) (λ (spoilt : (read : List ℕ) × IsBlock read × (disks ≡ changed dev (after_write block bytes read) (now mid))). as_written dev block bytes spoilt.0 disks image spoilt.2 may) maybe)
      (λ m disks image is may. as_written dev block bytes bytes disks image is may)
