-- What images tell together is what devices tell.
use Rattle.std.proofs.Common.{◌≡◌, ℕ, ◌≤◌, List, [], ◌∷◌, length, map, refl, ap, ◌∙◌, sym, arith, All}
use Rattle.std.proofs.lemmas.List.Elements.{All-head, All-tail, All-cons, All-nil}
use Rattle.dev_model.specs.Disk.{Disk, IsDisk, sizes_of}
use Rattle.file_devices.specs.Files.{Story, IsStill}
use Rattle.file_devices.specs.Images.{disks_at}

-- A story that is still since some moment is still since each later one.
pub still_later : (story : Story) (moment later : ℕ) → moment ≤ later → IsStill story moment → IsStill story later
still_later story moment later le still = record {
  since = λ m lo. still.since m (omega (arith, le, lo)) ∙ sym (still.since later le);
}

module _ {I : Type 0} (story : I → Story) (last : I → ℕ) (still : (image : I) → IsStill (story image) (last image)) (moment : ℕ) where
  -- The sizes are those of the disks.
  pub sizes_agree : (blocks : I → ℕ) → ((image : I) → blocks image ≡ length (story image (last image)).blocks) → (images : List I) → All (λ image. last image ≤ moment) images → map blocks images ≡ sizes_of (disks_at story images moment)
  sizes_agree blocks size [] past = refl
  sizes_agree blocks size (image ∷ images) past =
      let same : story image moment ≡ story image (last image) = (still image).since moment (All-head (λ i. last i ≤ moment) image images past) in
      ap (λ n. n ∷ map blocks images) (size image ∙ ap (λ (disk : Disk). length disk.blocks) (sym same))
      ∙ ap (λ ns. length (story image moment).blocks ∷ ns) (sizes_agree blocks size images (All-tail (λ i. last i ≤ moment) image images past))

  -- Each of them is a disk.
  pub are_disks : ((image : I) → (m : ℕ) → IsStill (story image) m → IsDisk (story image m)) → (images : List I) → All (λ image. last image ≤ moment) images → All IsDisk (disks_at story images moment)
  are_disks sound [] past = All-nil IsDisk
  are_disks sound (image ∷ images) past =
      All-cons IsDisk (story image moment) (disks_at story images moment)
      (sound image moment (still_later (story image) (last image) moment (All-head (λ i. last i ≤ moment) image images past) (still image)))
      (are_disks sound images (All-tail (λ i. last i ≤ moment) image images past))
