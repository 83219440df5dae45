-- What a call of an image changes, and when.
use Rattle.std.specs.Prelude.{◌≡◌, ℕ, ◌+◌, ◌-◌, ◌^◌, ◌<◌, ◌≤◌, List, map, Result, MatchResult, OnOk}
use Rattle.vol_types.specs.Faults.{RoseBy}
use Rattle.dev_model.specs.Disk.{Disk}
use Rattle.file_devices.specs.Files.{Story}

-- The moment after a call: two later, or where there are not so many left the last of all, or the same one where it failed.
pub record IsMomentAfter {T E : Type 0} (result : Result T E) (moment after : ℕ) : Type 0 where
  pub soon : moment + 3 < 2 ^ 64 → after ≡ moment + 2
  pub at_end : 2 ^ 64 ≤ moment + 3 → MatchResult result (λ _. after ≡ 2 ^ 64 - 1) (λ _. after ≡ moment)

-- A call from this moment to that one. Inside it, and where it fails, the blocks are `partly` what they are where it succeeds. What was,
-- stays.
pub record ChangesImage {T E : Type 0} (result : Result T E) (partly wholly : Disk → Type 0) (moment last : ℕ) (old new : Story) : Type 0 where
  pub past : (m : ℕ) → m ≤ moment → new m ≡ old m
  pub inside : (m : ℕ) → moment < m → m < last → partly (new m)
  pub after : MatchResult result (λ _. wholly (new last)) (λ _. partly (new last))
  pub takes_time : OnOk result (moment + 1 < last)

-- A call takes time, as far as moments are counted.
pub record TakesTime {T E : Type 0} (result : Result T E) (moment last : ℕ) : Type 0 where
  pub later : moment ≤ last
  pub rose : OnOk result (RoseBy 1 moment last)

-- the disks of images at each moment
abbrev pub disks_at : {I : Type 0} → (I → Story) → List I → ℕ → List Disk
disks_at story images m = map (λ image. story image m) images
