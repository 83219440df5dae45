-- What failed in a part of the reading failed in the whole, and the image stays.
use Rattle.std.proofs.Common.{◌≡◌, ℕ, zero, suc, ◌<◌, ◌≤◌, List, [], ◌∷◌, length, Option, None, Some, ap, sym, subst, arith}
use Rattle.std.specs.Prelude.{IfSome, slice_index_or}
use Rattle.dev_model.specs.Devices.{AreFaultCounts, DevicesState, FaultCounts, now, risen}
use Rattle.dev_model.specs.Disk.{Image, as_read, changed}
use Rattle.dev_model.specs.FrameLaws.{stay_now}
use Rattle.dev_model.specs.Frames.{AreNoFewer, AreOnlyRead, after_reads}
use Rattle.geometry.specs.Faults.{DeviceFailed, SomeFailed}
use Rattle.vol_types.specs.Faults.{RoseBy}

-- What failed before still has.
pub failed_before : (old mid new : FaultCounts) → AreNoFewer mid.calls new.calls → SomeFailed old mid → SomeFailed old new
failed_before old mid new more failed = (failed.0, (let f : DeviceFailed failed.0 old new = omega (arith, failed.1, more failed.0) in f))

-- What failed behind a part has failed.
pub failed_behind : (old mid new : FaultCounts) → AreNoFewer old.calls mid.calls → SomeFailed mid new → SomeFailed old new
failed_behind old mid new more failed = (failed.0, (let f : DeviceFailed failed.0 old new = omega (arith, failed.1, more failed.0) in f))

-- The device that is named has failed since the beginning too.
pub cause_behind : (device : Option ℕ) (old mid new : FaultCounts) → AreNoFewer old.calls mid.calls → IfSome device (λ dev. DeviceFailed dev mid new) → IfSome device (λ dev. DeviceFailed dev old new)
cause_behind None old mid new more cause = tt
cause_behind (Some dev) old mid new more cause = let f : DeviceFailed dev old new = omega (arith, cause, more dev) in f

-- The image is the one that was there in the beginning.
pub image_stays : (tells : Type 0) (old new : DevicesState) → tells → AreOnlyRead tells old new → as_read (now new) ≡ as_read (now old)
image_stays tells old new told read = ap as_read (stay_now old new (read.disks told))

-- A part of the reading behind another: what is known of the image and of failures in the part, said of the whole.
module _ (tells : Type 0) (old mid new : DevicesState) (before : AreOnlyRead tells old mid) (after : AreOnlyRead tells mid new) where
  pub sure_behind : {P : Type 0} → (SomeFailed old.faults new.faults → P) → SomeFailed mid.faults new.faults → P
  sure_behind sure failed = sure (failed_behind old.faults mid.faults new.faults before.calls failed)

  pub sure_before : {P : Type 0} → (SomeFailed old.faults new.faults → P) → SomeFailed old.faults mid.faults → P
  sure_before sure failed = sure (failed_before old.faults mid.faults new.faults after.calls failed)

  pub of_first : tells → (Q : Image → Type 0) → Q (as_read (now mid)) → Q (as_read (now old))
  of_first told Q q = subst Q (image_stays tells old mid told before) q

rose_at : (counts : List ℕ) (dev : ℕ) → dev < length counts → RoseBy 1 (slice_index_or counts dev 0) (slice_index_or (changed dev risen counts) dev 0)
rose_at [] dev within = absurd (omega (arith, within))
rose_at (count ∷ counts) zero within = omega arith
rose_at (count ∷ counts) (suc dev) within = rose_at counts dev (omega (arith, within))

-- After a read that failed its device has failed.
pub failed_by_read : (device : Option ℕ) (old new : FaultCounts) (devices : ℕ) → new ≡ after_reads device old → AreFaultCounts old → devices ≤ 8 → IfSome device (λ dev. dev < devices) → IfSome device (λ dev. DeviceFailed dev old new)
failed_by_read None old new devices is are few below = tt
failed_by_read (Some dev) old new devices is are few below = subst (λ (f : FaultCounts). DeviceFailed dev old f) (sym is) (rose_at old.calls dev (omega (arith, below, few, are.calls)))
