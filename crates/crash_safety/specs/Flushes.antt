-- A flush of a device, and which metadata devices are settled by the flags of those that were written to and not flushed since.
use Rattle.std.specs.Prelude.{◌≡◌, ℕ, ◌+◌, ◌<◌, ◌≤◌, Bool, true, false, List, ◌++◌, drop, replicate, Some, Result, Ok, Err, slice_get, slice_set}
use Rattle.std.proofs.Common.{sym}
use Rattle.std.proofs.lemmas.Bool.{false≢true}
use Rattle.dev_model.specs.Devices.{DevicesState, IsFlush, now}
use Rattle.dev_model.specs.Disk.{Disk, changed, flushed}
use Rattle.dev_model.specs.PlaceLaws.{IsSettled}

-- A device was flushed, or it failed.
pub record Flushes (dev : ℕ) (done : Bool) (old new : DevicesState) : Type 0 where
  pub later : old.moment ≤ new.moment
  pub past : (m : ℕ) → m ≤ old.moment → new.disks m ≡ old.disks m
  pub inside : (m : ℕ) → old.moment < m → m < new.moment → new.disks m ≡ now old
  pub settles : done ≡ true → now new ≡ changed dev flushed (now old)
  pub fails : done ≡ false → now new ≡ now old
  pub takes_time : done ≡ true → old.moment + 1 < new.moment

-- whether a call succeeded
abbrev pub succeeded : {T E : Type 0} → Result T E → Bool
succeeded (Ok value) = true
succeeded (Err fault) = false

-- A flush of devices that tell is one.
pub flushes : {T E : Type 0} (tells : Type 0) → tells → (dev : ℕ) (result : Result T E) (old new : DevicesState) → IsFlush tells dev result old new → Flushes dev (succeeded result) old new
flushes tells told dev (Ok value) old new call =
    let changes = call.disks told in
    record {
      later = changes.later;
      past = changes.past;
      inside = changes.inside;
      settles = λ done. changes.after;
      fails = λ none. absurd (false≢true (sym none));
      takes_time = λ done. changes.takes_time;
    }
flushes tells told dev (Err fault) old new call =
    let changes = call.disks told in
    record {
      later = changes.later;
      past = changes.past;
      inside = changes.inside;
      settles = λ none. absurd (false≢true none);
      fails = λ failed. changes.after;
      takes_time = λ none. absurd (false≢true none);
    }

-- A crash leaves each of the first so many devices as it is read.
abbrev pub AreSettled : ℕ → List Disk → Type 0
AreSettled mirrors disks = (dev : ℕ) → dev < mirrors → IsSettled disks dev

-- The flag of a device is set.
abbrev pub IsSet : List Bool → ℕ → Type 0
IsSet flags dev = slice_get flags dev ≡ Some true

-- A crash leaves each of the first so many devices whose flag isn't set as it is read.
abbrev pub AreFlushed : ℕ → List Bool → List Disk → Type 0
AreFlushed mirrors flags disks = (dev : ℕ) → dev < mirrors → ¬ IsSet flags dev → IsSettled disks dev

-- flags, of which the first so many are set
abbrev pub with_flags : ℕ → List Bool → List Bool
with_flags count flags = replicate count true ++ drop count flags

-- flags after a flush of a device
abbrev pub flags_by : ℕ → Bool → List Bool → List Bool
flags_by dev true flags = slice_set flags dev false
flags_by dev false flags = flags
