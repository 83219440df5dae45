-- What calls of devices leave as it was: the frame of reads, and that of any calls but extensions.
use Rattle.std.specs.Prelude.{◌≡◌, ◌⊎◌, ℕ, ◌≤◌, List, slice_index_or, Option, Some, None}
use Rattle.dev_model.specs.Devices.{DevicesState, FaultCounts, now, with_read_fault, with_write_fault}

-- No count is less than it was.
abbrev pub AreNoFewer : List ℕ → List ℕ → Type 0
AreNoFewer old new = (dev : ℕ) → slice_index_or old dev 0 ≤ slice_index_or new dev 0

-- The disks are as they were, at each moment since then.
pub record DisksStay (old new : DevicesState) : Type 0 where
  pub later : old.moment ≤ new.moment
  pub past : (m : ℕ) → m ≤ old.moment → new.disks m ≡ old.disks m
  pub same : (m : ℕ) → old.moment ≤ m → m ≤ new.moment → new.disks m ≡ now old

-- Devices were only read.
pub record AreOnlyRead (tells : Type 0) (old new : DevicesState) : Type 0 where
  pub disks : tells → DisksStay old new
  pub sizes : new.sizes ≡ old.sizes
  pub later : old.moment ≤ new.moment
  pub calls : AreNoFewer old.faults.calls new.faults.calls
  pub writes : new.faults.writes ≡ old.faults.writes

-- Devices were read, written and flushed, and none was extended.
pub record GoOn (old new : DevicesState) : Type 0 where
  pub sizes : new.sizes ≡ old.sizes
  pub later : old.moment ≤ new.moment
  pub calls : AreNoFewer old.faults.calls new.faults.calls
  pub writes : AreNoFewer old.faults.writes new.faults.writes

-- the counts after reads of which the last one failed, of this device, or none did
abbrev pub after_reads : Option ℕ → FaultCounts → FaultCounts
after_reads None faults = faults
after_reads (Some dev) faults = with_read_fault dev faults

-- the counts after writes and flushes of which the last one failed, of this device, or none did
abbrev pub after_writes : Option ℕ → FaultCounts → FaultCounts
after_writes None faults = faults
after_writes (Some dev) faults = with_write_fault dev faults

-- The last of some calls failed, one of this device, or none did.
abbrev pub AreAfterCalls : Option ℕ → FaultCounts → FaultCounts → Type 0
AreAfterCalls None old new = new ≡ old
AreAfterCalls (Some dev) old new = (new ≡ with_read_fault dev old) ⊎ (new ≡ with_write_fault dev old)
