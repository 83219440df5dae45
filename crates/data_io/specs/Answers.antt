-- What reading a block of a file answers.
use Rattle.std.specs.Prelude.{◌≡◌, ◌≢◌, ◌<◌, ℕ, List, length, take, All, Option, Some, None, option_and_then, slice_get, Result, Ok, Err}
use Rattle.std.specs.List.{AllZip}
use Rattle.vol_digest.specs.Digests.{short_of}
use Rattle.vol_types.specs.declared.layout.Lost.{Lost}
use Rattle.vol_types.specs.declared.pointers.Place.{Place}
use Rattle.dev_model.specs.Disk.{as_read}
use Rattle.dev_model.specs.Devices.{DevicesState, IsPlace, now}
use Rattle.geometry.specs.Faults.{DeviceFailed}
use Rattle.data_io.specs.declared.fault.DataFault.{DataFault}
use Rattle.data_io.specs.declared.fault.DataFault.TheVariants.{DeviceFault, DataLost, NoMemory}
use Rattle.data_io.specs.Reads.{after_reads_of, block_of, digest_of}

-- This was got at a place: the digest of the block that stands there; or nothing, and then a read of the device failed, or it has
-- no such block.
abbrev pub WasGot : Type 0 → DevicesState → DevicesState → Place → Option ℕ → Type 0
WasGot tells old new place (Some digest) = tells → digest_of (as_read (now old)) place ≡ Some digest
WasGot tells old new place None = IsPlace old.sizes place.dev place.block → DeviceFailed place.dev old.faults new.faults

-- Places were read and passed over: these were got there, none of which is the digest that is wanted. Each read that failed was
-- counted, and nothing else was.
pub record ArePassed (tells : Type 0) (old new : DevicesState) (want : ℕ) (places : List Place) (got : List (Option ℕ)) : Type 0 where
  pub as_many : length got ≡ length places
  pub wrong : All (λ one. one ≢ Some want) got
  pub each : AllZip (WasGot tells old new) places got
  pub faults : new.faults ≡ after_reads_of old.sizes places got old.faults

-- The bytes have the digest that is wanted and stand at one of the places, and those before it were passed over.
pub record IsFound (tells : Type 0) (old new : DevicesState) (want : ℕ) (places : List Place) (bytes : List ℕ) : Type 0 where
  pub place : ℕ
  pub within : place < length places
  pub got : List (Option ℕ)
  pub passed : ArePassed tells old new want (take place places) got
  pub bytes_there : tells → option_and_then (block_of (as_read (now old))) (slice_get places place) ≡ Some bytes
  pub digest : short_of bytes ≡ want

-- All places were passed over, and it is told which block is lost, with what was got.
pub record IsLost (tells : Type 0) (old new : DevicesState) (number want : ℕ) (places : List Place) (lost : Lost) : Type 0 where
  pub block : lost.block ≡ number
  pub digest : lost.want ≡ want
  pub places_there : lost.places ≡ places
  pub passed : ArePassed tells old new want places lost.got

-- The first so many places were passed over.
pub record IsCutShort (tells : Type 0) (old new : DevicesState) (want : ℕ) (places : List Place) : Type 0 where
  pub count : ℕ
  pub got : List (Option ℕ)
  pub passed : ArePassed tells old new want (take count places) got

-- The block was found, or it is lost, or memory was wanting on the way. No device is named.
abbrev pub IsAnswer : {T : Type 0} → Type 0 → DevicesState → DevicesState → ℕ → ℕ → List Place → List ℕ → Result T DataFault → Type 0
IsAnswer tells old new number want places bytes (Ok done) = IsFound tells old new want places bytes
IsAnswer tells old new number want places bytes (Err (DataLost lost)) = IsLost tells old new number want places lost
IsAnswer tells old new number want places bytes (Err NoMemory) = IsCutShort tells old new want places
IsAnswer tells old new number want places bytes (Err (DeviceFault dev)) = ⊥

-- Of each place that has the block, a read of its device failed.
abbrev pub HasFailedWhereRight : DevicesState → DevicesState → ℕ → List Place → Type 0
HasFailedWhereRight old new want places =
    (index : ℕ) (place : Place) → slice_get places index ≡ Some place → digest_of (as_read (now old)) place ≡ Some want → DeviceFailed place.dev old.faults new.faults
