-- What a session keeps of the entry in flight, and of the devices that are to be flushed: what the journal needs next can be done.
use Rattle.std.specs.Prelude.{◌≡◌, ℕ, ◌<◌, ◌≤◌, Bool, true, false, IfSome, List, length, slice_index_or}
use Rattle.core_volume.specs.Volumes.{Volume}
use Rattle.journal_writer.specs.Writers.{most_devices}
use Rattle.journal_ring.specs.Rings.{RingState}

-- The entry in flight has blocks, of which no more are written than there are.
pub record HasParts (ring : RingState) : Type 0 where
  pub some : 0 < length ring.blocks
  pub written : ring.written ≤ length ring.blocks

-- There is a flag for each device that may be there, and none is set but those of so many devices.
pub record AreFlagsOf (devices : ℕ) (flags : List Bool) : Type 0 where
  pub count : length flags ≡ most_devices
  pub there : (dev : ℕ) → slice_index_or flags dev false ≡ true → dev < devices

-- An entry in flight has parts that are left or all written; and no device is to be flushed that isn't there.
pub record KeepsWriter (volume : Volume) : Type 0 where
  pub parts : IfSome volume.writer.flight (λ flight. HasParts volume.writer.ring)
  pub flags : AreFlagsOf (length volume.layout.blocks) volume.writer.unsettled
