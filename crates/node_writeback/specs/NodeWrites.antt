-- What it does to devices that the next block of a node is written.
use Rattle.std.specs.Prelude.{◌≡◌, ℕ, ◌+◌, ◌<◌, Bool, List, Option, None, Contains, IfSome, length}
use Rattle.dev_model.specs.Crashes.{EachCrash, IsCrashImageBut, SameBut}
use Rattle.dev_model.specs.Devices.{DevicesState, IsPlace, now}
use Rattle.dev_model.specs.Disk.{as_read}
use Rattle.dev_model.specs.Frames.{GoOn, after_writes}
use Rattle.dev_model.specs.HeldBlocks.{HoldOnly}
use Rattle.node_store.specs.Plans.{part_bytes}
use Rattle.node_store.specs.Writes.{HoldCopies, IsCopyBlock, IsCopyOf, KeepsLengths}
use Rattle.node_store.specs.declared.planning.Blocked.{Blocked}
use Rattle.vol_types.specs.Faults.{RoseBy}
use Rattle.vol_types.specs.Limits.{bucket_blocks}
use Rattle.vol_types.specs.declared.pointers.Place.{Place}

-- The devices have all blocks of the buckets at these places.
abbrev pub HaveBuckets : List ℕ → List Place → Type 0
HaveBuckets sizes places = (place : Place) → Contains places place → (n : ℕ) → n < bucket_blocks → IsPlace sizes place.dev (place.block + n)

-- The block is written on every place of the node, or one of their devices failed. Until these are flushed a crash may leave any bytes there, and all
-- else as it might before; nothing else was asked of the devices. A node that has a place takes time to be written.
pub record WritesNodePart (tells : Type 0) (blocked : Blocked) (part : ℕ) (failed : Option ℕ) (old new : DevicesState) : Type 0 where
  pub crashes : tells → EachCrash (λ _ _ image. IsCrashImageBut (IsCopyOf blocked.places (blocked.block + part)) (now old) image) old new
  pub lengths : tells → KeepsLengths old new
  pub written : tells → failed ≡ None → HoldCopies blocked.places (blocked.block + part) (part_bytes blocked part) (as_read (now new))
  pub elsewhere : tells → SameBut (IsCopyOf blocked.places (blocked.block + part)) (as_read (now old)) (as_read (now new))
  pub asks : tells → (opens : List ℕ → Bool) → HoldOnly opens (IsCopyBlock blocked.places (blocked.block + part) (part_bytes blocked part)) old new
  pub goes_on : GoOn old new
  pub cause : new.faults ≡ after_writes failed old.faults
  pub device : IfSome failed (λ dev. (place : Place) × Contains blocked.places place × (dev ≡ place.dev))
  pub takes_time : failed ≡ None → 0 < length blocked.places → RoseBy 1 old.moment new.moment
