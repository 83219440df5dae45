-- What the entries of a history that say of failures promise together.
use Rattle.std.specs.Prelude.{◌≡◌, ℕ, ◌<◌, ◌≤◌, Bool, true, false, ◌&&◌, ◌||◌, ◌==◌, List, All, length, count_by, slice_index_or, Option, Some, None}
use Rattle.std.specs.List.{list_any}
use Rattle.vol_types.specs.Faults.{RoseBy}
use Rattle.dev_model.specs.Devices.{DevicesState, FaultCounts}
use Rattle.plain_forest.specs.Forest.{Forest}
use Rattle.forest_ops.specs.History.{History, EachEntry, after_all, is_commit}
use Rattle.forest_ops.specs.declared.operation.Op.{Op}
use Rattle.forest_ops.specs.declared.operation.Op.TheVariants.{Fsync, Sync}
use Rattle.forest_ops.specs.declared.operation.Reply.{Reply}
use Rattle.forest_ops.specs.declared.operation.Reply.TheVariants.{DeviceFault, Halted}
use Rattle.forest_ops.specs.declared.operation.Entry.{Entry}
use Rattle.vol_types.specs.declared.failure.Halt.{Halt}

-- the reply says that a device failed
abbrev pub is_device_fault : Reply → Bool
is_device_fault (DeviceFault dev) = true
is_device_fault reply = false

-- the reply says that this device failed
abbrev pub is_fault_of : ℕ → Reply → Bool
is_fault_of dev (DeviceFault failed) = failed == dev
is_fault_of dev reply = false

-- the reply says that the session has halted
abbrev pub is_halted : Reply → Bool
is_halted (Halted dev tick) = true
is_halted reply = false

-- the operation syncs: everything, or what stands at a path
abbrev pub is_sync : Op → Bool
is_sync Sync = true
is_sync (Fsync path) = true
is_sync op = false

-- the entry shows that the session has halted: it says so, or its operation syncs and it says that a device failed
abbrev pub shows_halt : Entry → Bool
shows_halt entry = is_halted entry.reply || (is_sync entry.op && is_device_fault entry.reply)

-- one of the entries says that a device failed
abbrev pub has_failed : History → Bool
has_failed history = list_any (λ entry. is_device_fault entry.reply) history

-- one of the entries shows that the session has halted
abbrev pub has_halted : History → Bool
has_halted history = list_any shows_halt history

-- The reply agrees with this halt: where it says that the session has halted it gives this device and this moment, and where
-- it says to an operation that syncs that a device failed it gives this device.
abbrev pub AgreesWith : Halt → Op → Reply → Type 0
AgreesWith halt op (Halted dev tick) = (dev ≡ halt.dev) × (tick ≡ halt.tick)
AgreesWith halt op (DeviceFault dev) = is_sync op ≡ true → dev ≡ halt.dev
AgreesWith halt op reply = Unit {0}

-- The session halted so, between these states of its devices: one of them failed, at a write or a flush, and each entry that
-- shows the halt gives this device and this moment.
pub record IsHaltOf (old new : DevicesState) (history : History) (halt : Halt) : Type 0 where
  pub device : halt.dev < length old.sizes
  pub no_sooner : old.moment ≤ halt.tick
  pub no_later : halt.tick ≤ new.moment
  pub cause : RoseBy 1 (slice_index_or old.faults.writes halt.dev 0) (slice_index_or new.faults.writes halt.dev 0)
  pub agree : All (λ entry. AgreesWith halt entry.op entry.reply) history

-- All entries that show a halt show this one; where there is none, no entry shows one.
abbrev pub Halts : Option Halt → DevicesState → DevicesState → History → Type 0
Halts None old new history = has_halted history ≡ false
Halts (Some halt) old new history = IsHaltOf old new history halt

-- how many entries say that this device failed
abbrev pub device_faults : ℕ → History → ℕ
device_faults dev history = count_by (λ entry. is_fault_of dev entry.reply) history

-- Of each device at most as many entries say that it failed as its count rose.
abbrev pub AreCounted : History → List ℕ → List ℕ → Type 0
AreCounted history old new = (dev : ℕ) → RoseBy (device_faults dev history) (slice_index_or old dev 0) (slice_index_or new dev 0)

-- The entries that say of a device that it failed are at most as many as its failed calls, and as its failed writes and
-- flushes.
pub record HaveCauses (old new : FaultCounts) (history : History) : Type 0 where
  pub calls : AreCounted history old.calls new.calls
  pub writes : AreCounted history old.writes new.writes

-- No entry that comes after one that shows a halt is a commit.
abbrev pub NoCommitAfterHalt : Forest → History → Type 0
NoCommitAfterHalt opening history = EachEntry (λ before entry. has_halted before ≡ true → is_commit (after_all opening before) entry ≡ false) history
