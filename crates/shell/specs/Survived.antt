-- What the run opened, and what a crash at each of its moments leaves.
use Rattle.std.specs.Prelude.{◌≡◌, List, None}
use Rattle.vol_types.specs.declared.layout.Layout.{Layout}
use Rattle.dev_model.specs.Disk.{as_read}
use Rattle.dev_model.specs.Devices.{DevicesState, now}
use Rattle.dev_model.specs.Crashes.{EachCrashNow}
use Rattle.dev_model.specs.Frames.{AreOnlyRead, GoOn}
use Rattle.replay.specs.Mending.{IsVolumeUntorn}
use Rattle.forest_ops.specs.History.{History}
use Rattle.forest_ops.specs.declared.acks.Ack.{Ack}
use Rattle.image_view.specs.Found.{Found}
use Rattle.vol_session.specs.Runs.{MayRun, RunSurvives}
use Rattle.vol_format.specs.Formatting.{FormatSurvives, IsFormatted, IsFresh}
use Rattle.vol_format.specs.Fresh.{fresh_found}
use Rattle.vol_core.specs.Room.{LeavesRoom}
use Rattle.vol_session.specs.Marks.{forest_found}
use Rattle.shell.specs.Mounts.{ComesAfter, IsOpenedFrom, OpeningKeeps}
use Rattle.shell.specs.Outcome.{Outcome, EndedEarly, Ran, Formatted, Informed}
use Rattle.vol_info.specs.Readings.{WasFound}

-- The run opened this volume at this state of its devices, and they went on from there. Its forest is the image's, where that may be run, and no torn block of the journal
-- areas or of the roots opened by chance meanwhile.
pub record Opened (devices_tell : Type 0) (opening : Found) (old mounted new : DevicesState) : Type 0 where
  pub opened : IsOpenedFrom devices_tell opening old mounted
  pub keeps : OpeningKeeps devices_tell old mounted
  pub before : GoOn old mounted
  pub after : ComesAfter devices_tell mounted new
  pub forest : devices_tell → (f : Found) → MayRun f (now old) → IsVolumeUntorn f old.moment mounted.moment mounted (as_read (now mounted)) → forest_found opening mounted ≡ forest_found f old

-- What was told of the devices was found on them, and they were only read.
pub record Informs (devices_tell : Type 0) (f : Found) (old new : DevicesState) : Type 0 where
  pub was : WasFound devices_tell f old new
  pub read : AreOnlyRead devices_tell old new

-- A run of a script opened a volume, and an info read one; no other run did.
abbrev pub OpensVolume : Type 0 → DevicesState → DevicesState → DevicesState → Found → Outcome → Type 0
OpensVolume devices_tell old mounted new opening (EndedEarly end) = Unit {0}
OpensVolume devices_tell old mounted new opening (Ran script answered last) = Opened devices_tell opening old mounted new
OpensVolume devices_tell old mounted new opening (Formatted layout fault) = Unit {0}
OpensVolume devices_tell old mounted new opening (Informed f) = Informs devices_tell f old new

-- The devices hold the fresh volume, whatever a crash leaves of them, and it may be run, and leaves room in the ring of the journal.
pub record HoldsFresh (layout : Layout) (state : DevicesState) : Type 0 where
  pub is_formatted : IsFormatted layout (now state)
  pub crashes : EachCrashNow (IsFresh layout) state
  pub may_run : MayRun (fresh_found layout) (now state)
  pub room : LeavesRoom (fresh_found layout)

-- A crash at each moment leaves, of a volume that may be run, one that may be run again: that after a prefix of the history's commits, with all that was acknowledged by then, which stands whole on
-- every metadata device, so that each of them alone has it; of devices that are formatted, what they meant, or nothing, or the fresh volume, and that one where they were formatted.
abbrev pub IsSurvived : DevicesState → DevicesState → DevicesState → History → List Ack → Outcome → Type 0
IsSurvived old mounted new trace acks (EndedEarly end) = (f : Found) → MayRun f (now old) → RunSurvives f old new trace acks
IsSurvived old mounted new trace acks (Ran script answered last) = (f : Found) → MayRun f (now old) → RunSurvives f old new trace acks
IsSurvived old mounted new trace acks (Formatted layout fault) = FormatSurvives layout old new × (fault ≡ None → HoldsFresh layout new)
IsSurvived old mounted new trace acks (Informed found_there) = (f : Found) → MayRun f (now old) → RunSurvives f old new trace acks
