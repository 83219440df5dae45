-- The laws on what a run leaves.
use Rattle.std.specs.Prelude.{◌≡◌, ◌+◌, ◌≤◌, true, List, [], All}
use Rattle.dev_model.specs.Devices.{DevicesState, now}
use Rattle.dev_model.specs.Disk.{Disk, IsDisk}
use Rattle.forest_ops.specs.History.{History}
use Rattle.image_view.specs.Found.{Found, with_session}
use Rattle.replay.specs.Mending.{IsReady, KeepsMeaning, KeepsPast}
use Rattle.forest_ops.specs.Acknowledged.{AreAcks}
use Rattle.forest_ops.specs.declared.acks.Ack.{Ack}
use Rattle.vol_core.specs.Room.{LeavesRoom}
use Rattle.vol_format.specs.Formatting.{IsFormatted}
use Rattle.vol_format.specs.Fresh.{fresh_found}
use Rattle.vol_session.specs.Survivors.{BeginsWell, Survive}
use Rattle.vol_types.specs.Layouts.{is_layout}
use Rattle.vol_types.specs.declared.layout.Layout.{Layout}
use Rattle.vol_session.specs.Runs.{MayRun, RunSurvives}

-- the volume in the session that a run begins
abbrev pub in_next : Found → Found
in_next f = with_session (f.session + 1) f

-- A session that is ready for a volume that may be run begins well.
abbrev pub SessionsBeginWell : Type 0
SessionsBeginWell = (f : Found) (first start : DevicesState) → MayRun f (now first) → IsReady (in_next f) (now start) → BeginsWell (in_next f) start

-- What survives a session, survives the run that it is of: before the session began whatever a crash left means what was found.
abbrev pub RunsAreSafe : Type 0
RunsAreSafe =
    (f : Found) (first start state : DevicesState) (trace : History) (acks : List Ack) → MayRun f (now first) → KeepsMeaning f first start → first.moment ≤ start.moment
    → All IsDisk (now start) → KeepsPast start state → start.moment ≤ state.moment → AreAcks start.moment state.moment trace acks → Survive (in_next f) start state trace acks → RunSurvives f first state trace acks

-- So it is where no session began.
abbrev pub OpeningIsSafe : Type 0
OpeningIsSafe = (f : Found) (first last : DevicesState) → MayRun f (now first) → KeepsMeaning f first last → RunSurvives f first last [] []

-- A fresh volume may be run.
abbrev pub FreshMayRun : Type 0
FreshMayRun = (layout : Layout) (disks : List Disk) → is_layout layout ≡ true → IsFormatted layout disks → MayRun (fresh_found layout) disks

-- And it leaves room in the ring of the journal.
abbrev pub FreshLeavesRoom : Type 0
FreshLeavesRoom = (layout : Layout) → is_layout layout ≡ true → LeavesRoom (fresh_found layout)
