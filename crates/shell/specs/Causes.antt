-- The causes of statuses and failures.
use Rattle.std.specs.Prelude.{◌≡◌, ◌≢◌, ◌⊎◌, ℕ, ◌<◌, All, Bool, true, false, if◌then◌else◌, List, ◌++◌, length, take, Option, None, IfSome, option_and_then}
use Rattle.std.specs.List.{list_any}
use Rattle.vol_types.specs.Faults.{RoseBy}
use Rattle.vol_types.specs.declared.layout.Layout.{Layout}
use Rattle.dev_model.specs.Devices.{DevicesState, now}
use Rattle.dev_model.specs.Frames.{AreAfterCalls, AreOnlyRead}
use Rattle.forest_ops.specs.History.{EachEntry}
use Rattle.forest_ops.specs.declared.operation.Reply.{Reply}
use Rattle.forest_ops.specs.declared.operation.Reply.TheVariants.{DeviceFault, Halted, NoMemory, Spent}
use Rattle.forest_ops.specs.declared.operation.Entry.{Entry}
use Rattle.forest_ops.specs.Classes.{class_of}
use Rattle.forest_ops.specs.declared.operation.Class.TheVariants.{Syncs}
use Rattle.script_text.specs.Lines.{lines_of}
use Rattle.script_text.specs.Scripts.{IsFirstBad}
use Rattle.script_text.specs.declared.reading.Line.{Line}
use Rattle.geometry.specs.Faults.{fault_device}
use Rattle.geometry.specs.declared.fault.DiskFault.{DiskFault}
use Rattle.forest_ops.specs.Failures.{Halts, HaveCauses, NoCommitAfterHalt}
use Rattle.vol_types.specs.declared.failure.Halt.{Halt}
use Rattle.plain_forest.specs.Forest.{Forest}
use Rattle.image_view.specs.Found.{Found}
use Rattle.vol_session.specs.Runs.{MayRun}
use Rattle.vol_core.specs.Room.{LeavesRoom, MayKeepRoom}
use Rattle.vol_session.specs.Numbers.{IsFarFromSpent}
use Rattle.vol_session.specs.Sessions.{IsExact}
use Rattle.shell.specs.declared.early_end.EarlyEnd.{EarlyEnd}
use Rattle.shell.specs.declared.early_end.EarlyEnd.TheVariants.{Usage, BadLine, TooLong, Source, OutOfMemory}
use Rattle.shell.specs.Outcome.{Outcome, EndedEarly, Ran, Formatted, Informed, Answered, early_status, format_status, replies_of, text_of}
use Rattle.shell.specs.Tasks.{IsFormat, IsInfo, IsRun, task_of}
use Rattle.shell.specs.Mounts.{InfoCause, MountCause, OnlyReadUnmounted}
use Rattle.shell.specs.Runs.{Run, StreamFaults}
use Rattle.shell.specs.Output.{GaveScript, IsTaken, script_limit}

-- the source failed where it is the cause of an early end, and not else
abbrev pub SourceFailed : EarlyEnd → ℕ → ℕ → Type 0
SourceFailed Source faults faults_after = RoseBy 1 faults faults_after
SourceFailed end faults faults_after = faults_after ≡ faults

-- Why the arguments ask for nothing: they are no command, or no volume may have their layout. Out of memory may come at any
-- time.
abbrev pub ArgumentsCause : List (List ℕ) → List ℕ → EarlyEnd → Type 0
ArgumentsCause arguments sizes Usage = task_of (length sizes) arguments ≡ None
ArgumentsCause arguments sizes OutOfMemory = Unit {0}
ArgumentsCause arguments sizes end = ⊥

-- Why the source gave no script: it failed, its text is too long, or a text was taken that has a first bad line. Out of
-- memory may come at any time.
abbrev pub TextCause : Type 0 → List ℕ → EarlyEnd → Type 0
TextCause source_tells left Source = Unit {0}
TextCause source_tells left TooLong = source_tells → script_limit < length left
TextCause source_tells left (BadLine line cause) = (text : List ℕ) × IsTaken source_tells left text × IsFirstBad (lines_of text) line cause
TextCause source_tells left OutOfMemory = Unit {0}
TextCause source_tells left end = ⊥

-- A run ended before it touched a device: its arguments ask for nothing, or they ask for a run and the source gave no script.
pub record EndsBefore {D : Type 0} (source_tells : Type 0) (arguments : List (List ℕ)) (sizes left : List ℕ) (devices devices_after : D) (end : EarlyEnd) : Type 0 where
  pub cause : ArgumentsCause arguments sizes end ⊎ (IsRun arguments sizes × TextCause source_tells left end)
  pub untouched : devices_after ≡ devices

-- A run ended when it opened the volume: its arguments ask for a run, and the source gave a script.
pub record EndsMounting (source_tells devices_tell : Type 0) (arguments : List (List ℕ)) (left : List ℕ) (old new : DevicesState) (end : EarlyEnd) : Type 0 where
  pub run : IsRun arguments old.sizes
  pub script : List Line
  pub gave : GaveScript source_tells left script
  pub cause : MountCause devices_tell old new end

-- An info ended when it read the devices: its arguments ask for one, and nothing was told of the devices, which were only read.
pub record EndsReading (devices_tell : Type 0) (arguments : List (List ℕ)) (old new : DevicesState) (end : EarlyEnd) : Type 0 where
  pub info : IsInfo arguments old.sizes
  pub cause : InfoCause devices_tell old new end
  pub read : AreOnlyRead devices_tell old new

-- Why a run ended early, in the order of the tests: arguments that ask for nothing, a source that gives no script, devices
-- that hold no volume to open; or devices of which an info has nothing to tell. Before these no device is touched, whatever the end.
abbrev pub EarlyCause : {D : Type 0} → Type 0 → Type 0 → List (List ℕ) → List ℕ → DevicesState → DevicesState → D → D → EarlyEnd → Type 0
EarlyCause source_tells devices_tell arguments left old new devices devices_after end =
    EndsBefore source_tells arguments old.sizes left devices devices_after end ⊎ (EndsMounting source_tells devices_tell arguments left old new end ⊎ EndsReading devices_tell arguments old new end)

-- the reply says that it was out of memory
abbrev pub is_no_memory : Reply → Bool
is_no_memory NoMemory = true
is_no_memory reply = false

-- the reply says that a device failed, or that the session has halted since one did
abbrev pub is_failure : Reply → Bool
is_failure (DeviceFault dev) = true
is_failure (Halted dev tick) = true
is_failure reply = false

-- the status of a run that printed all: 7 where an operation was out of memory, else 6 where a device failed
abbrev pub asked_status : Bool → Bool → ℕ
asked_status lacks_memory has_failed = if lacks_memory then 7 else if has_failed then 6 else 0

-- the status that the replies of a run ask for
abbrev pub replies_status : List Reply → ℕ
replies_status replies = asked_status (list_any is_no_memory replies) (list_any is_failure replies)

-- Less than the whole text was given to the sink.
abbrev pub IsCut : List ℕ → List ℕ → List ℕ → Type 0
IsCut text held held_after = (size : ℕ) × (size < length text) × (held_after ≡ held ++ take size text)

-- The status is the one that the replies ask for; or it is 7, since the text was cut where a line was out of memory.
abbrev pub IsRunStatus : Type 0 → List Reply → List ℕ → List ℕ → List ℕ → ℕ → Type 0
IsRunStatus sink_tells replies text held held_after status = (status ≡ replies_status replies) ⊎ ((status ≡ 7) × (sink_tells → IsCut text held held_after))

-- The status is 5 exactly where the sink failed, and else as it should be.
pub record IsStatus (IsAsFor : ℕ → Type 0) (status : ℕ) (faults : StreamFaults) : Type 0 where
  pub failed : status ≡ 5 → RoseBy 1 faults.sink faults.sink_after
  pub printed : status ≢ 5 → faults.sink_after ≡ faults.sink
  pub otherwise : status ≢ 5 → IsAsFor status

-- Why no line ran. Where nothing is found in the image the devices were only read, whatever the end; and nothing was taken of the source where the arguments ask for no run.
pub record HasEndedEarly {D K : Type 0} (source_tells devices_tell : Type 0) (run : Run D K) (end : EarlyEnd) : Type 0 where
  pub cause : EarlyCause source_tells devices_tell run.arguments run.streams.left run.state run.state_after run.devices run.devices_after end
  pub source : SourceFailed end run.faults.source run.faults.source_after
  pub ends : IsStatus (λ n. n ≡ early_status end) run.status run.faults
  pub unmounted : OnlyReadUnmounted devices_tell run.state run.state_after
  pub left : IsRun run.arguments run.state.sizes ⊎ (run.streams.left_after ≡ run.streams.left)

-- The devices tell what they hold, and their image may be run, and leaves room in the ring of its journal.
pub record MayRunWithRoom (devices_tell : Type 0) (old mounted : DevicesState) : Type 0 where
  pub told : devices_tell
  pub f : Found
  pub may : MayRun f (now old)
  pub room : LeavesRoom f

-- An operation that syncs found no room left in the ring of the journal: it may not be kept of what was opened, and the image may not be run with room.
pub record FoundNoRoom (devices_tell : Type 0) (opening : Found) (old mounted : DevicesState) (entry : Entry) : Type 0 where
  pub syncs : class_of entry.op ≡ Syncs
  pub unkept : ¬ MayKeepRoom opening
  pub without : ¬ MayRunWithRoom devices_tell old mounted

-- The entry says that a number is used up only where its operation syncs, and found no room.
abbrev pub IsUnspent : Type 0 → Found → DevicesState → DevicesState → Entry → Type 0
IsUnspent devices_tell opening old mounted entry = entry.reply ≡ Spent → FoundNoRoom devices_tell opening old mounted entry

-- Why the lines were answered as they were, over a volume that was opened with this forest. The arguments ask for a run.
--
-- Failures: once a device has failed at a write or a flush the session has halted, by one device and at one moment of the run (`halts`);
-- no later entry is a commit; of each device at most as many entries say that it failed as its calls, and its writes and
-- flushes, failed (`faults`). Where the image may be run, an operation that would change the forest fails only where this wouldn't refuse it (`exact`).
-- No entry says that a number is used up, where the volume that was opened is far from that, and the run had fewer than 2^31 moments since; but for that of an operation which syncs over what was opened
-- with no room left in the ring of its journal; and so over an image that may not be run, or leaves none (`unspent`).
pub record HasAnswered {D K : Type 0} (sink_tells devices_tell : Type 0) (run : Run D K) (opening : Found) (mounted : DevicesState) (forest : Forest) (answered : List Answered) (last : Reply) : Type 0 where
  pub arguments : IsRun run.arguments run.state.sizes
  pub source : run.faults.source_after ≡ run.faults.source
  pub ends : IsStatus (IsRunStatus sink_tells (replies_of answered last) (text_of forest answered last) run.streams.held run.streams.held_after) run.status run.faults
  pub halt : Option Halt
  pub halts : Halts halt run.state run.state_after run.trace
  pub no_commit : NoCommitAfterHalt forest run.trace
  pub faults : HaveCauses run.state.faults run.state_after.faults run.trace
  pub exact : devices_tell → (f : Found) → MayRun f (now run.state) → EachEntry (IsExact forest) run.trace
  pub unspent : IsFarFromSpent opening mounted run.state_after → All (IsUnspent devices_tell opening run.state mounted) run.trace

-- The arguments ask for a format with this layout, and the source wasn't touched. A format fails where one of the devices does,
-- and no other failed; or where it is out of memory.
pub record HasFormatted {D K : Type 0} (run : Run D K) (layout : Layout) (fault : Option DiskFault) : Type 0 where
  pub format : IsFormat run.arguments run.state.sizes layout
  pub left : run.streams.left_after ≡ run.streams.left
  pub source : run.faults.source_after ≡ run.faults.source
  pub device : IfSome (option_and_then fault_device fault) (λ dev. dev < length run.state.sizes)
  pub cause : AreAfterCalls (option_and_then fault_device fault) run.state.faults run.state_after.faults
  pub ends : IsStatus (λ n. n ≡ format_status fault) run.status run.faults

-- The arguments ask what the devices hold, and the source wasn't touched.
pub record HasInformed {D K : Type 0} (run : Run D K) : Type 0 where
  pub info : IsInfo run.arguments run.state.sizes
  pub left : run.streams.left_after ≡ run.streams.left
  pub source : run.faults.source_after ≡ run.faults.source
  pub ends : IsStatus (λ n. n ≡ 0) run.status run.faults

-- the causes of a run, by how it went
abbrev pub HasCauses : {D K : Type 0} → Type 0 → Type 0 → Type 0 → Run D K → Found → DevicesState → Forest → Outcome → Type 0
HasCauses source_tells sink_tells devices_tell run opening mounted forest (EndedEarly end) = HasEndedEarly source_tells devices_tell run end
HasCauses source_tells sink_tells devices_tell run opening mounted forest (Ran script answered last) = HasAnswered sink_tells devices_tell run opening mounted forest answered last
HasCauses source_tells sink_tells devices_tell run opening mounted forest (Formatted layout fault) = HasFormatted run layout fault
HasCauses source_tells sink_tells devices_tell run opening mounted forest (Informed f) = HasInformed run
