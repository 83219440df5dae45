-- How lines are answered, one after another, and what their replies amount to.
use Rattle.std.specs.Prelude.{◌≡◌, ◌≢◌, ◌⊎◌, ◌+◌, ◌^◌, ◌<◌, ◌≤◌, ℕ, All, length, IfSome, IsSome, option_and_then, option_map, ◌||◌, true, max, List, [], ◌∷◌, ◌++◌, map, Option, Some, None}
use Rattle.std.specs.List.{cons_option, filter_map}
use Rattle.vol_types.specs.Faults.{RoseBy}
use Rattle.dev_model.specs.Devices.{DevicesState}
use Rattle.dev_model.specs.Frames.{AreAfterCalls, AreOnlyRead, GoOn}
use Rattle.plain_forest.specs.Forest.{Forest}
use Rattle.text_io.specs.Streams.{GainsBy, GivesPrefix}
use Rattle.script_text.specs.Replies.{end_line_of}
use Rattle.forest_ops.specs.History.{EachEntry, History, IsLegal, commit_count}
use Rattle.forest_ops.specs.declared.operation.Reply.{Reply}
use Rattle.script_text.specs.declared.reading.Line.{Line}
use Rattle.vol_session.specs.Marks.{forest_found}
use Rattle.volume.specs.States.{AreUnspent, VolumeState}
use Rattle.vol_session.specs.Sessions.{IsExact}
use Rattle.vol_session.specs.Survivors.{BeginsWell, Survive}
use Rattle.vol_types.specs.declared.layout.Layout.{Layout}
use Rattle.geometry.specs.declared.fault.DiskFault.{DiskFault}
use Rattle.vol_format.specs.Formatting.{FormatSurvives}
use Rattle.forest_ops.specs.declared.acks.Ack.{Ack}
use Rattle.shell.specs.declared.tally.Tally.{Tally}
use Rattle.shell.specs.declared.page.Page.{Page}
use Rattle.image_view.specs.Found.{Found}
use Rattle.forest_ops.specs.Acknowledged.{AreAcks, synced_count}
use Rattle.forest_ops.specs.Failures.{Halts, HaveCauses, NoCommitAfterHalt}
use Rattle.vol_types.specs.declared.failure.Halt.{Halt}
use Rattle.forest_ops.specs.Fits.{last_entry}
use Rattle.geometry.specs.Faults.{fault_device}
use Rattle.shell.specs.declared.early_end.EarlyEnd.{EarlyEnd}
use Rattle.shell.specs.EarlyEnds.{end_of_disk}
use Rattle.shell.specs.declared.early_end.EarlyEnd.TheVariants.{OutOfMemory}
use Rattle.shell.specs.Mounts.{ComesAfter, InfoCause}
use Rattle.shell.specs.Moments.{GainsAllBut, GainsSince}
use Rattle.shell.specs.Outcome.{Answered, ack_by, ack_of, acks_of, early_line, early_status, entries_of, entry_of, format_line, format_status, may_wait, operation_count, replies_of, reply_line, reply_lines, synced_by, text_of}
use Rattle.shell.specs.Printing.{Prints, has_ended}
use Rattle.shell.specs.Output.{WereMade}
use Rattle.shell.specs.Survived.{HoldsFresh, Informs}
use Rattle.vol_info.specs.Lines.{info_lines}
use Rattle.shell.specs.Causes.{IsCut, IsRunStatus, asked_status, is_failure, is_no_memory}

-- a tally of replies, with one reply more
abbrev pub tally_with : Tally → Reply → Tally
tally_with tally reply = record {
  lacks_memory = tally.lacks_memory || is_no_memory reply;
  has_failed = tally.has_failed || is_failure reply;
  synced = max tally.synced (synced_by reply);
}

-- and with these replies more
abbrev pub tally_after : Tally → List Reply → Tally
tally_after tally [] = tally
tally_after tally (reply ∷ replies) = tally_after (tally_with tally reply) replies

-- the status that a tally asks for
abbrev pub tally_status : Tally → ℕ
tally_status tally = asked_status tally.lacks_memory tally.has_failed

-- Each sync of the history that acknowledges commits acknowledges all before it.
abbrev pub AreSyncsCounted : Forest → History → Type 0
AreSyncsCounted forest trace = EachEntry (λ before entry. (count : ℕ) → synced_count entry.reply ≡ Some count → count ≡ commit_count forest before) trace

-- A session's history goes on by these entries, with syncs that acknowledge all commits, and these acknowledgements were made.
pub record AddsEntries {D : Type 0} (forest : Forest) (state : D → DevicesState) (old new : VolumeState D) (more : History) (acknowledged : List Ack) : Type 0 where
  pub trace : new.trace ≡ old.trace ++ more
  pub acks : new.acks ≡ old.acks ++ acknowledged
  pub counted : AreSyncsCounted forest old.trace → AreSyncsCounted forest new.trace
  pub after : GoOn (state old.core.devices) (state new.core.devices)

-- A line, behind those with the text before it, was given to the sink in time: as `IsGivenInTime` says, or printing has ended, and the sink has gained a prefix of them.
pub record IsGivenSoFar {K : Type 0} (held given_at : K → List ℕ) (start : K) (page : Page) (last : K) (before : List ℕ) (answered : Answered) : Type 0 where
  pub since : GainsSince held given_at start last (length before) answered.moment
  pub by : GainsAllBut held given_at start last (before ++ reply_line answered) (may_wait answered.reply) answered.moment ⊎ ((has_ended page ≡ true) × GivesPrefix (before ++ reply_line answered) (held start) (held last))

-- So was the line of an operation.
abbrev pub IsMade : {K : Type 0} → Type 0 → Type 0 → (K → List ℕ) → (K → List ℕ) → K → Page → K → List ℕ → Answered → Type 0
IsMade {K} sink_tells devices_tell held given_at start page last before answered =
    IsSome answered.line.op → sink_tells → devices_tell → IsGivenSoFar held given_at start page last before answered

-- so is each of these answers, the lines before which have this text
abbrev pub AreMade : {K : Type 0} → Type 0 → Type 0 → (K → List ℕ) → (K → List ℕ) → K → Page → K → List ℕ → List Answered → Type 0
AreMade sink_tells devices_tell held given_at start page last text [] = Unit {0}
AreMade sink_tells devices_tell held given_at start page last text (first ∷ answered) =
    IsMade sink_tells devices_tell held given_at start page last text first
    × AreMade sink_tells devices_tell held given_at start page last (text ++ reply_line first) answered

-- Between two states of a volume so many operations were called of it, as far as it counts.
abbrev pub AreCalled : {D : Type 0} → ℕ → VolumeState D → VolumeState D → Type 0
AreCalled count old new = old.calls + count < 2 ^ 64 → new.calls ≡ old.calls + count

-- What a sink gained between two states of a session it gained by the moment of the second.
abbrev pub Gains : {D K : Type 0} → (D → DevicesState) → Type 0 → Type 0 → (K → List ℕ) → (K → List ℕ) → K → K → VolumeState D → Type 0
Gains state devices_tell sink_tells held given_at first last log = sink_tells → devices_tell → GainsBy held given_at first last (state log.core.devices).moment

-- What a sink gained between two states of a session it gained at the moment of the first or later.
abbrev pub SinceThen : {D K : Type 0} → (D → DevicesState) → Type 0 → Type 0 → (K → List ℕ) → (K → List ℕ) → K → K → VolumeState D → Type 0
SinceThen state devices_tell sink_tells held given_at first last log = sink_tells → devices_tell → GainsSince held given_at first last 0 (state log.core.devices).moment

-- The lines of these answers were printed after a text, each of them in time.
pub record PrintsLines {K : Type 0} (sink_tells devices_tell : Type 0) (held given_at : K → List ℕ) (faults : K → ℕ) (start : K) (text : List ℕ) (answered : List Answered) (page : Page) (sink : K) : Type 0 where
  pub prints : Prints sink_tells held faults start (text ++ reply_lines answered) page sink
  pub made : AreMade sink_tells devices_tell held given_at start page sink text answered

-- Each of the lines was answered, in order, and printed: the history has the entries, and the page the tally of the answers.
pub record RunsLines {D K : Type 0} (forest : Forest) (state : D → DevicesState) (devices_tell sink_tells : Type 0) (held given_at : K → List ℕ) (faults : K → ℕ) (lines : List Line) (old new : VolumeState D) (page new_page : Page) (sink new_sink : K) : Type 0 where
  pub answered : List Answered
  pub are : map (λ a. a.line) answered ≡ lines
  pub history : AddsEntries forest state old new (filter_map entry_of answered) (filter_map ack_of answered)
  pub called : AreCalled (operation_count lines) old new
  pub gains : Gains state devices_tell sink_tells held given_at sink new_sink new
  pub since : SinceThen state devices_tell sink_tells held given_at sink new_sink old
  pub until : All (λ (a : Answered). a.moment ≤ (state new.core.devices).moment) answered
  pub prints : (start : K) (text : List ℕ) → Prints sink_tells held faults start text page sink → Gains state devices_tell sink_tells held given_at start sink old
      → PrintsLines sink_tells devices_tell held given_at faults start text answered new_page new_sink
  pub ended : has_ended page ≡ true → (has_ended new_page ≡ true) × (new_sink ≡ sink)
  pub tally : new_page.tally ≡ tally_after page.tally (map (λ a. a.reply) answered)

-- A last sync was answered: its entry comes after the history, and nothing is printed for it.
pub record RunsSync {D : Type 0} (forest : Forest) (state : D → DevicesState) (old new : VolumeState D) (page new_page : Page) : Type 0 where
  pub reply : Reply
  pub history : AddsEntries forest state old new (last_entry reply) (cons_option (ack_by (state new.core.devices).moment reply) [])
  pub called : AreCalled 1 old new
  pub noted : new_page ≡ record page { tally = tally_with page.tally reply }

-- what a run prints whose lines have this text, after a history and with the tally of its replies
abbrev pub text_with_end : Forest → History → Tally → List ℕ → List ℕ
text_with_end forest trace tally text = text ++ end_line_of (commit_count forest trace) tally.synced

-- What was printed of a text by the end of a run with such a tally: all of it unless the status is 5 or 7, and a prefix of it
-- then.
pub record EndsPrinting {K : Type 0} (sink_tells : Type 0) (held : K → List ℕ) (faults : K → ℕ) (start : K) (text : List ℕ) (tally : Tally) (sink : K) (status : ℕ) : Type 0 where
  pub prefix : sink_tells → GivesPrefix text (held start) (held sink)
  pub whole : sink_tells → status ≢ 5 → status ≢ 7 → held sink ≡ held start ++ text
  pub failed : status ≡ 5 → RoseBy 1 (faults start) (faults sink)
  pub printed : status ≢ 5 → faults sink ≡ faults start
  pub otherwise : status ≢ 5 → (status ≡ tally_status tally) ⊎ ((status ≡ 7) × (sink_tells → IsCut text (held start) (held sink)))

-- A run has ended after its lines: a last sync was answered, and the last line was printed.
pub record RunsEnd {D K : Type 0} (forest : Forest) (state : D → DevicesState) (devices_tell sink_tells : Type 0) (held given_at : K → List ℕ) (faults : K → ℕ) (old new : VolumeState D) (page : Page) (sink new_sink : K) (status : ℕ) : Type 0 where
  pub reply : Reply
  pub history : AddsEntries forest state old new (last_entry reply) (cons_option (ack_by (state new.core.devices).moment reply) [])
  pub called : AreCalled 1 old new
  pub gains : Gains state devices_tell sink_tells held given_at sink new_sink new
  pub since : SinceThen state devices_tell sink_tells held given_at sink new_sink old
  pub ends : (start : K) (text : List ℕ) → Prints sink_tells held faults start text page sink
      → EndsPrinting sink_tells held faults start (text_with_end forest new.trace (tally_with page.tally reply) text) (tally_with page.tally reply) new_sink status
  pub ended : has_ended page ≡ true → new_sink ≡ sink

-- A script was run: each of its lines was answered, in order, and then a last sync.
pub record RunsScript {K : Type 0} (forest : Forest) (sink_tells devices_tell : Type 0) (held given_at : K → List ℕ) (faults : K → ℕ) (script : List Line) (sink sink_after : K) (status : ℕ) (trace : History) (acks : List Ack) (calls moment_after : ℕ) : Type 0 where
  pub answered : List Answered
  pub last : Reply
  pub lines : map (λ a. a.line) answered ≡ script
  pub entries : trace ≡ entries_of answered last
  pub acknowledged : acks ≡ acks_of answered last moment_after
  pub counted : AreSyncsCounted forest trace
  pub called : operation_count script + 1 < 2 ^ 64 → calls ≡ operation_count script + 1
  pub made : WereMade sink_tells devices_tell held given_at sink sink_after [] answered
  pub prefix : sink_tells → GivesPrefix (text_of forest answered last) (held sink) (held sink_after)
  pub whole : sink_tells → status ≢ 5 → status ≢ 7 → held sink_after ≡ held sink ++ text_of forest answered last
  pub failed : status ≡ 5 → RoseBy 1 (faults sink) (faults sink_after)
  pub printed : status ≢ 5 → faults sink_after ≡ faults sink
  pub otherwise : status ≢ 5 → IsRunStatus sink_tells (replies_of answered last) (text_of forest answered last) (held sink) (held sink_after) status

-- Nothing of a script ran: there is no history, and the sink has gained this line, or a prefix of it with status 5.
pub record EndsEarly (sink_tells : Type 0) (line : List ℕ) (as_asked : ℕ) (held held_after : List ℕ) (sink_faults sink_faults_after status : ℕ) (trace : History) (acks : List Ack) : Type 0 where
  pub nothing : trace ≡ []
  pub no_acks : acks ≡ []
  pub prefix : sink_tells → GivesPrefix line held held_after
  pub whole : sink_tells → status ≢ 5 → held_after ≡ held ++ line
  pub failed : status ≡ 5 → RoseBy 1 sink_faults sink_faults_after
  pub printed : status ≢ 5 → sink_faults_after ≡ sink_faults
  pub otherwise : status ≢ 5 → status ≡ as_asked

-- A session over the volume that was opened ran a script to its end, from this state of the devices on.
pub record RunsOpened {D K : Type 0} (state : D → DevicesState) (devices_tell sink_tells : Type 0) (held given_at : K → List ℕ) (faults : K → ℕ) (begun : Found) (start : DevicesState) (script : List Line) (sink sink_after : K) (devices_after : D) (status : ℕ) (early_end : Option EarlyEnd) (trace : History) (acks : List Ack) (calls : ℕ) : Type 0 where
  pub ran : RunsScript (forest_found begun start) sink_tells devices_tell held given_at faults script sink sink_after status trace acks calls (state devices_after).moment
  pub halt : Option Halt
  pub halts : Halts halt start (state devices_after) trace
  pub no_commit : NoCommitAfterHalt (forest_found begun start) trace
  pub causes : HaveCauses start.faults (state devices_after).faults trace
  pub unspent : AreUnspent devices_tell begun start (state devices_after) trace
  pub acknowledged : AreAcks start.moment (state devices_after).moment trace acks
  pub legal : devices_tell → BeginsWell begun start → IsLegal (forest_found begun start) trace
  pub exact : devices_tell → BeginsWell begun start → EachEntry (IsExact (forest_found begun start)) trace
  pub survive : devices_tell → BeginsWell begun start → Survive begun start (state devices_after) trace acks
  pub after : ComesAfter devices_tell start (state devices_after)
  pub early : early_end ≡ None

-- There was no memory to keep the volume that was opened: no line ran, and the devices are as they were.
pub record EndsUnopened {D K : Type 0} (sink_tells : Type 0) (held : K → List ℕ) (faults : K → ℕ) (devices devices_after : D) (sink sink_after : K) (status : ℕ) (early_end : Option EarlyEnd) (trace : History) (acks : List Ack) (calls : ℕ) : Type 0 where
  pub same : devices_after ≡ devices
  pub uncalled : calls ≡ 0
  pub ends : EndsEarly sink_tells (early_line OutOfMemory) (early_status OutOfMemory) (held sink) (held sink_after) (faults sink) (faults sink_after) status trace acks
  pub early : early_end ≡ Some OutOfMemory

-- The devices were only read, and the sink has gained the lines of what was found on them.
pub record TellsFound (sink_tells devices_tell : Type 0) (old new : DevicesState) (held held_after : List ℕ) (sink_faults sink_faults_after status : ℕ) (early_end : Option EarlyEnd) (trace : History) (acks : List Ack) : Type 0 where
  pub f : Found
  pub informs : Informs devices_tell f old new
  pub early : early_end ≡ None
  pub ends : EndsEarly sink_tells (info_lines f) 0 held held_after sink_faults sink_faults_after status trace acks

-- The devices were only read, and the sink has gained the line of why there is nothing to tell of them.
pub record TellsNothing (sink_tells devices_tell : Type 0) (old new : DevicesState) (held held_after : List ℕ) (sink_faults sink_faults_after status : ℕ) (early_end : Option EarlyEnd) (trace : History) (acks : List Ack) : Type 0 where
  pub end : EarlyEnd
  pub cause : InfoCause devices_tell old new end
  pub read : AreOnlyRead devices_tell old new
  pub early : early_end ≡ Some end
  pub ends : EndsEarly sink_tells (early_line end) (early_status end) held held_after sink_faults sink_faults_after status trace acks

-- The devices were formatted, or that failed by a fault, and the sink has gained the line that says so.
pub record Formats (sink_tells devices_tell : Type 0) (layout : Layout) (old new : DevicesState) (held held_after : List ℕ) (sink_faults sink_faults_after status : ℕ) (early_end : Option EarlyEnd) (trace : History) (acks : List Ack) : Type 0 where
  pub fault : Option DiskFault
  pub survives : devices_tell → FormatSurvives layout old new
  pub done : devices_tell → fault ≡ None → HoldsFresh layout new
  pub device : IfSome (option_and_then fault_device fault) (λ dev. dev < length old.sizes)
  pub cause : AreAfterCalls (option_and_then fault_device fault) old.faults new.faults
  pub later : old.moment ≤ new.moment
  pub early : early_end ≡ option_map end_of_disk fault
  pub ends : EndsEarly sink_tells (format_line layout fault) (format_status fault) held held_after sink_faults sink_faults_after status trace acks
