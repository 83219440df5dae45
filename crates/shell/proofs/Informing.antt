-- What an info promises, from what its parts say.
use Rattle.std.proofs.Common.{◌≡◌, ◌⊎◌, ⊎_elim, inr, ℕ, List, [], refl, sym, subst, Err, Option, Some, None}
use Rattle.std.specs.Prelude.{IfSome}
use Rattle.dev_model.specs.Devices.{DevicesState, now}
use Rattle.dev_model.specs.Disk.{as_read}
use Rattle.dev_model.specs.Frames.{AreOnlyRead}
use Rattle.forest_ops.specs.History.{History}
use Rattle.geometry.specs.Faults.{DeviceFailed, SomeFailed}
use Rattle.image_view.specs.Found.{Found, found}
use Rattle.image_view.specs.declared.fault.MountFault.{MountFault}
use Rattle.image_view.specs.declared.fault.MountFault.TheVariants as faults
use Rattle.image_reader.specs.Answers.{IsEarly}
use Rattle.image_reader.specs.Faults.{mount_fault_device}
use Rattle.replay.proofs.OpenedVolume.{stay_means}
use Rattle.forest_ops.specs.declared.acks.Ack.{Ack}
use Rattle.vol_session.specs.RunLaws.{OpeningIsSafe}
use Rattle.vol_session.specs.Runs.{MayRun, RunSurvives}
use Rattle.vol_core.specs.Safety.{nothing_found}
use Rattle.vol_info.specs.Readings.{IsFaultOf}
use Rattle.vol_session.specs.Marks.{forest_found}
use Rattle.shell.specs.declared.early_end.EarlyEnd.{EarlyEnd}
use Rattle.shell.specs.declared.early_end.EarlyEnd.TheVariants.{Usage, BadLine, TooLong, Source, Refused, Device, OutOfMemory}
use Rattle.shell.specs.Causes.{SourceFailed}
use Rattle.shell.specs.EarlyEnds.{end_of_mount}
use Rattle.shell.specs.Headline.{Headline}
use Rattle.shell.specs.Informing.{IsInfoText}
use Rattle.shell.specs.Mounts.{InfoCause}
use Rattle.shell.specs.Outcome.{Informed, early_line, early_status}
use Rattle.shell.specs.Phases.{EndsEarly, TellsFound, TellsNothing}
use Rattle.shell.specs.Runs.{Run}
use Rattle.shell.specs.Tasks.{IsInfo}
use Rattle.shell.proofs.EndingEarly.{ended_early, legal_none}
use Rattle.shell.proofs.Sessions.{without_acks}

-- why there is nothing to tell of devices
pub read_ended : (tells : Type 0) (old new : DevicesState) (fault : MountFault)
    → (tells → (SomeFailed old.faults new.faults → ⊥) → IsFaultOf (found (as_read (now old))) fault)
    → (tells → IsEarly fault → found (as_read (now old)) ≡ Err fault)
    → ((check : ℕ) → fault ≡ faults.Unsound check → ⊥)
    → IfSome (mount_fault_device fault) (λ dev. DeviceFailed dev old.faults new.faults) → InfoCause tells old new (end_of_mount fault)
read_ended tells old new faults.NoSuper found early untested cause = λ told shows. record { fault = faults.NoSuper; finds = early told tt; reason = refl }
read_ended tells old new faults.Version found early untested cause = λ told shows. record { fault = faults.Version; finds = early told tt; reason = refl }
read_ended tells old new faults.Mixed found early untested cause = λ told shows. record { fault = faults.Mixed; finds = early told tt; reason = refl }
read_ended tells old new faults.BadLayout found early untested cause = λ told shows. record { fault = faults.BadLayout; finds = early told tt; reason = refl }
read_ended tells old new faults.NoEntry found early untested cause = λ told shows. record { fault = faults.NoEntry; finds = early told tt; reason = refl }
read_ended tells old new (faults.MissingEntry sequence) found early untested cause = λ told shows. record { fault = faults.MissingEntry sequence; finds = early told tt; reason = refl }
read_ended tells old new (faults.BadNode place) found early untested cause = λ told shows. record { fault = faults.BadNode place; finds = found told shows; reason = refl }
read_ended tells old new (faults.Unsound check) found early untested cause = absurd (untested check refl)
read_ended tells old new (faults.DeviceFault dev) found early untested cause = cause
read_ended tells old new faults.NoMemory found early untested cause = tt

-- reading devices leaves the source
read_source : (tells : Type 0) (old new : DevicesState) (count count_after : ℕ) (end : EarlyEnd) → InfoCause tells old new end → count_after ≡ count → SourceFailed end count count_after
read_source tells old new count count_after Usage cause same = absurd cause
read_source tells old new count count_after Source cause same = absurd cause
read_source tells old new count count_after TooLong cause same = absurd cause
read_source tells old new count count_after (BadLine line fault) cause same = absurd cause
read_source tells old new count count_after (Refused refusal) cause same = same
read_source tells old new count count_after (Device dev) cause same = same
read_source tells old new count count_after OutOfMemory cause same = same

-- a volume that was only read may be run again
read_survives : (tells : Type 0) (old new : DevicesState) → OpeningIsSafe → AreOnlyRead tells old new → tells → (f : Found) → MayRun f (now old) → RunSurvives f old new [] []
read_survives tells old new law read told f may = law f old new may (stay_means f old new may.on (read.disks told))

module _ {D : Type 0} (state : D → DevicesState) (sink_tells devices_tell : Type 0) (held held_after : List ℕ) (sink_faults sink_faults_after status : ℕ) (early : Option EarlyEnd) (trace : History) (acks : List Ack) (old new last : D) (same : last ≡ new) (read : AreOnlyRead devices_tell (state old) (state new)) where
  -- the lines of what was found were given
  pub told_found : (text : List ℕ) → IsInfoText devices_tell text (state old) (state new) → early ≡ None → EndsEarly sink_tells text 0 held held_after sink_faults sink_faults_after status trace acks
      → TellsFound sink_tells devices_tell (state old) (state last) held held_after sink_faults sink_faults_after status early trace acks
  told_found text is none ends =
      subst (λ d. TellsFound sink_tells devices_tell (state old) (state d) held held_after sink_faults sink_faults_after status early trace acks) (sym same) (record {
        f = is.f;
        informs = record { was = is.was; read = read };
        early = none;
        ends = subst (λ (t : List ℕ). EndsEarly sink_tells t 0 held held_after sink_faults sink_faults_after status trace acks) is.lines ends;
      })

  -- the line of why there are none was given
  pub told_nothing : (end : EarlyEnd) → InfoCause devices_tell (state old) (state new) end → early ≡ Some end → EndsEarly sink_tells (early_line end) (early_status end) held held_after sink_faults sink_faults_after status trace acks
      → TellsNothing sink_tells devices_tell (state old) (state last) held held_after sink_faults sink_faults_after status early trace acks
  told_nothing end cause some ends =
      subst (λ d. TellsNothing sink_tells devices_tell (state old) (state d) held held_after sink_faults sink_faults_after status early trace acks) (sym same) (record {
        end = end;
        cause = cause;
        read = read;
        early = some;
        ends = ends;
      })

module _ {D K : Type 0} (source_tells sink_tells devices_tell : Type 0) (held given_at : K → List ℕ) (run : Run D K) (info : IsInfo run.arguments run.state.sizes) (still : run.faults.source_after ≡ run.faults.source) (left : run.streams.left_after ≡ run.streams.left) (law : OpeningIsSafe) (shorts : run.shorts ≡ []) (calls : run.calls ≡ 0) where
  survived : AreOnlyRead devices_tell run.state run.state_after → run.trace ≡ [] → run.acks ≡ [] → devices_tell → (f : Found) → MayRun f (now run.state) → RunSurvives f run.state run.state_after run.trace run.acks
  survived read nothing no_acks told f may =
      subst (λ (trace : History). RunSurvives f run.state run.state_after trace run.acks) (sym nothing)
      (subst (λ (acks : List Ack). RunSurvives f run.state run.state_after [] acks) (sym no_acks) (read_survives devices_tell run.state run.state_after law read told f may))

  -- an info that tells what was found
  informed_found : TellsFound sink_tells devices_tell run.state run.state_after run.streams.held run.streams.held_after run.faults.sink run.faults.sink_after run.status run.early_end run.trace run.acks
      → Headline source_tells sink_tells devices_tell held given_at run
  informed_found tells = record {
    opening = nothing_found;
    mounted = run.state;
    outcome = Informed tells.f;
    means = tells.informs;
    legal = λ told f may. legal_none (forest_found nothing_found run.state) run.trace tells.ends.nothing;
    told = record { nothing = tells.ends.nothing; prefix = tells.ends.prefix; whole = tells.ends.whole };
    printed = λ told told_too. tt;
    survives = survived tells.informs.read tells.ends.nothing tells.ends.no_acks;
    acknowledged = without_acks run.state.moment run.state_after.moment run.trace run.acks tells.ends.nothing tells.ends.no_acks tells.informs.read.later;
    caused = record {
      info = info;
      left = left;
      source = still;
      ends = record { failed = tells.ends.failed; printed = tells.ends.printed; otherwise = tells.ends.otherwise };
    };
    early = tells.early;
    called = calls;
    shorts = shorts;
  }

  -- one that has nothing to tell
  informed_nothing : TellsNothing sink_tells devices_tell run.state run.state_after run.streams.held run.streams.held_after run.faults.sink run.faults.sink_after run.status run.early_end run.trace run.acks
      → Headline source_tells sink_tells devices_tell held given_at run
  informed_nothing tells =
      ended_early source_tells sink_tells devices_tell held given_at run tells.end tells.ends
      (inr (inr (record { info = info; cause = tells.cause; read = tells.read })))
      (read_source devices_tell run.state run.state_after run.faults.source run.faults.source_after tells.end tells.cause still)
      (inr left)
      (λ told unfailed error. tells.read)
      (read_survives devices_tell run.state run.state_after law tells.read)
      tells.read.later tells.early shorts calls

  -- an info
  pub informed : TellsFound sink_tells devices_tell run.state run.state_after run.streams.held run.streams.held_after run.faults.sink run.faults.sink_after run.status run.early_end run.trace run.acks
      ⊎ TellsNothing sink_tells devices_tell run.state run.state_after run.streams.held run.streams.held_after run.faults.sink run.faults.sink_after run.status run.early_end run.trace run.acks
      → Headline source_tells sink_tells devices_tell held given_at run
  informed tells = ⊎_elim informed_found informed_nothing tells
