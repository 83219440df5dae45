-- What a run promises whose arguments ask for a run and whose source gave a script, once a volume was opened: its lines ran over it, or there was no memory to keep it.
use Rattle.std.proofs.Common.{◌≡◌, ◌≤◌, ◌<◌, ◌^◌, length, inl, inr, ℕ, List, [], Option, sym, subst, arith}
use Rattle.std.specs.Prelude.{All}
use Rattle.dev_model.specs.Devices.{DevicesState, now}
use Rattle.dev_model.specs.Disk.{IsDisk}
use Rattle.dev_model.specs.Frames.{GoOn}
use Rattle.forest_ops.specs.History.{History}
use Rattle.image_view.specs.Found.{Found}
use Rattle.forest_ops.specs.declared.acks.Ack.{Ack}
use Rattle.vol_session.specs.RunLaws.{OpeningIsSafe, RunsAreSafe, SessionsBeginWell}
use Rattle.vol_session.specs.Runs.{RunSurvives}
use Rattle.script_text.specs.declared.reading.Line.{Line}
use Rattle.vol_session.specs.Marks.{forest_found}
use Rattle.vol_types.specs.declared.space.Short.{Short}
use Rattle.shell.specs.declared.early_end.EarlyEnd.{EarlyEnd}
use Rattle.shell.specs.declared.early_end.EarlyEnd.TheVariants.{OutOfMemory}
use Rattle.shell.specs.Causes.{MayRunWithRoom}
use Rattle.shell.specs.Headline.{Headline}
use Rattle.shell.specs.Mounts.{IsOpenedFrom, OnlyReadUnmounted, OpeningKeeps}
use Rattle.shell.specs.Outcome.{Ran}
use Rattle.shell.specs.Output.{GaveScript}
use Rattle.shell.specs.Phases.{EndsUnopened, RunsOpened}
use Rattle.shell.specs.Runs.{Run}
use Rattle.shell.specs.Tasks.{IsRun}
use Rattle.shell.proofs.EndingEarly.{ended_early}
use Rattle.shell.proofs.Fitting.{run_fits}
use Rattle.shell.proofs.Moments.{told_is_acknowledged}
use Rattle.shell.proofs.ShortRuns.{few_entries, few_operations}
use Rattle.shell.proofs.Sessions.{acks_since, all_unspent, begins_well, causes_since, halts_since, opening_leaves, run_survives, same_forest}

module _ {D K : Type 0} (source_tells sink_tells devices_tell : Type 0) (state : D → DevicesState) (held given_at : K → List ℕ) (faults : K → ℕ) (arguments : List (List ℕ)) (left left_after : List ℕ) (source_faults source_after : ℕ)
    (sink sink_after : K) (devices devices_after : D) (status : ℕ) (early_end : Option EarlyEnd) (trace : History) (acks : List Ack) (shorts : List (ℕ × Short)) (calls : ℕ) where
  -- the run, by what it was given and what it left
  abbrev whole_run : Run D K
  whole_run = record {
    arguments = arguments;
    streams = record { left = left; left_after = left_after; held = held sink; held_after = held sink_after };
    faults = record { source = source_faults; source_after = source_after; sink = faults sink; sink_after = faults sink_after };
    sink = sink;
    sink_after = sink_after;
    devices = devices;
    devices_after = devices_after;
    state = state devices;
    state_after = state devices_after;
    status = status;
    early_end = early_end;
    trace = trace;
    acks = acks;
    shorts = shorts;
    calls = calls;
  }

  -- Its lines ran over the volume.
  pub ran_opened : (opening : Found) (mounted : DevicesState) (script : List Line) → SessionsBeginWell → RunsAreSafe → (devices_tell → All IsDisk (now mounted)) → IsOpenedFrom devices_tell opening (state devices) mounted
      → OpeningKeeps devices_tell (state devices) mounted → GoOn (state devices) mounted → GaveScript source_tells left script → source_after ≡ source_faults → IsRun arguments (state devices).sizes
      → RunsOpened state devices_tell sink_tells held given_at faults opening mounted script sink sink_after devices_after status early_end trace acks calls → shorts ≡ [] → Headline source_tells sink_tells devices_tell held given_at whole_run
  ran_opened opening mounted script begins safe disks opened keeps before gave still is_run opened_ran none =
      let old = state devices in
      let new = state devices_after in
      let ran = opened_ran.ran in
      record {
        opening = opening;
        mounted = mounted;
        outcome = Ran script ran.answered ran.last;
        means = record {
          opened = opened;
          keeps = keeps;
          before = before;
          after = opened_ran.after;
          forest = λ told f may untorn. same_forest devices_tell opening old mounted opened told f may keeps before (disks told) untorn;
        };
        legal = λ told f may. opened_ran.legal told (begins_well devices_tell opening old mounted opened told f may begins);
        told = record {
          reads = gave;
          lines = ran.lines;
          entries = ran.entries;
          fits = run_fits (forest_found opening mounted) ran.answered ran.last trace ran.entries ran.counted;
          acknowledged = ran.acknowledged;
          made = ran.made;
          prefix = ran.prefix;
          whole = ran.whole;
        };
        survives = λ told f may. run_survives devices_tell opening old mounted opened told f may keeps before (disks told) begins safe new trace acks opened_ran.after opened_ran.acknowledged (opened_ran.survive told);
        printed = λ told told_too f may moment from to image crash untorn.
            let left = run_survives devices_tell opening old mounted opened told_too f may keeps before (disks told_too) begins safe new trace acks opened_ran.after opened_ran.acknowledged (opened_ran.survive told_too) moment from to image crash untorn in
            record {
              left = left;
              told = λ count tells. told_is_acknowledged held given_at sink_tells devices_tell sink sink_after ran.answered ran.last acks new.moment moment count ran.acknowledged told told_too ran.made tells;
            };
        acknowledged = acks_since old.moment mounted.moment new.moment trace acks before.later opened_ran.acknowledged;
        caused = record {
          arguments = is_run;
          source = still;
          ends = record { failed = ran.failed; printed = ran.printed; otherwise = ran.otherwise };
          halt = opened_ran.halt;
          halts = halts_since opened_ran.halt old mounted new trace before opened_ran.halts;
          no_commit = opened_ran.no_commit;
          faults = causes_since old mounted new trace before opened_ran.causes;
          exact = λ told f may. opened_ran.exact told (begins_well devices_tell opening old mounted opened told f may begins);
          unspent = λ far.
              all_unspent devices_tell opening old mounted (λ (with_room : MayRunWithRoom devices_tell old mounted). record {
                told = with_room.told;
                well = begins_well devices_tell opening old mounted opened with_room.told with_room.f with_room.may begins;
                room = opening_leaves devices_tell opening old mounted opened with_room.told with_room.f with_room.may with_room.room;
              }) trace
              (opened_ran.unspent far (subst (λ (t : History). length t < 2 ^ 31) (sym ran.entries) (few_entries source_tells left script ran.answered ran.last gave ran.lines)));
        };
        early = opened_ran.early;
        called = ran.called (few_operations source_tells left script gave);
        shorts = none;
      }

  -- There was no memory to keep the volume.
  pub ended_unopened : (mounted : D) (script : List Line) → OpeningIsSafe → OpeningKeeps devices_tell (state devices) (state mounted) → GoOn (state devices) (state mounted) → OnlyReadUnmounted devices_tell (state devices) (state mounted)
      → GaveScript source_tells left script → source_after ≡ source_faults → IsRun arguments (state devices).sizes → EndsUnopened sink_tells held faults mounted devices_after sink sink_after status early_end trace acks calls → shorts ≡ []
      → Headline source_tells sink_tells devices_tell held given_at whole_run
  ended_unopened mounted script safe keeps before unmounted gave still is_run unopened none =
      let old = state devices in
      ended_early source_tells sink_tells devices_tell held given_at whole_run OutOfMemory unopened.ends
      (inr (inl (record { run = is_run; script = script; gave = gave; cause = tt })))
      still
      (inl is_run)
      (subst (λ d. OnlyReadUnmounted devices_tell old (state d)) (sym unopened.same) unmounted)
      (λ told f may. subst (λ d. RunSurvives f old (state d) [] []) (sym unopened.same) (safe f old (state mounted) may (keeps told f may.on)))
      (subst (λ d. old.moment ≤ (state d).moment) (sym unopened.same) before.later)
      unopened.early none unopened.uncalled
