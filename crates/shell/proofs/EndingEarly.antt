-- What a run promises that ends early, or that formats, from what its parts say.
use Rattle.std.proofs.Common.{◌≡◌, ◌⊎◌, ◌≤◌, ℕ, List, [], length, refl, sym, subst, Some, None}
use Rattle.vol_types.specs.declared.layout.Layout.{Layout}
use Rattle.forest_ops.specs.History.{History, IsLegal}
use Rattle.forest_ops.specs.HistoryLaws.{IsLegal-none}
use Rattle.command_line.specs.declared.request.WordsFault.{WordsFault}
use Rattle.command_line.specs.declared.request.WordsFault.TheVariants as of_words
use Rattle.forest_ops.specs.declared.acks.Ack.{Ack}
use Rattle.dev_model.specs.Devices.{now}
use Rattle.plain_forest.specs.Forest.{Forest}
use Rattle.image_view.specs.Found.{Found}
use Rattle.vol_session.specs.Runs.{MayRun, RunSurvives}
use Rattle.vol_core.specs.Safety.{nothing_found}
use Rattle.vol_session.specs.Marks.{forest_found}
use Rattle.shell.specs.declared.early_end.EarlyEnd.{EarlyEnd}
use Rattle.shell.specs.Outcome.{EndedEarly, Formatted, early_line, early_status}
use Rattle.shell.specs.EarlyEnds.{end_of_arguments}
use Rattle.shell.specs.Tasks.{IsFormat, IsRun, task_of}
use Rattle.shell.specs.Mounts.{OnlyReadUnmounted}
use Rattle.shell.specs.Runs.{Run}
use Rattle.shell.specs.Causes.{ArgumentsCause, EarlyCause, SourceFailed}
use Rattle.shell.specs.Phases.{EndsEarly, Formats}
use Rattle.shell.specs.Headline.{Headline}
use Rattle.shell.proofs.Sessions.{without_acks}

-- arguments that ask for nothing, or that couldn't be read since it was out of memory
pub arguments_cause : (arguments : List (List ℕ)) (sizes : List ℕ) (fault : WordsFault) → (fault ≡ of_words.Usage → task_of (length sizes) arguments ≡ None) → ArgumentsCause arguments sizes (end_of_arguments fault)
arguments_cause arguments sizes of_words.Usage usage = usage refl
arguments_cause arguments sizes of_words.NoMemory usage = tt

-- such arguments leave the source
pub arguments_source : (fault : WordsFault) (count : ℕ) → SourceFailed (end_of_arguments fault) count count
arguments_source of_words.Usage count = refl
arguments_source of_words.NoMemory count = refl

-- no reply is of another forest where there is none
pub legal_none : (forest : Forest) (history : History) → history ≡ [] → IsLegal forest history
legal_none forest history nothing = subst (IsLegal forest) (sym nothing) (IsLegal-none forest)

module _ {D K : Type 0} (source_tells sink_tells devices_tell : Type 0) (held given_at : K → List ℕ) (run : Run D K) where
  -- a run that ends early
  pub ended_early : (end : EarlyEnd)
      → EndsEarly sink_tells (early_line end) (early_status end) run.streams.held run.streams.held_after run.faults.sink run.faults.sink_after run.status run.trace run.acks
      → EarlyCause source_tells devices_tell run.arguments run.streams.left run.state run.state_after run.devices run.devices_after end
      → SourceFailed end run.faults.source run.faults.source_after
      → IsRun run.arguments run.state.sizes ⊎ (run.streams.left_after ≡ run.streams.left)
      → OnlyReadUnmounted devices_tell run.state run.state_after
      → (devices_tell → (f : Found) → MayRun f (now run.state) → RunSurvives f run.state run.state_after [] [])
      → run.state.moment ≤ run.state_after.moment
      → run.early_end ≡ Some end → run.shorts ≡ [] → run.calls ≡ 0
      → Headline source_tells sink_tells devices_tell held given_at run
  ended_early end ends cause source left unmounted survives later early shorts calls = record {
    opening = nothing_found;
    mounted = run.state;
    outcome = EndedEarly end;
    means = tt;
    legal = λ told f may. legal_none (forest_found nothing_found run.state) run.trace ends.nothing;
    told = record { nothing = ends.nothing; prefix = ends.prefix; whole = ends.whole };
    printed = λ told told_too. tt;
    survives = λ told f may.
        subst (λ (trace : History). RunSurvives f run.state run.state_after trace run.acks) (sym ends.nothing)
        (subst (λ (acks : List Ack). RunSurvives f run.state run.state_after [] acks) (sym ends.no_acks) (survives told f may));
    acknowledged = without_acks run.state.moment run.state_after.moment run.trace run.acks ends.nothing ends.no_acks later;
    caused = record {
      cause = cause;
      source = source;
      ends = record { failed = ends.failed; printed = ends.printed; otherwise = ends.otherwise };
      unmounted = unmounted;
      left = left;
    };
    early = early;
    called = calls;
    shorts = shorts;
  }

  -- a run that formats
  pub formatted : (layout : Layout) → IsFormat run.arguments run.state.sizes layout
      → Formats sink_tells devices_tell layout run.state run.state_after run.streams.held run.streams.held_after run.faults.sink run.faults.sink_after run.status run.early_end run.trace run.acks
      → run.faults.source_after ≡ run.faults.source → run.streams.left_after ≡ run.streams.left → run.shorts ≡ [] → run.calls ≡ 0
      → Headline source_tells sink_tells devices_tell held given_at run
  formatted layout format formats source left shorts calls = record {
    opening = nothing_found;
    mounted = run.state;
    outcome = Formatted layout formats.fault;
    means = tt;
    legal = λ told f may. legal_none (forest_found nothing_found run.state) run.trace formats.ends.nothing;
    told = record { nothing = formats.ends.nothing; prefix = formats.ends.prefix; whole = formats.ends.whole };
    printed = λ told told_too. tt;
    survives = λ told. (formats.survives told, formats.done told);
    acknowledged = without_acks run.state.moment run.state_after.moment run.trace run.acks formats.ends.nothing formats.ends.no_acks formats.later;
    caused = record {
      format = format;
      left = left;
      source = source;
      device = formats.device;
      cause = formats.cause;
      ends = record { failed = formats.ends.failed; printed = formats.ends.printed; otherwise = formats.ends.otherwise };
    };
    early = formats.early;
    called = calls;
    shorts = shorts;
  }
