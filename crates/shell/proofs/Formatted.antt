-- How a format ends, from what its parts say.
use Rattle.std.proofs.Common.{◌≡◌, ◌≤◌, ◌<◌, ℕ, List, true, length, Option, Some, None, ap, ◌∙◌, sym, subst}
use Rattle.std.specs.Prelude.{IfSome}
use Rattle.std.proofs.lemmas.Option.{none-some}
use Rattle.vol_types.specs.declared.layout.Layout.{Layout}
use Rattle.dev_model.specs.Devices.{DevicesState, now}
use Rattle.dev_model.specs.Frames.{AreAfterCalls}
use Rattle.geometry.specs.Faults.{fault_device}
use Rattle.geometry.specs.declared.fault.DiskFault.{DiskFault}
use Rattle.forest_ops.specs.History.{History}
use Rattle.forest_ops.specs.declared.acks.Ack.{Ack}
use Rattle.vol_session.specs.RunLaws.{FreshLeavesRoom, FreshMayRun}
use Rattle.vol_types.specs.Layouts.{is_layout}
use Rattle.vol_format.specs.Formatting.{FormatSurvives, IsFormatted, IsFresh}
use Rattle.shell.specs.declared.early_end.EarlyEnd.{EarlyEnd}
use Rattle.shell.specs.Outcome.{early_line, early_status, formatted_line}
use Rattle.shell.specs.EarlyEnds.{end_of_disk}
use Rattle.shell.specs.Phases.{EndsEarly, Formats}
use Rattle.shell.specs.Survived.{HoldsFresh}

-- Devices that are formatted hold the fresh volume: nothing is pending, so that a crash leaves what is read.
pub holds_fresh : FreshMayRun → FreshLeavesRoom → (layout : Layout) (state : DevicesState) → is_layout layout ≡ true → IsFormatted layout (now state) → HoldsFresh layout state
holds_fresh law room layout state is formatted = record {
  is_formatted = formatted;
  crashes = λ image crash. subst (IsFresh layout) (sym (formatted.mended.found_on.on.quiet image crash)) formatted.is_fresh;
  may_run = law layout (now state) is formatted;
  room = room layout is;
}

module _ {D : Type 0} (state : D → DevicesState) (sink_tells devices_tell : Type 0) (layout : Layout) (old new last : D) where
  -- devices that were formatted
  pub format_done : (line held held_after : List ℕ) (sink_faults sink_faults_after status : ℕ) (early : Option EarlyEnd) (trace : History) (acks : List Ack) → line ≡ formatted_line layout
      → (state old).moment ≤ (state new).moment → (devices_tell → FormatSurvives layout (state old) (state new))
      → (devices_tell → HoldsFresh layout (state new)) → AreAfterCalls None (state old).faults (state new).faults → last ≡ new → early ≡ None
      → EndsEarly sink_tells line 0 held held_after sink_faults sink_faults_after status trace acks
      → Formats sink_tells devices_tell layout (state old) (state last) held held_after sink_faults sink_faults_after status early trace acks
  format_done line held held_after sink_faults sink_faults_after status early trace acks is later survives done cause same none ends =
      subst (λ d. Formats sink_tells devices_tell layout (state old) (state d) held held_after sink_faults sink_faults_after status early trace acks) (sym same) (record {
        fault = None;
        survives = survives;
        done = λ told none. done told;
        device = tt;
        cause = cause;
        later = later;
        early = none;
        ends = subst (λ (text : List ℕ). EndsEarly sink_tells text 0 held held_after sink_faults sink_faults_after status trace acks) is ends;
      })

  -- devices that weren't
  pub format_failed : (fault : DiskFault) (end : EarlyEnd) (held held_after : List ℕ) (sink_faults sink_faults_after status : ℕ) (early : Option EarlyEnd) (trace : History) (acks : List Ack) → end ≡ end_of_disk fault
      → (state old).moment ≤ (state new).moment → (devices_tell → FormatSurvives layout (state old) (state new))
      → IfSome (fault_device fault) (λ dev. dev < length (state old).sizes) → AreAfterCalls (fault_device fault) (state old).faults (state new).faults → last ≡ new → early ≡ Some end
      → EndsEarly sink_tells (early_line end) (early_status end) held held_after sink_faults sink_faults_after status trace acks
      → Formats sink_tells devices_tell layout (state old) (state last) held held_after sink_faults sink_faults_after status early trace acks
  format_failed fault end held held_after sink_faults sink_faults_after status early trace acks is later survives device cause same some ends =
      subst (λ d. Formats sink_tells devices_tell layout (state old) (state d) held held_after sink_faults sink_faults_after status early trace acks) (sym same) (record {
        fault = Some fault;
        survives = survives;
        done = λ told none. absurd (none-some fault (sym none));
        device = device;
        cause = cause;
        later = later;
        early = some ∙ ap (λ (e : EarlyEnd). Some e) is;
        ends = subst (λ (e : EarlyEnd). EndsEarly sink_tells (early_line e) (early_status e) held held_after sink_faults sink_faults_after status trace acks) is ends;
      })
