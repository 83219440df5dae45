-- How a run ends after its lines.
use Rattle.std.proofs.Common.{◌≡◌, inl, inr, ⊎_elim, ℕ, Bool, true, false, Some, if◌then◌else◌, List, [], ◌∷◌, ◌++◌, map, refl, ap, ◌∙◌, sym, subst, arith}
use Rattle.std.specs.Prelude.{◌||◌, ◌+◌, max}
use Rattle.std.specs.List.{cons_option, filter_map, list_any}
use Rattle.dev_model.specs.Devices.{DevicesState}
use Rattle.plain_forest.specs.Forest.{Forest}
use Rattle.forest_ops.specs.History.{History, commit_count}
use Rattle.forest_ops.specs.HistoryLaws.{EachEntry-none}
use Rattle.forest_ops.specs.Acknowledged.{synced_count}
use Rattle.forest_ops.specs.declared.operation.Reply.{Reply}
use Rattle.script_text.specs.Replies.{end_line_of}
use Rattle.script_text.specs.declared.reading.Line.{Line}
use Rattle.forest_ops.specs.declared.acks.Ack.{Ack}
use Rattle.forest_ops.specs.Fits.{last_entry}
use Rattle.text_io.specs.StreamLaws.{gains_nothing}
use Rattle.volume.specs.States.{VolumeState}
use Rattle.shell.specs.declared.tally.Tally.{Tally}
use Rattle.shell.specs.declared.page.Page.{Page}
use Rattle.shell.specs.Outcome.{ack_by, ack_of, acks_of, entries_of, entry_of, greatest_synced, operation_count, replies_of, reply_lines, synced_by, text_of}
use Rattle.shell.specs.Causes.{IsCut, asked_status, is_failure, is_no_memory}
use Rattle.shell.specs.Printing.{Prints, has_ended, page_status}
use Rattle.shell.specs.Phases.{AreSyncsCounted, EndsPrinting, RunsEnd, RunsLines, RunsScript, tally_after, tally_status, tally_with, text_with_end}
use Rattle.shell.proofs.Printing.{all_given, all_or_part, part_given}
use Rattle.shell.proofs.Running.{adds_then, tally_then, were_made}

-- what a status says of a page, by what ended its printing
module _ {K : Type 0} (sink_tells : Type 0) (held : K → List ℕ) (faults : K → ℕ) (start : K) (text : List ℕ) (page : Page) (sink : K) (prints : Prints sink_tells held faults start text page sink) (empty : has_ended page ≡ false → page.lines ≡ []) where
  status_by : (failed lacks cut device : Bool) → page.has_failed ≡ failed → page.tally.lacks_memory ≡ lacks → page.is_cut ≡ cut → page.tally.has_failed ≡ device → (status : ℕ) → status ≡ (if failed then 5 else asked_status (lacks || cut) device) → EndsPrinting sink_tells held faults start text page.tally sink status
  status_by true lacks cut device is_failed is_lacks is_cut is_device status is = record {
    prefix = all_or_part sink_tells held faults start text page sink prints;
    whole = λ told not5. absurd (not5 is);
    failed = λ five. prints.failed is_failed;
    printed = λ not5. absurd (not5 is);
    otherwise = λ not5. absurd (not5 is);
  }
  status_by false true cut device is_failed is_lacks is_cut is_device status is = record {
    prefix = all_or_part sink_tells held faults start text page sink prints;
    whole = λ told not5 not7. absurd (not7 is);
    failed = λ five. absurd (let seven : status ≡ 7 = is in omega (arith, five, seven));
    printed = λ not5. prints.still is_failed;
    otherwise = λ not5. inl (is ∙ sym (ap (λ test. asked_status test page.tally.has_failed) is_lacks));
  }
  status_by false false true device is_failed is_lacks is_cut is_device status is = record {
    prefix = all_or_part sink_tells held faults start text page sink prints;
    whole = λ told not5 not7. absurd (not7 is);
    failed = λ five. absurd (let seven : status ≡ 7 = is in omega (arith, five, seven));
    printed = λ not5. prints.still is_failed;
    otherwise = λ not5. inr (is, part_given sink_tells held faults start text page sink prints is_cut is_failed);
  }
  status_by false false false device is_failed is_lacks is_cut is_device status is =
      let goes : has_ended page ≡ false = ap (λ test. test || page.has_failed) is_cut ∙ is_failed in record {
        prefix = all_or_part sink_tells held faults start text page sink prints;
        whole = λ told not5 not7. all_given sink_tells held faults start text page sink prints goes (empty goes) told;
        failed = λ five. absurd (not_five device status five is);
        printed = λ not5. prints.still is_failed;
        otherwise = λ not5. inl (is ∙ sym (ap (λ test. asked_status test page.tally.has_failed) is_lacks ∙ ap (asked_status false) is_device));
      }
    where
      not_five : (device : Bool) (n : ℕ) → n ≡ 5 → n ≡ asked_status false device → ⊥
      not_five true n five six = let e : n ≡ 6 = six in omega (arith, five, e)
      not_five false n five none = let e : n ≡ 0 = none in omega (arith, five, e)

  pub ends_printing : EndsPrinting sink_tells held faults start text page.tally sink (page_status page)
  ends_printing = status_by page.has_failed page.tally.lacks_memory page.is_cut page.tally.has_failed refl refl refl refl (page_status page) refl

-- a tally by its parts
abbrev tally_of : Bool → Bool → ℕ → Tally
tally_of memory failed synced = record { lacks_memory = memory; has_failed = failed; synced = synced }

or_assoc : (x y z : Bool) → ((x || y) || z) ≡ (x || (y || z))
or_assoc true y z = refl
or_assoc false y z = refl

or_none : (x : Bool) → x ≡ (x || false)
or_none true = refl
or_none false = refl

-- What replies amount to is what one of them says.
tally_is : (tally : Tally) (replies : List Reply)
    → tally_after tally replies ≡ tally_of (tally.lacks_memory || list_any is_no_memory replies) (tally.has_failed || list_any is_failure replies) (max tally.synced (greatest_synced replies))
tally_is tally [] =
    ap (λ test. tally_of test tally.has_failed tally.synced) (or_none tally.lacks_memory)
    ∙ ap (λ test. tally_of (tally.lacks_memory || false) test tally.synced) (or_none tally.has_failed)
    ∙ ap (tally_of (tally.lacks_memory || false) (tally.has_failed || false)) (let e : tally.synced ≡ max tally.synced 0 = omega arith in e)
tally_is tally (reply ∷ replies) =
    let failed = list_any is_failure replies in
    let synced = greatest_synced replies in
    tally_is (tally_with tally reply) replies
    ∙ ap (λ test. tally_of test ((tally.has_failed || is_failure reply) || failed) (max (max tally.synced (synced_by reply)) synced)) (or_assoc tally.lacks_memory (is_no_memory reply) (list_any is_no_memory replies))
    ∙ ap (λ test. tally_of (tally.lacks_memory || (is_no_memory reply || list_any is_no_memory replies)) test (max (max tally.synced (synced_by reply)) synced)) (or_assoc tally.has_failed (is_failure reply) failed)
    ∙ ap (tally_of (tally.lacks_memory || (is_no_memory reply || list_any is_no_memory replies)) (tally.has_failed || (is_failure reply || failed)))
    (let e : max (max tally.synced (synced_by reply)) synced ≡ max tally.synced (max (synced_by reply) synced) = omega arith in e)

-- from none on
tally_from_none : (replies : List Reply) → tally_after (tally_of false false 0) replies ≡ tally_of (list_any is_no_memory replies) (list_any is_failure replies) (greatest_synced replies)
tally_from_none replies = tally_is (tally_of false false 0) replies
    ∙ ap (tally_of (list_any is_no_memory replies) (list_any is_failure replies)) (let e : max 0 (greatest_synced replies) ≡ greatest_synced replies = omega arith in e)

module _ {D K : Type 0} (forest : Forest) (state : D → DevicesState) (devices_tell sink_tells : Type 0) (held given_at : K → List ℕ) (faults : K → ℕ) where
  -- a script was run, where its lines and its end were
  pub script_ran : (status : ℕ) (script : List Line) (start mid last : VolumeState D) (page shown : Page) (sink mid_sink last_sink : K) (trace : History) (acks : List Ack) (calls : ℕ) (devices : D)
      → start.trace ≡ [] → start.acks ≡ [] → start.calls ≡ 0 → page.tally ≡ tally_of false false 0 → Prints sink_tells held faults sink [] page sink → RunsLines forest state devices_tell sink_tells held given_at faults script start mid page shown sink mid_sink → RunsEnd forest state devices_tell sink_tells held given_at faults mid last shown mid_sink last_sink status → trace ≡ last.trace → acks ≡ last.acks → calls ≡ last.calls → devices ≡ last.core.devices
      → RunsScript forest sink_tells devices_tell held given_at faults script sink last_sink status trace acks calls (state devices).moment
  script_ran status script start mid last page shown sink mid_sink last_sink trace acks calls devices begins no_acks no_calls none empty runs ends is_trace is_acks is_calls is_devices =
      let replies = replies_of runs.answered ends.reply in
      let adds = adds_then forest state start mid last (filter_map entry_of runs.answered) (last_entry ends.reply) (filter_map ack_of runs.answered) (cons_option (ack_by (state last.core.devices).moment ends.reply) []) runs.history ends.history in
      let entries : last.trace ≡ entries_of runs.answered ends.reply = adds.trace ∙ ap (λ list. list ++ entries_of runs.answered ends.reply) begins in
      let are_acks : last.acks ≡ acks_of runs.answered ends.reply (state last.core.devices).moment = adds.acks ∙ ap (λ list. list ++ acks_of runs.answered ends.reply (state last.core.devices).moment) no_acks in
      let printed = runs.prints sink [] empty (λ told told_too. gains_nothing held given_at sink (state start.core.devices).moment) in
      let tally : tally_with shown.tally ends.reply ≡ tally_of (list_any is_no_memory replies) (list_any is_failure replies) (greatest_synced replies) =
      ap (λ t. tally_with t ends.reply) (runs.tally ∙ ap (λ t. tally_after t (map (λ a. a.reply) runs.answered)) none)
      ∙ tally_then (tally_of false false 0) (map (λ a. a.reply) runs.answered) (ends.reply ∷ []) ∙ tally_from_none replies in
      let text : text_with_end forest last.trace (tally_with shown.tally ends.reply) (reply_lines runs.answered) ≡ text_of forest runs.answered ends.reply =
      ap (λ h. reply_lines runs.answered ++ end_line_of (commit_count forest h) (tally_with shown.tally ends.reply).synced) entries
      ∙ ap (λ (t : Tally). reply_lines runs.answered ++ end_line_of (commit_count forest (entries_of runs.answered ends.reply)) t.synced) tally in
      let ended : EndsPrinting sink_tells held faults sink (text_of forest runs.answered ends.reply) (tally_with shown.tally ends.reply) last_sink status =
      subst (λ t. EndsPrinting sink_tells held faults sink t (tally_with shown.tally ends.reply) last_sink status) text (ends.ends sink (reply_lines runs.answered) printed.prints) in
      record {
        answered = runs.answered;
        last = ends.reply;
        lines = runs.are;
        entries = is_trace ∙ entries;
        acknowledged = is_acks ∙ are_acks ∙ ap (λ d. acks_of runs.answered ends.reply (state d).moment) (sym is_devices);
        called = λ few.
            let by_lines : mid.calls ≡ start.calls + operation_count script = runs.called (omega (arith, few, no_calls)) in
            let by_sync : last.calls ≡ mid.calls + 1 = ends.called (omega (arith, few, no_calls, by_lines)) in
            omega (arith, no_calls, by_lines, by_sync, is_calls);
        counted = subst (AreSyncsCounted forest) (sym is_trace) (adds.counted (subst (AreSyncsCounted forest) (sym begins) (EachEntry-none (λ before one. (count : ℕ) → synced_count one.reply ≡ Some count → count ≡ commit_count forest before))));
        made = were_made sink_tells devices_tell held given_at sink shown mid_sink last_sink (state mid.core.devices).moment (state last.core.devices).moment ends.ended ends.gains ends.since [] runs.answered runs.until printed.made;
        prefix = ended.prefix;
        whole = ended.whole;
        failed = ended.failed;
        printed = ended.printed;
        otherwise = λ not5. ⊎_elim
            (λ (asked : status ≡ tally_status (tally_with shown.tally ends.reply)). inl (asked ∙ ap tally_status tally))
            (λ (cut : (status ≡ 7) × (sink_tells → IsCut (text_of forest runs.answered ends.reply) (held sink) (held last_sink))). inr cut)
            (ended.otherwise not5);
      }
