-- How answers follow one another.
use Rattle.std.proofs.Common.{◌≡◌, ◌⊎◌, inl, inr, ⊎_elim, ℕ, ◌||◌, true, false, Bool, List, [], ◌∷◌, ◌++◌, length, map, refl, ap, ◌∙◌, sym, subst, arith, append_assoc, append-nil, Some, None, Option}
use Rattle.std.specs.Prelude.{◌+◌, ◌<◌, ◌^◌, ◌≤◌, All, IsSome, max, Result, Ok, Err, OnOk, OnErr, is_err}
use Rattle.std.specs.Option.{option_to_list}
use Rattle.std.specs.List.{cons_option, filter_map}
use Rattle.std.proofs.lemmas.Bool.{false≢true}
use Rattle.std.proofs.lemmas.List.{length-append, map-append}
use Rattle.std.proofs.lemmas.Option.{same_Some, none-some as none_some}
use Rattle.std.proofs.lemmas.List.Elements.{All-append, All-cons, All-head, All-nil, All-tail, All-weaker, filter_map-append}
use Rattle.std.proofs.lemmas.Grind.{flat_map-append}
use Rattle.dev_model.specs.Devices.{DevicesState, FaultCounts}
use Rattle.dev_model.specs.Frames.{GoOn}
use Rattle.dev_model.specs.FrameLaws.{go_on_here, go_on_then}
use Rattle.plain_forest.specs.Forest.{Forest}
use Rattle.forest_ops.specs.History.{History, commit_count}
use Rattle.forest_ops.specs.HistoryLaws.{EachEntry-push}
use Rattle.forest_ops.specs.declared.operation.Op.{Op}
use Rattle.forest_ops.specs.declared.operation.Op.TheVariants.{Sync}
use Rattle.forest_ops.specs.declared.operation.Reply.{Reply}
use Rattle.forest_ops.specs.declared.operation.Reply.TheVariants.{Okay, More, Synced, Content, List as Listed, File, Dir, SubNames, Used, Refused, NoSpace, DeviceFault, DataLost, Halted, Spent, NoMemory}
use Rattle.forest_ops.specs.declared.operation.Entry.{Entry}
use Rattle.text_io.specs.Streams.{GainsBy, GivesPrefix}
use Rattle.text_io.specs.StreamLaws.{gains_nothing, gains_text, gains_then}
use Rattle.script_text.specs.declared.reading.Line.{Line}
use Rattle.core_actors.specs.Actors.{one_more}
use Rattle.core_volume.specs.Volumes.{Volume}
use Rattle.forest_ops.specs.Acknowledged.{synced_count}
use Rattle.volume.specs.States.{VolumeState, session_in}
use Rattle.image_view.specs.Found.{Found}
use Rattle.volume.specs.Answers.{HasCause, IsAnswered, acks_after}
use Rattle.forest_ops.specs.Fits.{entry_by, entry_if_any, last_entry}
use Rattle.shell.specs.Lines.{AreRunLines, IsRunLine}
use Rattle.shell.specs.declared.tally.Tally.{Tally}
use Rattle.shell.specs.declared.page.Page.{Page}
use Rattle.shell.specs.Printing.{Prints, has_ended}
use Rattle.shell.specs.Output.{WereMade}
use Rattle.shell.specs.Moments.{GainsAllBut, GainsAt, GainsSince}
use Rattle.shell.proofs.Moments.{all_but_still, at_by, at_nothing, at_since, since_behind, since_nothing, since_still}
use Rattle.shell.proofs.Printing.{all_or_part, neither}
use Rattle.forest_ops.specs.declared.acks.Ack.{Ack}
use Rattle.shell.specs.Outcome.{Answered, ack_by, ack_of, entry_of, may_wait, operation_count, reply_line, reply_line_by, reply_lines}
use Rattle.shell.specs.Causes.{is_no_memory}
use Rattle.shell.specs.Phases.{AddsEntries, AreCalled, AreSyncsCounted, AreMade, Gains, RunsLines, tally_after, tally_with}

-- a tally goes on by two lists of replies
pub tally_then : (tally : Tally) (first second : List Reply) → tally_after (tally_after tally first) second ≡ tally_after tally (first ++ second)
tally_then tally [] second = refl
tally_then tally (reply ∷ first) second = tally_then (tally_with tally reply) first second

module _ {D : Type 0} (forest : Forest) (state : D → DevicesState) where
  -- histories go on one after another
  pub adds_then : (a b c : VolumeState D) (first second : History) (acks others : List Ack) → AddsEntries forest state a b first acks → AddsEntries forest state b c second others → AddsEntries forest state a c (first ++ second) (acks ++ others)
  adds_then a b c first second acks others one two = record {
    trace = two.trace ∙ ap (λ list. list ++ second) one.trace ∙ append_assoc a.trace first second;
    acks = two.acks ∙ ap (λ list. list ++ others) one.acks ∙ append_assoc a.acks acks others;
    counted = λ held. two.counted (one.counted held);
    after = go_on_then (state a.core.devices) (state b.core.devices) (state c.core.devices) one.after two.after;
  }

  -- a session in which nothing was done
  pub adds_nothing : (session : VolumeState D) → AddsEntries forest state session session [] []
  adds_nothing session = record { trace = sym (append-nil session.trace); acks = sym (append-nil session.acks); counted = λ held. held; after = go_on_here (state session.core.devices) }

  -- a session in which an operation was out of memory
  pub adds_memory : (old new : VolumeState D) → new ≡ record old { core = new.core; spare = new.spare; calls = new.calls } → GoOn (state old.core.devices) (state new.core.devices) → AddsEntries forest state old new [] []
  adds_memory old new same after = record {
    trace = ap (λ (s : VolumeState D). s.trace) same ∙ sym (append-nil old.trace);
    acks = ap (λ (s : VolumeState D). s.acks) same ∙ sym (append-nil old.acks);
    counted = λ held. subst (AreSyncsCounted forest) (sym (ap (λ (s : VolumeState D). s.trace) same)) held;
    after = after;
  }

module _ {K : Type 0} (sink_tells devices_tell : Type 0) (held given_at : K → List ℕ) (start : K) where
  made_append : (page : Page) (last : K) (text : List ℕ) (first second : List Answered) → AreMade sink_tells devices_tell held given_at start page last text first → AreMade sink_tells devices_tell held given_at start page last (text ++ reply_lines first) second → AreMade sink_tells devices_tell held given_at start page last text (first ++ second)
  made_append page last text [] second one two = subst (λ t. AreMade sink_tells devices_tell held given_at start page last t second) (append-nil text) two
  made_append page last text (answered ∷ first) second one two =
      (one.0, made_append page last (text ++ reply_line answered) first second one.1 (subst (λ t. AreMade sink_tells devices_tell held given_at start page last t second) (sym (append_assoc text (reply_line answered) (reply_lines first))) two))

  -- what was given in time stays so while more is printed, from a moment on that the answers had come to
  module _ (page new_page : Page) (last new_last : K) (from moment : ℕ) (ended : has_ended page ≡ true → (has_ended new_page ≡ true) × (new_last ≡ last)) (gains : sink_tells → devices_tell → GainsBy held given_at last new_last moment)
      (since : sink_tells → devices_tell → GainsSince held given_at last new_last 0 from) where
    made_later : (text : List ℕ) (answered : List Answered) → All (λ (a : Answered). a.moment ≤ from) answered → AreMade sink_tells devices_tell held given_at start page last text answered → AreMade sink_tells devices_tell held given_at start new_page new_last text answered
    made_later text [] until made = tt
    made_later text (first ∷ answered) until made = (
      (λ some told told_too.
          let one = made.0 some told told_too in
          record {
            since = since_still held given_at start last new_last (length text) first.moment from (All-head (λ (a : Answered). a.moment ≤ from) first answered until) one.since (since told told_too);
            by = ⊎_elim
                (λ (all : GainsAllBut held given_at start last (text ++ reply_line first) (may_wait first.reply) first.moment). inl (all_but_still held given_at start last new_last (text ++ reply_line first) (may_wait first.reply) first.moment moment all (gains told told_too)))
                (λ (end : (has_ended page ≡ true) × GivesPrefix (text ++ reply_line first) (held start) (held last)). inr ((ended end.0).0, subst (λ k. GivesPrefix (text ++ reply_line first) (held start) (held k)) (sym (ended end.0).1) end.1))
                one.by;
          }),
      made_later (text ++ reply_line first) answered (All-tail (λ (a : Answered). a.moment ≤ from) first answered until) made.1,
    )

  -- what was given in time is so of the whole run
  module _ (page : Page) (last final : K) (from moment : ℕ) (ended : has_ended page ≡ true → final ≡ last) (gains : sink_tells → devices_tell → GainsBy held given_at last final moment) (since : sink_tells → devices_tell → GainsSince held given_at last final 0 from) where
    pub were_made : (text : List ℕ) (answered : List Answered) → All (λ (a : Answered). a.moment ≤ from) answered → AreMade sink_tells devices_tell held given_at start page last text answered → WereMade sink_tells devices_tell held given_at start final text answered
    were_made text [] until made = tt
    were_made text (first ∷ answered) until made = (
      (λ some told told_too.
          let one = made.0 some told told_too in
          record {
            since = since_still held given_at start last final (length text) first.moment from (All-head (λ (a : Answered). a.moment ≤ from) first answered until) one.since (since told told_too);
            by = ⊎_elim
                (λ (all : GainsAllBut held given_at start last (text ++ reply_line first) (may_wait first.reply) first.moment). inl (all_but_still held given_at start last final (text ++ reply_line first) (may_wait first.reply) first.moment moment all (gains told told_too)))
                (λ (end : (has_ended page ≡ true) × GivesPrefix (text ++ reply_line first) (held start) (held last)). inr (subst (λ k. GivesPrefix (text ++ reply_line first) (held start) (held k)) (sym (ended end.0)) end.1))
                one.by;
          }),
      were_made (text ++ reply_line first) answered (All-tail (λ (a : Answered). a.moment ≤ from) first answered until) made.1,
    )

-- what was gained at the moment of devices was so at that of the same devices
pub same_moment : {D K : Type 0} (held given_at : K → List ℕ) (first last : K) (shown devices : D) (state : D → DevicesState) → shown ≡ devices → GainsAt held given_at first last (state shown).moment → GainsAt held given_at first last (state devices).moment
same_moment held given_at first last shown devices state same gains = subst (λ d. GainsAt held given_at first last (state d).moment) same gains

-- The lines of a script were run but for the rest, which a volume runs.
pub record RunsUpTo {D K : Type 0} (forest : Forest) (state : D → DevicesState) (devices_tell sink_tells : Type 0) (held given_at : K → List ℕ) (faults : K → ℕ) (script rest : List Line) (old new : VolumeState D) (page new_page : Page) (sink new_sink : K) : Type 0 where
  pub run : List Line
  pub are : run ++ rest ≡ script
  pub ran : RunsLines forest state devices_tell sink_tells held given_at faults run old new page new_page sink new_sink
  pub runs : AreRunLines rest

module _ {D K : Type 0} (forest : Forest) (state : D → DevicesState) (devices_tell sink_tells : Type 0) (held given_at : K → List ℕ) (faults : K → ℕ) where
  -- what was gained by one state and then by the next was gained by the next
  pub gains_on : (first mid last : K) (old new : VolumeState D) → GoOn (state old.core.devices) (state new.core.devices) → Gains state devices_tell sink_tells held given_at first mid old → Gains state devices_tell sink_tells held given_at mid last new → Gains state devices_tell sink_tells held given_at first last new
  gains_on first mid last old new after one two told told_too =
      gains_then held given_at first mid last (state old.core.devices).moment (state new.core.devices).moment after.later (one told told_too) (two told told_too)

  -- calls go on one list after another
  calls_then : (first second : List Line) (a b c : VolumeState D) → AreCalled (operation_count first) a b → AreCalled (operation_count second) b c → AreCalled (operation_count (first ++ second)) a c
  calls_then first second a b c one two few =
      let all : operation_count (first ++ second) ≡ operation_count first + operation_count second =
      ap (λ (ops : List Op). length ops) (filter_map-append (λ (line : Line). line.op) first second) ∙ length-append (filter_map (λ (line : Line). line.op) first) (filter_map (λ (line : Line). line.op) second) in
      let by_first : b.calls ≡ a.calls + operation_count first = one (omega (arith, few, all)) in
      let by_second : c.calls ≡ b.calls + operation_count second = two (omega (arith, few, all, by_first)) in
      omega (arith, all, by_first, by_second)

  -- lines are answered one list after another
  pub runs_then : (first second : List Line) (a b c : VolumeState D) (page mid last : Page) (sink mid_sink last_sink : K) → RunsLines forest state devices_tell sink_tells held given_at faults first a b page mid sink mid_sink → RunsLines forest state devices_tell sink_tells held given_at faults second b c mid last mid_sink last_sink
      → RunsLines forest state devices_tell sink_tells held given_at faults (first ++ second) a c page last sink last_sink
  runs_then first second a b c page mid last sink mid_sink last_sink one two = record {
    answered = one.answered ++ two.answered;
    are = map-append (λ (x : Answered). x.line) one.answered two.answered ∙ ap (λ list. list ++ map (λ (x : Answered). x.line) two.answered) one.are ∙ ap (λ list. first ++ list) two.are;
    history = subst (λ h. AddsEntries forest state a c h (filter_map ack_of (one.answered ++ two.answered))) (sym (filter_map-append entry_of one.answered two.answered))
        (subst (AddsEntries forest state a c (filter_map entry_of one.answered ++ filter_map entry_of two.answered)) (sym (filter_map-append ack_of one.answered two.answered))
        (adds_then forest state a b c (filter_map entry_of one.answered) (filter_map entry_of two.answered) (filter_map ack_of one.answered) (filter_map ack_of two.answered) one.history two.history));
    called = calls_then first second a b c one.called two.called;
    gains = gains_on sink mid_sink last_sink b c two.history.after one.gains two.gains;
    since = λ told told_too. since_still held given_at sink mid_sink last_sink 0 (state a.core.devices).moment (state b.core.devices).moment one.history.after.later (one.since told told_too) (two.since told told_too);
    until = All-append (λ (x : Answered). x.moment ≤ (state c.core.devices).moment) one.answered two.answered
        (All-weaker (λ (x : Answered). x.moment ≤ (state b.core.devices).moment) (λ (x : Answered). x.moment ≤ (state c.core.devices).moment) (λ x by_then. let later = two.history.after.later in omega (arith, by_then, later)) one.answered one.until) two.until;
    prints = λ start text prints gains.
        let earlier = one.prints start text prints gains in
        let later = two.prints start (text ++ reply_lines one.answered) earlier.prints (gains_on start sink mid_sink a b one.history.after gains one.gains) in record {
          prints = subst (λ t. Prints sink_tells held faults start t last last_sink) (append_assoc text (reply_lines one.answered) (reply_lines two.answered) ∙ ap (λ t. text ++ t) (sym (flat_map-append reply_line one.answered two.answered))) later.prints;
          made = made_append sink_tells devices_tell held given_at start last last_sink text one.answered two.answered (made_later sink_tells devices_tell held given_at start mid last mid_sink last_sink (state b.core.devices).moment (state c.core.devices).moment two.ended two.gains two.since text one.answered one.until earlier.made) later.made;
        };
    ended = λ end. let mid_end = one.ended end in ((two.ended mid_end.0).0, (two.ended mid_end.0).1 ∙ mid_end.1);
    tally = two.tally
        ∙ ap (λ t. tally_after t (map (λ (x : Answered). x.reply) two.answered)) one.tally
        ∙ tally_then page.tally (map (λ (x : Answered). x.reply) one.answered) (map (λ (x : Answered). x.reply) two.answered)
        ∙ ap (tally_after page.tally) (sym (map-append (λ (x : Answered). x.reply) one.answered two.answered));
  }

  -- no line is answered
  pub runs_none : (log : VolumeState D) (page : Page) (sink : K) → RunsLines forest state devices_tell sink_tells held given_at faults [] log log page page sink sink
  runs_none log page sink = record {
    answered = [];
    are = refl;
    history = adds_nothing forest state log;
    called = λ few. omega arith;
    gains = λ told told_too. gains_nothing held given_at sink (state log.core.devices).moment;
    since = λ told told_too. since_nothing held given_at sink (state log.core.devices).moment;
    until = All-nil (λ (x : Answered). x.moment ≤ (state log.core.devices).moment);
    prints = λ start text prints gains. record { prints = subst (λ t. Prints sink_tells held faults start t page sink) (sym (append-nil text)) prints; made = tt };
    ended = λ end. (end, refl);
    tally = refl;
  }

  either : (test : Bool) → (test ≡ true) ⊎ (test ≡ false)
  either true = inl refl
  either false = inr refl

  -- What was given of a text is no more than it has.
  no_longer : (text : List ℕ) (start : K) (page : Page) (sink : K) → Prints sink_tells held faults start text page sink → sink_tells → length (held sink) ≤ length (held start) + length text
  no_longer text start page sink prints told =
      let gave = prints.gave told in
      omega (arith, ap length gave.holds, ap length gave.whole, length-append (held start) gave.given, length-append gave.given gave.rest)

  -- While printing goes on, all but what waits was given.
  all_but : (text : List ℕ) (most moment : ℕ) (start : K) (page : Page) (sink : K) → Prints sink_tells held faults start text page sink → has_ended page ≡ false → length page.lines ≤ most → sink_tells → GainsBy held given_at start sink moment → GainsAllBut held given_at start sink text most moment
  all_but text most moment start page sink prints goes few told gains =
      let gave = prints.gave told in
      let waits : gave.rest ≡ page.lines = gave.pending (neither page.is_cut page.has_failed goes).0 (neither page.is_cut page.has_failed goes).1 in
      record {
        gained = gave.given;
        rest = gave.rest;
        whole = gave.whole;
        few = omega (arith, few, ap length waits);
        by = gains_text held given_at start sink gave.given moment gave.holds gains;
      }

  -- a line is answered
  pub runs_one : (line : Line) (reply : Reply) (old new : VolumeState D) (page new_page : Page) (sink new_sink : K) → AreCalled (operation_count (line ∷ [])) old new → AddsEntries forest state old new (cons_option (entry_by line.client line.op reply) []) (cons_option (ack_by (state new.core.devices).moment reply) [])
      → ((start : K) (text : List ℕ) → Prints sink_tells held faults start text page sink → Prints sink_tells held faults start (text ++ reply_line_by line.op line.client line.line reply) new_page new_sink)
      → (sink_tells → devices_tell → GainsAt held given_at sink new_sink (state new.core.devices).moment)
      → (IsSome line.op → has_ended new_page ≡ false → length new_page.lines ≤ may_wait reply) → (has_ended page ≡ true → has_ended new_page ≡ true) → (has_ended page ≡ true → new_sink ≡ sink) → new_page.tally ≡ tally_with page.tally reply
      → RunsLines forest state devices_tell sink_tells held given_at faults (line ∷ []) old new page new_page sink new_sink
  runs_one line reply old new page new_page sink new_sink called adds prints gains waits ended same tally =
      let moment = (state new.core.devices).moment in
      let one : Answered = record { line = line; reply = reply; moment = moment } in
      let gains_by : Gains state devices_tell sink_tells held given_at sink new_sink new = λ told told_too. at_by held given_at sink new_sink moment (gains told told_too) in
      record {
        answered = one ∷ [];
        are = refl;
        history = adds;
        called = called;
        gains = gains_by;
        since = λ told told_too. at_since held given_at sink new_sink moment (state old.core.devices).moment adds.after.later (gains told told_too);
        until = All-cons (λ (x : Answered). x.moment ≤ moment) one [] (omega arith) (All-nil (λ (x : Answered). x.moment ≤ moment));
        prints = λ start text before earlier.
            let after = prints start text before in record {
              prints = subst (λ t. Prints sink_tells held faults start (text ++ t) new_page new_sink) (sym (append-nil (reply_line one))) after;
              made = (
                (λ some told told_too. record {
                  since = since_behind held given_at start sink new_sink (length text) (state old.core.devices).moment moment (earlier told told_too) (no_longer text start page sink before told) (at_since held given_at sink new_sink moment moment (omega arith) (gains told told_too));
                  by = ⊎_elim
                      (λ (end : has_ended new_page ≡ true). inr (end, all_or_part sink_tells held faults start (text ++ reply_line one) new_page new_sink after told))
                      (λ (goes : has_ended new_page ≡ false). inl (all_but (text ++ reply_line one) (may_wait reply) moment start new_page new_sink after goes (waits some goes) told (gains_on start sink new_sink old new adds.after earlier gains_by told told_too)))
                      (either (has_ended new_page));
                }),
                tt,
              );
            };
        ended = λ end. (ended end, same end);
        tally = tally;
      }

  -- no line of a script was run yet
  pub up_to_none : (script rest : List Line) (log : VolumeState D) (page : Page) (sink : K) → rest ≡ script → AreRunLines script → RunsUpTo forest state devices_tell sink_tells held given_at faults script rest log log page page sink sink
  up_to_none script rest log page sink all runs = record { run = []; are = all; ran = runs_none log page sink; runs = subst AreRunLines (sym all) runs }

  -- the next line is one that a volume runs
  pub next_runs : (script rest left : List Line) (line : Line) (old new : VolumeState D) (page new_page : Page) (sink new_sink : K) → rest ≡ line ∷ left → RunsUpTo forest state devices_tell sink_tells held given_at faults script rest old new page new_page sink new_sink → IsRunLine line
  next_runs script rest left line old new page new_page sink new_sink next up = All-head IsRunLine line left (subst AreRunLines next up.runs)

  -- one line more was run
  pub up_to_then : (script rest left : List Line) (line : Line) (a b c : VolumeState D) (page mid last : Page) (sink mid_sink last_sink : K) → rest ≡ line ∷ left → RunsUpTo forest state devices_tell sink_tells held given_at faults script rest a b page mid sink mid_sink
      → RunsLines forest state devices_tell sink_tells held given_at faults (line ∷ []) b c mid last mid_sink last_sink → RunsUpTo forest state devices_tell sink_tells held given_at faults script left a c page last sink last_sink
  up_to_then script rest left line a b c page mid last sink mid_sink last_sink next up one = record {
    run = up.run ++ line ∷ [];
    are = append_assoc up.run (line ∷ []) left ∙ ap (λ list. up.run ++ list) (sym next) ∙ up.are;
    ran = runs_then up.run (line ∷ []) a b c page mid last sink mid_sink last_sink up.ran one;
    runs = All-tail IsRunLine line left (subst AreRunLines next up.runs);
  }

  -- all lines of a script were run
  pub up_to_all : (script rest : List Line) (old new : VolumeState D) (page new_page : Page) (sink new_sink : K) → length rest ≡ 0 → RunsUpTo forest state devices_tell sink_tells held given_at faults script rest old new page new_page sink new_sink → RunsLines forest state devices_tell sink_tells held given_at faults script old new page new_page sink new_sink
  up_to_all script [] old new page new_page sink new_sink none up = subst (λ list. RunsLines forest state devices_tell sink_tells held given_at faults list old new page new_page sink new_sink) (sym (append-nil up.run) ∙ up.are) up.ran
  up_to_all script (line ∷ rest) old new page new_page sink new_sink none up = absurd (omega (arith, none))

  -- a barrier does nothing
  pub runs_barrier : (line : Line) (log : VolumeState D) (page : Page) (sink : K) → line.op ≡ None → RunsLines forest state devices_tell sink_tells held given_at faults (line ∷ []) log log page page sink sink
  runs_barrier line log page sink none =
      runs_one line Okay log log page page sink sink
      (subst (λ op. AreCalled (length (cons_option op [])) log log) (sym none) (λ few. omega arith))
      (subst (λ op. AddsEntries forest state log log (cons_option (entry_by line.client op Okay) []) []) (sym none) (adds_nothing forest state log))
      (λ start text prints. subst (λ op. Prints sink_tells held faults start (text ++ reply_line_by op line.client line.line Okay) page sink) (sym none) (subst (λ t. Prints sink_tells held faults start t page sink) (sym (append-nil text)) prints))
      (λ told told_too. at_nothing held given_at sink (state log.core.devices).moment)
      (λ some. absurd (no_line line.op none some)) (λ end. end) (λ end. refl)
      (same_tally page.tally)
    where
      no_line : (op : Option Op) → op ≡ None → IsSome op → ⊥
      no_line None is some = absurd (false≢true some)
      no_line (Some op) is some = absurd (cc)

      or_none : (x : Bool) → x ≡ (x || false)
      or_none true = refl
      or_none false = refl

      same_tally : (tally : Tally) → tally ≡ tally_with tally Okay
      same_tally tally =
          let of : Bool → Bool → ℕ → Tally = λ memory failed synced. record { lacks_memory = memory; has_failed = failed; synced = synced } in
          ap (λ test. of test tally.has_failed tally.synced) (or_none tally.lacks_memory)
          ∙ ap (λ test. of (tally.lacks_memory || false) test tally.synced) (or_none tally.has_failed)
          ∙ ap (of (tally.lacks_memory || false) (tally.has_failed || false)) (let e : tally.synced ≡ max tally.synced 0 = omega arith in e)

-- a call is one
pub one_called : {D : Type 0} (old new : VolumeState D) → new.calls ≡ one_more old.calls → AreCalled 1 old new
one_called old new is few = omega (arith, is, few)

-- the entry of an operation that wasn't out of memory
has_entry : (client : ℕ) (op : Op) (reply : Reply) → is_no_memory reply ≡ false → entry_if_any client op reply ≡ Some (record { client = client; op = op; reply = reply })
has_entry client op NoMemory found = absurd (cc)
has_entry client op other found = refl

-- a reply adds the acknowledgement that it is
adds_ack : (reply : Reply) (moment : ℕ) (acks : List Ack) → acks_after reply moment acks ≡ acks ++ cons_option (ack_by moment reply) []
adds_ack Okay moment acks = sym (append-nil acks)
adds_ack (More size) moment acks = sym (append-nil acks)
adds_ack (Synced count) moment acks = refl
adds_ack (Content bytes) moment acks = sym (append-nil acks)
adds_ack (Listed names) moment acks = sym (append-nil acks)
adds_ack (File number size links) moment acks = sym (append-nil acks)
adds_ack (Dir number entries) moment acks = sym (append-nil acks)
adds_ack (SubNames names) moment acks = sym (append-nil acks)
adds_ack (Used blocks) moment acks = sym (append-nil acks)
adds_ack (Refused cause) moment acks = sym (append-nil acks)
adds_ack (NoSpace short) moment acks = sym (append-nil acks)
adds_ack (DeviceFault dev) moment acks = sym (append-nil acks)
adds_ack (DataLost lost) moment acks = sym (append-nil acks)
adds_ack (Halted dev tick) moment acks = sym (append-nil acks)
adds_ack Spent moment acks = sym (append-nil acks)
adds_ack NoMemory moment acks = sym (append-nil acks)

-- a reply with a cause doesn't say that it was out of memory
found_memory : (begun : Found) (client : ℕ) (op : Op) (reply : Reply) (volume : Volume) (before after : FaultCounts) → HasCause begun client op reply volume before after → is_no_memory reply ≡ false
found_memory begun client op NoMemory volume before after cause = absurd cause
found_memory begun client op other volume before after cause = refl

-- the number of commits that a reply acknowledges is in it
synced_reply : (reply : Reply) (count : ℕ) → synced_count reply ≡ Some count → reply ≡ Synced count
synced_reply (Synced commits) count is = ap Synced (same_Some commits count is)
synced_reply other count is = absurd (none_some count is)

module _ {D : Type 0} (forest : Forest) (state : D → DevicesState) (client : ℕ) (op : Op) (old new : VolumeState D) where
  -- an operation was answered
  pub adds_answer : (begun : Found) (reply : Reply) → IsAnswered state client op reply (session_in old) (session_in new) → HasCause begun client op reply new.core.memory.volume (state old.core.devices).faults (state new.core.devices).faults
      → ((count : ℕ) → reply ≡ Synced count → count ≡ commit_count forest old.trace) → GoOn (state old.core.devices) (state new.core.devices)
      → AddsEntries forest state old new (cons_option (entry_if_any client op reply) []) (cons_option (ack_by (state new.core.devices).moment reply) [])
  adds_answer begun reply answers cause synced after =
      let entry : Entry = record { client = client; op = op; reply = reply } in
      record {
        trace = answers.trace ∙ ap (λ e. old.trace ++ cons_option e []) (sym (has_entry client op reply (found_memory begun client op reply new.core.memory.volume (state old.core.devices).faults (state new.core.devices).faults cause)));
        acks = answers.acks ∙ adds_ack reply (state new.core.devices).moment old.acks;
        counted = λ held.
            subst (AreSyncsCounted forest) (sym answers.trace)
            (EachEntry-push (λ before one. (count : ℕ) → synced_count one.reply ≡ Some count → count ≡ commit_count forest before) old.trace entry held (λ count is. synced count (synced_reply reply count is)));
        after = after;
      }

-- the entries of the final sync, as those of a line
pub last_is : (reply : Reply) → cons_option (entry_if_any 0 Sync reply) [] ≡ last_entry reply
last_is reply = by (entry_if_any 0 Sync reply)
  where
    by : (entry : Option Entry) → cons_option entry [] ≡ option_to_list entry
    by None = refl
    by (Some entry) = refl

-- what a result that is one says
pub on_ok_of : {T E P : Type 0} (result : Result T E) → is_err result ≡ false → OnOk result P → P
on_ok_of (Ok x) is said = said
on_ok_of (Err e) is said = absurd (cc)

pub on_err_of : {T E P : Type 0} (result : Result T E) → is_err result ≡ true → OnErr result P → P
on_err_of (Ok x) is said = absurd (cc)
on_err_of (Err e) is said = said
