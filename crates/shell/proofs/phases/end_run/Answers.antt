use Rattle.vol_session.specs.Marks.{forest_found}
use Rattle.std.proofs.Common.{◌≡◌, ◌≤◌, true, ℕ, ◌++◌, ap, ◌∙◌, sym, subst, arith}
use Rattle.script_text.specs.Replies.{end_line_of}
use Rattle.forest_ops.specs.History.{commit_count}
use Rattle.shell.specs.declared.tally.Tally.{Tally}
use Rattle.shell.specs.declared.page.Page.{Page}
use Rattle.shell.specs.Phases.{EndsPrinting, tally_with, text_with_end}
use Rattle.shell.specs.Printing.{Prints, has_ended, page_status}
use Rattle.shell.proofs.Ending.{ends_printing}
use Rattle.text_io.specs.StreamLaws.{gains_then}
use Rattle.shell.proofs.Printing.{prints_noted}
use Rattle.shell.specs.Moments.{GainsAt}
use Rattle.shell.proofs.Moments.{at_by, at_since, since_still}
use Rattle.shell.proofs.Running.{same_moment}
use Rattle.shell.proofs.phases.end_run.Goals as goal

pub returns : goal.returns
returns g c =
    let K = g.K.Sink in
    let forest = (forest_found g.O.Opening.found g.O.Opening.start) in
    let page = c.args.page.now in
    let given = c.give_lines.new.page in
    let synced = c.final_sync.new.page in
    let last = c.print_end.new.page in
    let mid_sink = c.give_lines.new.sink in
    let last_sink = c.print_end.new.sink in
    let sync = c.final_sync.ensures in
    let trace = c.final_sync.new.volume.trace in
    let tally : synced.tally ≡ tally_with page.tally sync.reply = ap (λ (p : Page). p.tally) sync.noted ∙ ap (λ (t : Tally). tally_with t sync.reply) c.give_lines.ensures.tally in
    let line : end_line_of c.commits.result synced.tally.synced ≡ end_line_of (commit_count forest trace) (tally_with page.tally sync.reply).synced =
    ap (λ n. end_line_of n synced.tally.synced) c.commits.ensures ∙ ap (λ (t : Tally). end_line_of (commit_count forest trace) t.synced) tally in
    let D = g.D.Devices in
    let from = (D.state c.args.volume.now.core.devices).moment in
    let to = (D.state c.final_sync.new.volume.core.devices).moment in
    let before_sync : K.tells → GainsAt K.held K.given_at c.args.sink.now mid_sink from =
    λ told. same_moment K.held K.given_at c.args.sink.now mid_sink c.devices.result.now c.args.volume.now.core.devices D.state c.devices.ensures (c.give_lines.ensures.gains told) in
    let behind_sync : K.tells → GainsAt K.held K.given_at mid_sink last_sink to =
    λ told. same_moment K.held K.given_at mid_sink last_sink c.devices-2.result.now c.final_sync.new.volume.core.devices D.state c.devices-2.ensures (c.print_end.ensures.gains told) in
    record {
      reply = sync.reply;
      history = sync.history;
      called = λ few. sync.called few;
      ends = λ start text prints.
          let before : Prints K.tells K.held K.faults start text synced mid_sink = prints_noted K.tells K.held K.faults start text given synced mid_sink (ap (λ (p : Page). p.lines) sync.noted) (ap (λ (p : Page). p.is_cut) sync.noted) (ap (λ (p : Page). p.has_failed) sync.noted) (c.give_lines.ensures.prints start text prints) in
          let after : Prints K.tells K.held K.faults start (text ++ end_line_of (commit_count forest trace) (tally_with page.tally sync.reply).synced) last last_sink =
          subst (λ l. Prints K.tells K.held K.faults start (text ++ l) last last_sink) line (c.print_end.ensures.prints start text before) in
          subst (λ (n : ℕ). EndsPrinting K.tells K.held K.faults start (text_with_end forest trace (tally_with page.tally sync.reply) text) (tally_with page.tally sync.reply) last_sink n) (sym c.status.ensures)
          (subst (λ (t : Tally). EndsPrinting K.tells K.held K.faults start (text_with_end forest trace (tally_with page.tally sync.reply) text) t last_sink (page_status last)) (c.print_end.ensures.tally ∙ tally)
          (ends_printing K.tells K.held K.faults start (text_with_end forest trace (tally_with page.tally sync.reply) text) last last_sink after c.print_end.ensures.given));
      gains = λ told told_too.
          let first = c.args.sink.now in
          gains_then K.held K.given_at first mid_sink last_sink from to sync.history.after.later (at_by K.held K.given_at first mid_sink from (before_sync told)) (at_by K.held K.given_at mid_sink last_sink to (behind_sync told));
      since = λ told told_too.
          let first = c.args.sink.now in
          since_still K.held K.given_at first mid_sink last_sink 0 from to sync.history.after.later (at_since K.held K.given_at first mid_sink from from (omega arith) (before_sync told)) (at_since K.held K.given_at mid_sink last_sink to to (omega arith) (behind_sync told));
      ended = λ end.
          let mid_end : has_ended synced ≡ true = ap has_ended sync.noted ∙ c.give_lines.ensures.ended end in
          c.print_end.ensures.same mid_end ∙ c.give_lines.ensures.same end;
    }
