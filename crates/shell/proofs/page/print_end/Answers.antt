use Rattle.std.proofs.Common.{◌++◌, refl, ◌∙◌, sym}
use Rattle.std.proofs.lemmas.Bool.{false≢true}
use Rattle.shell.proofs.Moments.{at_nothing}
use Rattle.script_text.specs.Replies.{end_line_of}
use Rattle.shell.specs.declared.page.Page.{Page}
use Rattle.shell.proofs.Running.{on_err_of, on_ok_of}
use Rattle.shell.proofs.Printing.{prints_more, prints_noted, some_end_line}
use Rattle.shell.proofs.page.print_end.Goals as goal

pub returns-then-has_ended-clause-prints : goal.returns-then-has_ended-clause-prints
returns-then-has_ended-clause-prints g c start text prints =
    let K = g.K.Sink in
    let page = c.args.page.now in
    prints_more K.tells K.held K.faults start text (end_line_of c.args.commits page.tally.synced) page page c.args.sink.now refl refl
    (λ goes. absurd (false≢true (sym goes ∙ (sym c.has_ended.ensures ∙ c.if-has_ended.true)))) prints

pub returns-then-has_ended-clause-given : goal.returns-then-has_ended-clause-given
returns-then-has_ended-clause-given g c goes = absurd (false≢true (sym goes ∙ (sym c.has_ended.ensures ∙ c.if-has_ended.true)))

pub cut-requires : goal.cut-requires
cut-requires g c = sym c.has_ended.ensures ∙ c.if-has_ended.false

pub returns-then-is_err-clause-prints : goal.returns-then-is_err-clause-prints
returns-then-is_err-clause-prints g c start text prints =
    let K = g.K.Sink in
    let page = c.args.page.now in
    let same : Page = record { alloc = page.alloc; lines = c.end_line.new.into; is_cut = page.is_cut; has_failed = page.has_failed; tally = page.tally } in
    c.cut.ensures.prints start text (end_line_of c.args.commits page.tally.synced) (some_end_line c.args.commits page.tally.synced)
    (prints_noted K.tells K.held K.faults start text page same c.args.sink.now (on_err_of c.end_line.result (sym c.is_err.ensures.value ∙ c.if-is_err.true) c.end_line.ensures.err) refl refl prints)

pub returns-then-is_err-clause-given : goal.returns-then-is_err-clause-given
returns-then-is_err-clause-given g c goes = absurd (false≢true (sym goes ∙ c.cut.ensures.ended))

pub returns-then-is_err-clause-same : goal.returns-then-is_err-clause-same
returns-then-is_err-clause-same g c ended = absurd (false≢true (sym (sym c.has_ended.ensures ∙ c.if-has_ended.false) ∙ ended))

pub returns-clause-prints : goal.returns-clause-prints
returns-clause-prints g c start text prints =
    let K = g.K.Sink in
    let page = c.args.page.now in
    let line = end_line_of c.args.commits page.tally.synced in
    let more : Page = record { alloc = page.alloc; lines = c.end_line.new.into; is_cut = page.is_cut; has_failed = page.has_failed; tally = page.tally } in
    c.give_lines.ensures.prints start (text ++ line)
    (prints_more K.tells K.held K.faults start text line page more c.args.sink.now refl refl (λ goes. on_ok_of c.end_line.result (sym c.is_err.ensures.value ∙ c.if-is_err.false) c.end_line.ensures.ok) prints)

pub returns-clause-same : goal.returns-clause-same
returns-clause-same g c ended = absurd (false≢true (sym (sym c.has_ended.ensures ∙ c.if-has_ended.false) ∙ ended))

pub returns-then-has_ended-clause-gains : goal.returns-then-has_ended-clause-gains
returns-then-has_ended-clause-gains g c told =
    at_nothing g.K.Sink.held g.K.Sink.given_at c.args.sink.now (g.D.Devices.state c.args.devices.now).moment
