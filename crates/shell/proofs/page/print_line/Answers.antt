use Rattle.std.proofs.Common.{◌≡◌, ℕ, Bool, true, false, if◌then◌else◌, List, [], ◌++◌, length, refl, ap, ◌∙◌, sym}
use Rattle.std.proofs.lemmas.Bool.{false≢true}
use Rattle.shell.proofs.Moments.{at_nothing}
use Rattle.script_text.specs.Replies.{reply_line_of}
use Rattle.shell.specs.declared.page.Page.{Page}
use Rattle.shell.specs.Printing.{is_due}
use Rattle.shell.proofs.Running.{on_err_of, on_ok_of}
use Rattle.shell.proofs.Printing.{prints_more, prints_noted, some_reply_line}
use Rattle.shell.proofs.page.print_line.Goals as goal

pub returns-then-has_ended-clause-prints : goal.returns-then-has_ended-clause-prints
returns-then-has_ended-clause-prints g c start text prints =
    let K = g.K.Sink in
    let page = c.args.page.now in
    prints_more K.tells K.held K.faults start text (reply_line_of c.args.client c.args.line c.args.reply.now) page page c.args.sink.now refl refl
    (λ goes. absurd (false≢true (sym goes ∙ (sym c.has_ended.ensures ∙ c.if-has_ended.true)))) prints

pub cut-requires : goal.cut-requires
cut-requires g c = sym c.has_ended.ensures ∙ c.if-has_ended.false

pub returns-then-is_err-clause-prints : goal.returns-then-is_err-clause-prints
returns-then-is_err-clause-prints g c start text prints =
    let K = g.K.Sink in
    let page = c.args.page.now in
    let same : Page = record { alloc = page.alloc; lines = c.reply_line.new.into; is_cut = page.is_cut; has_failed = page.has_failed; tally = page.tally } in
    c.cut.ensures.prints start text (reply_line_of c.args.client c.args.line c.args.reply.now) (some_reply_line c.args.client c.args.line c.args.reply.now)
    (prints_noted K.tells K.held K.faults start text page same c.args.sink.now (on_err_of c.reply_line.result (sym c.is_err.ensures.value ∙ c.if-is_err.true) c.reply_line.ensures.err) refl refl prints)

pub returns-then-is_err-clause-ended : goal.returns-then-is_err-clause-ended
returns-then-is_err-clause-ended g c ended = c.cut.ensures.ended

pub returns-then-is_err-clause-same : goal.returns-then-is_err-clause-same
returns-then-is_err-clause-same g c ended = absurd (false≢true (sym (sym c.has_ended.ensures ∙ c.if-has_ended.false) ∙ ended))

pub returns-then-has_ended-clause-waits : goal.returns-then-has_ended-clause-waits
returns-then-has_ended-clause-waits g c goes = absurd (false≢true (sym goes ∙ (sym c.has_ended.ensures ∙ c.if-has_ended.true)))

pub returns-then-is_err-clause-waits : goal.returns-then-is_err-clause-waits
returns-then-is_err-clause-waits g c goes = absurd (false≢true (sym goes ∙ c.cut.ensures.ended))

pub returns-then-is_err-clause-kept : goal.returns-then-is_err-clause-kept
returns-then-is_err-clause-kept g c goes due = absurd (false≢true (sym goes ∙ c.cut.ensures.ended))

pub returns-then-are_due-clause-prints : goal.returns-then-are_due-clause-prints
returns-then-are_due-clause-prints g c start text prints =
    let K = g.K.Sink in
    let page = c.args.page.now in
    let line = reply_line_of c.args.client c.args.line c.args.reply.now in
    let more : Page = record { alloc = page.alloc; lines = c.reply_line.new.into; is_cut = page.is_cut; has_failed = page.has_failed; tally = page.tally } in
    c.give_lines.ensures.prints start (text ++ line)
    (prints_more K.tells K.held K.faults start text line page more c.args.sink.now refl refl (λ goes. on_ok_of c.reply_line.result (sym c.is_err.ensures.value ∙ c.if-is_err.false) c.reply_line.ensures.ok) prints)

pub returns-then-are_due-clause-ended : goal.returns-then-are_due-clause-ended
returns-then-are_due-clause-ended g c ended = absurd (false≢true (sym (sym c.has_ended.ensures ∙ c.if-has_ended.false) ∙ ended))

pub returns-then-are_due-clause-same : goal.returns-then-are_due-clause-same
returns-then-are_due-clause-same g c ended = absurd (false≢true (sym (sym c.has_ended.ensures ∙ c.if-has_ended.false) ∙ ended))

pub returns-then-are_due-clause-waits : goal.returns-then-are_due-clause-waits
returns-then-are_due-clause-waits g c goes =
    let line = reply_line_of c.args.client c.args.line c.args.reply.now in
    let all : c.reply_line.new.into ≡ c.args.page.now.lines ++ line = on_ok_of c.reply_line.result (sym c.is_err.ensures.value ∙ c.if-is_err.false) c.reply_line.ensures.ok in
    let due : is_due (length (c.args.page.now.lines ++ line)) c.args.reply.now ≡ true = ap (λ (list : List ℕ). is_due (length list) c.args.reply.now) (sym all) ∙ ap (λ n. is_due n c.args.reply.now) (sym c.len.ensures) ∙ sym c.are_due.ensures ∙ c.if-are_due.true in
    c.give_lines.ensures.given ∙ sym (ap (λ (b : Bool). if b then [] else c.args.page.now.lines ++ line) due)

pub returns-then-are_due-clause-kept : goal.returns-then-are_due-clause-kept
returns-then-are_due-clause-kept g c goes not_due =
    let line = reply_line_of c.args.client c.args.line c.args.reply.now in
    let all : c.reply_line.new.into ≡ c.args.page.now.lines ++ line = on_ok_of c.reply_line.result (sym c.is_err.ensures.value ∙ c.if-is_err.false) c.reply_line.ensures.ok in
    absurd (false≢true (sym not_due ∙ ap (λ (list : List ℕ). is_due (length list) c.args.reply.now) (sym all) ∙ ap (λ n. is_due n c.args.reply.now) (sym c.len.ensures) ∙ sym c.are_due.ensures ∙ c.if-are_due.true))

pub returns-else-are_due-clause-prints : goal.returns-else-are_due-clause-prints
returns-else-are_due-clause-prints g c start text prints =
    let K = g.K.Sink in
    let page = c.args.page.now in
    let line = reply_line_of c.args.client c.args.line c.args.reply.now in
    let more : Page = record { alloc = page.alloc; lines = c.reply_line.new.into; is_cut = page.is_cut; has_failed = page.has_failed; tally = page.tally } in
    prints_more K.tells K.held K.faults start text line page more c.args.sink.now refl refl (λ goes. on_ok_of c.reply_line.result (sym c.is_err.ensures.value ∙ c.if-is_err.false) c.reply_line.ensures.ok) prints

pub returns-else-are_due-clause-ended : goal.returns-else-are_due-clause-ended
returns-else-are_due-clause-ended g c ended = ended

pub returns-else-are_due-clause-waits : goal.returns-else-are_due-clause-waits
returns-else-are_due-clause-waits g c goes =
    let line = reply_line_of c.args.client c.args.line c.args.reply.now in
    let all : c.reply_line.new.into ≡ c.args.page.now.lines ++ line = on_ok_of c.reply_line.result (sym c.is_err.ensures.value ∙ c.if-is_err.false) c.reply_line.ensures.ok in
    let not_due : is_due (length (c.args.page.now.lines ++ line)) c.args.reply.now ≡ false = ap (λ (list : List ℕ). is_due (length list) c.args.reply.now) (sym all) ∙ ap (λ n. is_due n c.args.reply.now) (sym c.len.ensures) ∙ sym c.are_due.ensures ∙ c.if-are_due.false in
    all ∙ sym (ap (λ (b : Bool). if b then [] else c.args.page.now.lines ++ line) not_due)

pub returns-then-has_ended-clause-gains : goal.returns-then-has_ended-clause-gains
returns-then-has_ended-clause-gains g c told =
    at_nothing g.K.Sink.held g.K.Sink.given_at c.args.sink.now (g.D.Devices.state c.args.devices.now).moment

pub returns-else-are_due-clause-gains : goal.returns-else-are_due-clause-gains
returns-else-are_due-clause-gains g c told =
    at_nothing g.K.Sink.held g.K.Sink.given_at c.args.sink.now (g.D.Devices.state c.args.devices.now).moment
