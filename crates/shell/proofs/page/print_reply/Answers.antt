use Rattle.std.proofs.Common.{◌++◌, length, ap, ◌∙◌}
use Rattle.script_text.specs.Replies.{reply_line_of}
use Rattle.shell.specs.declared.page.Page.{Page}
use Rattle.shell.specs.Printing.{has_ended, is_due, lines_after}
use Rattle.shell.proofs.Printing.{prints_noted}
use Rattle.shell.proofs.page.print_reply.Goals as goal

pub returns-clause-prints : goal.returns-clause-prints
returns-clause-prints g c start text prints =
    let K = g.K.Sink in
    c.print_line.ensures.prints start text
    (prints_noted K.tells K.held K.faults start text c.args.page.now c.note.new.self c.args.sink.now (ap (λ p. p.lines) c.note.ensures) (ap (λ p. p.is_cut) c.note.ensures) (ap (λ p. p.has_failed) c.note.ensures) prints)

pub returns-clause-ended : goal.returns-clause-ended
returns-clause-ended g c ended = c.print_line.ensures.ended (ap has_ended c.note.ensures ∙ ended)

pub returns-clause-same : goal.returns-clause-same
returns-clause-same g c ended = c.print_line.ensures.same (ap has_ended c.note.ensures ∙ ended)

pub returns-clause-waits : goal.returns-clause-waits
returns-clause-waits g c goes =
    let line = reply_line_of c.args.client c.args.line c.args.reply.now in
    c.print_line.ensures.waits goes ∙ ap (λ (p : Page). lines_after p.lines line c.args.reply.now) c.note.ensures

pub returns-clause-kept : goal.returns-clause-kept
returns-clause-kept g c goes not_due =
    let line = reply_line_of c.args.client c.args.line c.args.reply.now in
    c.print_line.ensures.kept goes (ap (λ (p : Page). is_due (length (p.lines ++ line)) c.args.reply.now) c.note.ensures ∙ not_due)
