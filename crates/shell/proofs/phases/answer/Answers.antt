use Rattle.vol_session.specs.Marks.{forest_found}
use Rattle.std.proofs.Common.{ℕ, ◌≤◌, List, Some, length, subst, sym}
use Rattle.script_text.specs.Replies.{reply_line_of}
use Rattle.shell.specs.Outcome.{may_wait}
use Rattle.shell.proofs.Moments.{few_wait}
use Rattle.script_text.specs.declared.reading.Line.{Line}
use Rattle.shell.proofs.Running.{runs_one, same_moment}
use Rattle.shell.proofs.phases.answer.Goals as goal

pub returns : goal.returns
returns g c =
    let D = g.D.Devices in
    let K = g.K.Sink in
    let op = c.args.op in
    let line : Line = record { line = c.args.number; client = c.args.client; op = Some op } in
    let old = c.args.volume.now in
    let new = c.reply_to-reply.new.volume in
    let page = c.args.page.now in
    let last = c.print_reply.new.page in
    let last_sink = c.print_reply.new.sink in
    let reply = c.reply_to-reply.result in
    runs_one (forest_found g.O.Opening.found g.O.Opening.start) D.state D.tells K.tells K.held K.given_at K.faults line reply old new page last c.args.sink.now last_sink
    c.reply_to-reply.ensures.called c.reply_to-reply.ensures.adds
    c.print_reply.ensures.prints
    (λ told told_too. same_moment K.held K.given_at c.args.sink.now last_sink c.devices.result.now new.core.devices D.state c.devices.ensures (c.print_reply.ensures.gains told))
    (λ some goes. subst (λ (lines : List ℕ). length lines ≤ may_wait reply) (sym (c.print_reply.ensures.waits goes)) (few_wait page.lines (reply_line_of c.args.client c.args.number reply) reply)) c.print_reply.ensures.ended c.print_reply.ensures.same c.print_reply.ensures.tally
