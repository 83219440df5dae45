use Rattle.vol_session.specs.Marks.{forest_found}
use Rattle.std.proofs.Common.{[], subst}
use Rattle.std.specs.List.{cons_option}
use Rattle.shell.specs.Outcome.{ack_by}
use Rattle.shell.specs.Phases.{AddsEntries}
use Rattle.shell.proofs.Running.{last_is}
use Rattle.shell.proofs.phases.final_sync.Goals as goal

pub returns : goal.returns
returns g c =
    let D = g.D.Devices in
    let reply = c.reply_to-reply.result in
    let new = c.reply_to-reply.new.volume in
    record {
      reply = reply;
      history = subst (λ more. AddsEntries (forest_found g.O.Opening.found g.O.Opening.start) D.state c.args.volume.now new more (cons_option (ack_by (D.state new.core.devices).moment reply) [])) (last_is reply) c.reply_to-reply.ensures.adds;
      called = c.reply_to-reply.ensures.called;
      noted = c.note.ensures;
    }
