use Rattle.turn_cell.proofs.Passing.{closes_with, closes_machine}
use Rattle.turn_cell.proofs.cell.TurnCell.close.Goals as goal

pub unreachable-requires : goal.unreachable-requires
unreachable-requires g c =
    let told = closes_with g.M.Machine.actors g.M.Machine.trace g.M.Machine.mine _ _ _ _ c.take-slot.result c.args.pass.ticket.live c.args.pass.ticket.idle.1 c.requires.alone c.close_with-closed.ensures.values.2 c.take-slot.ensures.value in
    c.in_default.not-Some told.0 told.1

pub returns : goal.returns
returns g c =
    closes_machine g.M.Machine.actors g.M.Machine.trace g.M.Machine.mine c.args.pass.ticket.seat.me.0 c.in-Some.machine c.take-slot.result
    (closes_with g.M.Machine.actors g.M.Machine.trace g.M.Machine.mine _ _ _ _ c.take-slot.result c.args.pass.ticket.live c.args.pass.ticket.idle.1 c.requires.alone c.close_with-closed.ensures.values.2 c.take-slot.ensures.value)
    c.in-Some.is
