use Rattle.std.proofs.Common.{rules}
use Rattle.turn_cell.proofs.Turns.{some_of}
use Rattle.turn_cell.proofs.Passing.{joins}
use Rattle.turn_cell.proofs.cell.TurnCell.join.Goals as goal

pub join_seat-requires : goal.join_seat-requires
join_seat-requires g c =
    let live = some_of _ c.args.pass.now.ticket.live in let other = some_of _ c.args.other.ticket.live in let first = some_of _ c.requires.first in (
      search rules,
      search rules,
      search rules,
      search rules,
      joins g.M.Machine.actors g.M.Machine.trace g.M.Machine.mine _ _ _ _ live.0 other.0 live.1 other.1 c.args.pass.now.ticket.idle.1 c.args.other.ticket.idle.1 first.0 first.1,
    )
