use Rattle.std.proofs.Common.{rules}
use Rattle.turn_cell.proofs.Turns.{some_of}
use Rattle.turn_cell.proofs.Passing.{splits}
use Rattle.turn_cell.proofs.cell.TurnCell.split_as.Goals as goal

pub split_seat-requires : goal.split_seat-requires
split_seat-requires g c =
    let live = some_of _ c.requires.idle.1 in
    (search rules, search rules, splits g.M.Machine.actors g.M.Machine.trace g.M.Machine.mine _ _ _ live.0 live.1 c.requires.idle.0 c.requires.actor)
