use Rattle.std.proofs.Common.{rules}
use Rattle.turn_cell.proofs.Turns.{in_hand}
use Rattle.turn_cell.proofs.cell.TurnCell.step_at.Goals as goal

pub exchange-requires : goal.exchange-requires
exchange-requires g c = (search rules, in_hand _ _ _ c.take.ensures.taken.slot)
