-- What a clause reads of a pass, and which passes are a cell's.
use Rattle.std.specs.Prelude.{◌≡◌}
use Rattle.turn_cell.specs.declared.cell.TurnCell.{TurnCell}
use Rattle.turn_cell.specs.declared.pass.Pass.{Pass}
use Rattle.turn_cell.specs.declared.view.View.{View}

module _ {M Event Answer Entry Mine : Type 0} where
  -- what the pass knows
  abbrev pub view : Pass M Event Answer Entry Mine → View M Entry Mine
  view pass = pass.ticket.seat.me.0

  -- The pass comes from the cell.
  abbrev pub IsPassOf : TurnCell M Event Answer Entry Mine → Pass M Event Answer Entry Mine → Type 0
  IsPassOf cell pass = pass.ticket.seat.table_id ≡ cell.table.shared.table_id
