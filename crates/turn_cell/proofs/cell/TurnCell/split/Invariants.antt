use Rattle.turn_cell.proofs.cell.TurnCell.split.Given as goal

abbrev pub ghosts-split_as : goal.ghosts-split_as
ghosts-split_as g a = record { actor = a.actor }
