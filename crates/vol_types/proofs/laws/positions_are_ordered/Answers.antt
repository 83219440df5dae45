use Rattle.vol_types.specs.PositionLaws.{pos_total, pos_exact, pos_cmp-number, is_within-iff, next_pos-number}
use Rattle.vol_types.proofs.laws.positions_are_ordered.Goals as goal

pub returns : goal.returns
returns c = record { total = pos_total; exact = pos_exact; numbers = pos_cmp-number; within = is_within-iff; next = next_pos-number }
