use Rattle.std.proofs.Common.{◌≡◌, drop}
use Rattle.tree_keys.specs.Cuts.{is_end}
use Rattle.vol_types.specs.Positions.{greatest_pos}
use Rattle.tree_keys.proofs.making.has_greatest.Given as goal

abbrev pub invariant-loop-end : goal.invariant-loop-end
invariant-loop-end l = is_end greatest_pos (drop l.end-index l.ends) ≡ is_end greatest_pos l.ends
