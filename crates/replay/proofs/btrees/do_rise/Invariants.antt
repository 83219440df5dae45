use Rattle.std.proofs.Common.{drop, ◌↔◌}
use Rattle.std.specs.Map.{keys_of}
use Rattle.vol_types.specs.Positions.{pos_cmp}
use Rattle.vol_types.specs.Ranges.{Rise, RiseFrom}
use Rattle.replay.proofs.btrees.do_rise.Given as goal

abbrev pub invariant-loop-pair : goal.invariant-loop-pair
invariant-loop-pair g l = Rise pos_cmp (keys_of l.pairs) ↔ RiseFrom pos_cmp l.before (keys_of (drop l.pair-index l.pairs))
