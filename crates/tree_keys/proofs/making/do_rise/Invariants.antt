use Rattle.std.proofs.Common.{drop, ◌↔◌}
use Rattle.std.specs.Prelude.{option_copied}
use Rattle.vol_types.specs.Positions.{pos_cmp}
use Rattle.vol_types.specs.Ranges.{Rise, RiseFrom}
use Rattle.tree_keys.proofs.making.do_rise.Given as goal

abbrev pub invariant-loop-end : goal.invariant-loop-end
invariant-loop-end l = Rise pos_cmp l.ends ↔ RiseFrom pos_cmp (option_copied l.before) (drop l.end-index l.ends)
