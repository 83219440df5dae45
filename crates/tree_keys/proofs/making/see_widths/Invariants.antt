use Rattle.std.proofs.Common.{take}
use Rattle.std.specs.Prelude.{All}
use Rattle.vol_types.specs.Widths.{PosFits}
use Rattle.tree_keys.proofs.making.see_widths.Given as goal

abbrev pub invariant-loop-end : goal.invariant-loop-end
invariant-loop-end l = All PosFits (take l.end-index l.ends)
