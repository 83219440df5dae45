use Rattle.std.proofs.Common.{take}
use Rattle.std.specs.Prelude.{All}
use Rattle.vol_types.specs.Widths.{PosFits}
use Rattle.vol_types.specs.declared.keys.Update.{Update}
use Rattle.core_volume.proofs.volume.see_widths.Given as goal

abbrev pub invariant-loop-update : goal.invariant-loop-update
invariant-loop-update l = All (λ (update : Update). PosFits update.pos) (take l.update-index l.updates)
