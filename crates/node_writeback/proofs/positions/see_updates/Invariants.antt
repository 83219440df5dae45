-- The positions of the updates so far have the widths of their types.
use Rattle.std.proofs.Common.{take}
use Rattle.std.specs.Prelude.{All}
use Rattle.node_writeback.proofs.Wide.{IsWide}
use Rattle.node_writeback.proofs.positions.see_updates.Given as goal

abbrev pub invariant-loop-update : goal.invariant-loop-update
invariant-loop-update l = All IsWide (take l.update-index l.updates)
