-- The positions of the updates of the entries so far have the widths of their types.
use Rattle.std.proofs.Common.{take}
use Rattle.std.specs.Prelude.{All}
use Rattle.node_writeback.proofs.Wide.{AreWide}
use Rattle.node_writeback.proofs.positions.see_entries.Given as goal

abbrev pub invariant-loop-entry : goal.invariant-loop-entry
invariant-loop-entry l = All AreWide (take l.entry-index l.entries)
