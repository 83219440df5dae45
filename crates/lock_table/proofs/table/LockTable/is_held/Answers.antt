use Rattle.std.proofs.Common.{length, sym, subst, ◌∙◌}
use Rattle.lock_table.specs.Tables.{Table, IsHeld}
use Rattle.lock_table.proofs.Answered.{held_in_use}
use Rattle.lock_table.proofs.table.LockTable.is_held.Goals as goal

pub returns-clause-yes : goal.returns-clause-yes
returns-clause-yes c = λ yes_held.
    let inside = c.self.inside in
    let old : Table = record { nodes = inside.nodes.entries; waits = inside.waits.items; sequence = inside.sequence } in
    subst (λ (t : Table). IsHeld t c.args.birth) c.self.view_is (held_in_use old (length inside.waits.items) c.args.birth c.self.invariant.kept.in_use (sym c.is_in_use.ensures ∙ yes_held))
