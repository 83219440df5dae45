use Rattle.std.proofs.Common.{ℕ, length}
use Rattle.lock_table.specs.Tables.{Table}
use Rattle.lock_table.proofs.Answered.{lowers_at}
use Rattle.lock_table.proofs.Kept.{kept_lowered}
use Rattle.lock_table.proofs.Sound.{sound_lowered}
use Rattle.lock_table.proofs.table.LockTable.lower.Goals as goal

pub invariant_of-self : goal.invariant_of-self
invariant_of-self c =
    let inside = c.self.inside in
    let count : ℕ = length inside.waits.items in
    let old : Table = record { nodes = inside.nodes.entries; waits = inside.waits.items; sequence = inside.sequence } in
    record {
      kept =
          kept_lowered inside.nodes.entries c.lower_node.new.nodes.entries inside.holdings.items count c.args.birth c.self.invariant.kept (c.lower_node.ensures.in_use count c.self.invariant.kept.in_use)
          c.lower_node.ensures.lowers;
      sound = sound_lowered old _ c.args.birth c.self.invariant.sound (lowers_at old c.lower_node.new.nodes.entries c.args.birth c.lower_node.ensures.lowers);
    }
