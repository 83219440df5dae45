use Rattle.std.proofs.Common.{ℕ, length, subst, sym}
use Rattle.six_lock.specs.Modes.Mode.{Intent}
use Rattle.lock_table.specs.Tables.{Table, HoldsAt}
use Rattle.lock_table.specs.Calls.{Upgrades}
use Rattle.lock_table.specs.Holdings.{restart_unless_granted}
use Rattle.lock_table.specs.declared.table.Ruling.{Ruling}
use Rattle.lock_table.proofs.Answered.{upgrades_at}
use Rattle.lock_table.proofs.Kept.{kept_upgraded}
use Rattle.lock_table.proofs.Sound.{sound_upgraded}
use Rattle.lock_table.proofs.table.LockTable.upgrade.Goals as goal

pub invariant_of-self : goal.invariant_of-self
invariant_of-self c =
    let inside = c.self.inside in
    let count : ℕ = length inside.waits.items in
    let old : Table = record { nodes = inside.nodes.entries; waits = inside.waits.items; sequence = inside.sequence } in
    let intent = subst (λ (t : Table). HoldsAt t c.args.birth c.args.actor Intent) (sym c.self.view_is) c.requires in
    record {
      kept =
          kept_upgraded inside.nodes.entries c.upgrade_node.new.nodes.entries inside.holdings.items count c.args.birth c.args.actor c.upgrade_node.result c.self.invariant.kept (c.upgrade_node.ensures.in_use count c.self.invariant.kept.in_use)
          intent c.upgrade_node.ensures.answer;
      sound =
          sound_upgraded old _ c.args.actor c.args.birth (restart_unless_granted c.args.birth c.upgrade_node.result) c.self.invariant.sound intent
          (upgrades_at old c.upgrade_node.new.nodes.entries c.args.birth c.args.actor c.upgrade_node.result c.upgrade_node.ensures.answer);
    }

pub returns : goal.returns
returns c =
    let inside = c.self.inside in
    let old : Table = record { nodes = inside.nodes.entries; waits = inside.waits.items; sequence = inside.sequence } in
    let new : Table = record { nodes = c.upgrade_node.new.nodes.entries; waits = inside.waits.items; sequence = inside.sequence } in
    subst (λ (r : Ruling). Upgrades c.args.self.now c.args.actor c.args.birth r new) (sym c.restart_unless.ensures)
    (subst (λ (t : Table). Upgrades t c.args.actor c.args.birth (restart_unless_granted c.args.birth c.upgrade_node.result) new) c.self.view_is
    (upgrades_at old c.upgrade_node.new.nodes.entries c.args.birth c.args.actor c.upgrade_node.result c.upgrade_node.ensures.answer))
