use Rattle.std.proofs.Common.{sym, ap, ◌∙◌}
use Rattle.forest_ops.specs.Tallies.{counted}
use Rattle.forest_ops.specs.Names.{count_in_slot}
use Rattle.forest_ops.proofs.Counting.{slot_gone}
use Rattle.forest_ops.proofs.name_table.NameTable.remove.Goals as goal

pub invariant_of-self : goal.invariant_of-self
invariant_of-self c slot =
    slot_gone c.args.name.now c.self.inside.numbers.entries slot c.args.slot (counted slot c.self.inside.slots) (counted slot c.take.new.self) c.requires c.remove-gone.result c.remove-gone.ensures.value (sym c.is_some.ensures ∙ c.if-is_some.true) (c.take.ensures slot) (c.self.invariant slot)
    ∙ sym (ap (count_in_slot slot) c.remove-gone.ensures.entries)
