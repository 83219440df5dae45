use Rattle.std.proofs.Common.{◌≡◌, sym, ap, ◌∙◌, rules}
use Rattle.plain_forest.specs.Maps.{name_cmp, with_value}
use Rattle.forest_ops.specs.Tallies.{counted}
use Rattle.forest_ops.specs.Names.{count_in_slot}
use Rattle.forest_ops.proofs.Counting.{slot_more}
use Rattle.forest_ops.proofs.name_table.insert_slotted.Goals as goal

pub returns-clause-counted : goal.returns-clause-counted
returns-clause-counted g c = λ slot was.
    let name = c.args.name.now in
    let values = c.args.values.now.entries in
    let added : c.insert.new.self.entries ≡ with_value name_cmp name c.args.value values = search rules in
    slot_more name c.args.value values slot c.args.slot (counted slot c.args.slots.now) (counted slot c.add.new.self) c.requires.slot c.requires.new (c.in_ok-add.ensures.ok slot) was
    ∙ sym (ap (count_in_slot slot) added)
