use Rattle.std.proofs.Common.{◌≡◌, ◌-◌, true, false, cond, refl, sym, ap, ◌∙◌, arith}
use Rattle.std.specs.Prelude.{◌==◌, not}
use Rattle.std.proofs.lemmas.Bool.Decides.{nat_tests}
use Rattle.vol_digest.specs.Digests.{slot_of}
use Rattle.plain_forest.specs.Maps.{name_cmp, value_at}
use Rattle.forest_ops.specs.Names.{count_in_slot}
use Rattle.forest_ops.proofs.Sums.{without-none}
use Rattle.forest_ops.proofs.Counting.{none_of, slot_gone, slot_stays}
use Rattle.forest_ops.proofs.name_table.NameTable.count_without.Goals as goal

pub returns-then-gone_slot-slot : goal.returns-then-gone_slot-slot
returns-then-gone_slot-slot c =
    let gone = c.args.gone.now in
    let other : (slot_of gone == c.args.slot) ≡ false = grind (arith, nat_tests) in
    c.count_in_slot-count.ensures ∙ slot_stays gone c.args.self.now c.args.slot (value_at name_cmp gone c.args.self.now) refl other

pub returns-then-is_none : goal.returns-then-is_none
returns-then-is_none c =
    let gone = c.args.gone.now in
    c.count_in_slot-count.ensures
    ∙ ap (count_in_slot c.args.slot) (sym (without-none name_cmp gone c.args.self.now (sym c.number.ensures ∙ none_of c.number.result (c.is_none.ensures ∙ ap not c.if-is_none.true))))

pub returns : goal.returns
returns c =
    let gone = c.args.gone.now in
    let count = c.count_in_slot-count.result in
    let same : (c.args.gone_slot == c.args.slot) ≡ true = grind (arith, nat_tests) in
    let less : c.saturating_sub.result ≡ count - cond (c.args.gone_slot == c.args.slot) 1 0 = c.saturating_sub.ensures ∙ ap (λ b. count - cond b 1 0) (sym same) in
    slot_gone gone c.args.self.now c.args.slot c.args.gone_slot count c.saturating_sub.result c.requires c.number.result c.number.ensures (c.is_none.ensures ∙ ap not c.if-is_none.false) less c.count_in_slot-count.ensures
