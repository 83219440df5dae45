use Rattle.std.proofs.Common.{List, take, sym, subst}
use Rattle.btree_map.proofs.Planning.{planned_more, planned_none, take_read}
use Rattle.btree_map.specs.KeyLaws.{key_map-cuts}
use Rattle.btree_map.specs.Applied.{ArePlanned}
use Rattle.btree_map.specs.Trees.{keys_of_cuts}
use Rattle.vol_types.specs.Ranges.{IsKeyValue}
use Rattle.vol_types.specs.declared.keys.Update.{Update}
use Rattle.btree_map.proofs.applying.plan.Goals as goal

pub loop-update-init : goal.loop-update-init
loop-update-init c = planned_none (keys_of_cuts c.args.keys.now) c.args.keys.now c.in_ok-last.last.items c.new-before.result c.requires.cuts.count c.in_ok-last.ensures c.new-before.ensures

pub loop-update-preserved : goal.loop-update-preserved
loop-update-preserved c =
    let keys = keys_of_cuts c.args.keys.now in
    let update = c.update-item.result in
    let i = c.loop-update.update-index in
    let range = subst (λ (u : Update). IsKeyValue u.value) (sym c.update-item.is) (c.requires.in_range i update c.loop-update-test.true) in
    subst (λ (us : List Update). ArePlanned keys us c.note.new.last.items c.push.new.self) (sym (take_read c.args.updates.now i update c.loop-update-test.true c.update-item.is))
    (planned_more keys (take i c.args.updates.now) c.loop-update.last.items c.loop-update.before update (key_map-cuts c.args.keys.now c.requires.cuts) range c.loop-update.invariant
    c.note.new.last.items c.in_ok-value.value c.push.new.self c.in_ok-value.ensures.ok c.in_ok-value.ensures.before c.in_ok-push.ensures.ok)
