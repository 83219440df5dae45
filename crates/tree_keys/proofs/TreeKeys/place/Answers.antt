use Rattle.std.proofs.Common.{◌≡◌, None, Some, ap, ◌∙◌, subst, take}
use Rattle.std.proofs.lemmas.List.{get_or_default}
use Rattle.std.proofs.lemmas.List.Elements.{All-take}
use Rattle.node_mem.specs.Nodes.{with_keys}
use Rattle.tree_keys.specs.Changes.{keys_with}
use Rattle.tree_keys.specs.Cuts.{Cut, with_entries}
use Rattle.tree_keys.specs.PlanLaws.{keys_with_more, undone}
use Rattle.vol_types.specs.Maps.{IsMap, value_at}
use Rattle.vol_types.specs.Positions.{least_pos, pos_cmp}
use Rattle.vol_types.specs.declared.values.Value.TheVariants.{White}
use Rattle.tree_keys.proofs.TreeKeys.place.Goals as goal

pub loop-count-preserved : goal.loop-count-preserved
loop-count-preserved c =
    keys_with_more (Some White) c.args.self.now c.loop-count.self c.place_one.new.self c.args.positions.now c.loop-count.count _ c.loop-count-test.true
    (get_or_default c.args.positions.now c.loop-count.count least_pos _ c.loop-count-test.true) c.loop-count.invariant c.in_default.ensures.ok

pub returns-in-Err-clause-err : goal.returns-in-Err-clause-err
returns-in-Err-clause-err c =
    let positions = take c.loop-count.count c.args.positions.now in
    c.clear.ensures
    ∙ ap (λ (k : Cut). with_entries k (with_keys (keys_with None positions) k.entries)) (c.in-Err.ensures.err ∙ c.loop-count.invariant)
    ∙ ap (with_entries c.args.self.now)
    (undone positions c.args.self.now.entries (subst (λ (k : Cut). IsMap pos_cmp k.entries) c.self.view_is c.self.invariant.0.rises)
    (All-take (λ pos. value_at pos_cmp pos c.args.self.now.entries ≡ None) c.loop-count.count c.args.positions.now c.requires))
