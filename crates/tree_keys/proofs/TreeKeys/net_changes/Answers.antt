use Rattle.std.proofs.Common.{map, sym, ap, ◌∙◌, subst, take}
use Rattle.std.specs.Prelude.{unwrap_or}
use Rattle.node_mem.specs.MergeLaws.{keys_more}
use Rattle.tree_keys.specs.Cuts.{Cut}
use Rattle.tree_keys.specs.PlanLaws.{IsPlanning, planning_more}
use Rattle.vol_types.specs.Maps.{IsMap, value_at, with_value}
use Rattle.vol_types.specs.Positions.{pos_cmp}
use Rattle.vol_types.specs.Ranges.{IsKeyValue}
use Rattle.tree_keys.proofs.TreeKeys.net_changes.Goals as goal

pub loop-change-preserved : goal.loop-change-preserved
loop-change-preserved g c =
    subst (λ ks. IsPlanning c.args.self.now.entries ks c.insert.new.self.entries c.push.new.self)
    (sym (keys_more g.C.Change.key c.args.changes.now c.loop-change.change-index c.change-item.result c.loop-change-test.true c.change-item.is))
    (planning_more c.args.self.now.entries (map g.C.Change.key (take c.loop-change.change-index c.args.changes.now)) c.loop-change.last.entries c.insert.new.self.entries c.loop-change.before c.push.new.self
    (g.C.Change.key c.change-item.result) c.in_ok-value_before.field-0 (subst (λ (k : Cut). IsMap pos_cmp k.entries) c.self.view_is c.self.invariant.0.rises) c.loop-change.invariant c.insert.ensures.ordered
    (subst (λ x. IsKeyValue (g.C.Change.key x).value) (sym c.change-item.is) (c.requires c.loop-change.change-index c.change-item.result c.loop-change-test.true))
    (c.in_ok-earlier.ensures.entries ∙ ap (λ p. with_value pos_cmp p c.in_ok-value.value c.loop-change.last.entries) c.pos.ensures ∙ ap (λ v. with_value pos_cmp (g.C.Change.key c.change-item.result).pos v c.loop-change.last.entries) (c.in_ok-value.ensures ∙ c.value.ensures))
    (c.in_ok-value_before.ensures ∙ ap (λ o. unwrap_or o (value_at pos_cmp c.pos.result.now c.args.self.now.entries)) c.in_ok-earlier.ensures.old
    ∙ ap (λ p. unwrap_or (value_at pos_cmp p c.loop-change.last.entries) (value_at pos_cmp p c.args.self.now.entries)) c.pos.ensures)
    c.in_ok-push.ensures.ok)
