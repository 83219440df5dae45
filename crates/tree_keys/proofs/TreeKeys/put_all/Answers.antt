use Rattle.std.proofs.Common.{◌≡◌, None, Some, map, sym, ap, ◌∙◌, subst}
use Rattle.std.specs.Prelude.{All, IsSome}
use Rattle.node_mem.specs.MergeLaws.{IsMap-with_keys}
use Rattle.node_mem.specs.Nodes.{with_keys}
use Rattle.tree_keys.specs.Changes.{keys_of_changed, keys_with}
use Rattle.tree_keys.specs.Cuts.{Cut, with_entries}
use Rattle.tree_keys.specs.PlanLaws.{all_placed, filled, fresh-free}
use Rattle.vol_types.specs.Maps.{IsMap, value_at}
use Rattle.vol_types.specs.Positions.{pos_cmp}
use Rattle.vol_types.specs.declared.values.Value.TheVariants.{White}
use Rattle.tree_keys.proofs.TreeKeys.put_all.Goals as goal

pub place-requires : goal.place-requires
place-requires g c =
    subst (All (λ pos. value_at pos_cmp pos c.args.self.now.entries ≡ None)) (sym (c.as_slice.ensures.value ∙ c.in_ok-fresh.ensures)) (fresh-free c.in_ok-last.field-0.last.entries c.args.self.now.entries)

pub fill-requires-clause-placed : goal.fill-requires-clause-placed
fill-requires-clause-placed g c =
    let rises = subst (λ (k : Cut). IsMap pos_cmp k.entries) c.self.view_is c.self.invariant.0.rises in
    λ pos value found.
    subst (λ (k : Cut). IsSome (value_at pos_cmp pos k.entries)) (sym (c.in_ok-place.ensures.ok ∙ ap (λ ps. with_entries c.args.self.now (with_keys (keys_with (Some White) ps) c.args.self.now.entries)) (c.as_slice.ensures.value ∙ c.in_ok-fresh.ensures)))
    (all_placed c.in_ok-last.field-0.last.entries c.args.self.now.entries rises pos value found)

pub returns-clause-ok : goal.returns-clause-ok
returns-clause-ok g c =
    let rises = subst (λ (k : Cut). IsMap pos_cmp k.entries) c.self.view_is c.self.invariant.0.rises in
    c.fill.ensures
    ∙ ap (λ (k : Cut). with_entries k (with_keys (keys_of_changed c.in_ok-last.field-0.last.entries) k.entries))
    (c.in_ok-place.ensures.ok ∙ ap (λ ps. with_entries c.args.self.now (with_keys (keys_with (Some White) ps) c.args.self.now.entries)) (c.as_slice.ensures.value ∙ c.in_ok-fresh.ensures))
    ∙ ap (with_entries c.args.self.now) (filled c.in_ok-last.field-0.last.entries c.args.self.now.entries rises (with_keys (map g.C.Change.key c.args.changes.now) c.args.self.now.entries) (IsMap-with_keys (map g.C.Change.key c.args.changes.now) c.args.self.now.entries rises) c.in_ok-last.ensures.rises c.in_ok-last.ensures.last)
