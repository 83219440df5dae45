use Rattle.std.proofs.Common.{map, sym, ap, ◌∙◌, subst}
use Rattle.btree_map.specs.FreshLaws.{trees-fresh}
use Rattle.btree_map.specs.Trees.{IsTrees, one_leaf}
use Rattle.btree_map.proofs.map.KeyMap.fresh.Goals as goal

pub invariant_of-result : goal.invariant_of-result
invariant_of-result c =
    let keys = c.in_ok-keys.ensures ∙ ap (map (λ _. one_leaf)) c.as_slice.ensures in
    subst IsTrees (λ i. record { keys = sym keys i; nodes = sym (c.in_ok-of.ensures.ok ∙ c.from-nodes.ensures ∙ c.in_ok-leaves.ensures) i }) (trees-fresh c.args.roots c.requires)
