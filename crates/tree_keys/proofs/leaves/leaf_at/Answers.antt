use Rattle.std.proofs.Common.{ℕ, sym, ap, subst, ◌∙◌}
use Rattle.std.specs.Map.{keys_of}
use Rattle.std.specs.Map.Iter.{deref_pair}
use Rattle.std.proofs.lemmas.Map.Iter.{rest_all, rest_more}
use Rattle.tree_keys.specs.Cuts.{end_of}
use Rattle.tree_keys.specs.OrderLaws.{le_greatest}
use Rattle.tree_keys.proofs.Looks.{first_leaf, from-range, some_leaf}
use Rattle.vol_types.specs.Widths.{PosFits}
use Rattle.vol_types.specs.declared.positions.Pos.{Pos}
use Rattle.tree_keys.proofs.leaves.leaf_at.Goals as goal

pub unreachable-requires : goal.unreachable-requires
unreachable-requires c =
    some_leaf c.wide-pos.result c.args.leaves.now.entries
    (sym (c.range.ensures.between tt ∙ from-range c.wide-pos.result c.args.leaves.now.entries) ∙ rest_all (deref_pair {K = Pos} {X = ℕ}) _ _ _ c.in-None.is c.next.ensures.steps)
    (le_greatest c.wide-pos.result (subst PosFits (sym c.wide-pos.ensures.same) c.wide-pos.ensures.fits)) c.requires.whole

pub returns-clause-end : goal.returns-clause-end
returns-clause-end c =
    (first_leaf c.wide-pos.result c.args.leaves.now.entries c.next.new.self (c.in-Some.end.now, c.in-Some.bytes.now)
    (sym (c.range.ensures.between tt ∙ from-range c.wide-pos.result c.args.leaves.now.entries) ∙ rest_more (deref_pair {K = Pos} {X = ℕ}) _ _ _ _ c.in-Some.is c.next.ensures.steps)).0
    ∙ ap (λ p. end_of p (keys_of c.args.leaves.now.entries)) c.wide-pos.ensures.same
