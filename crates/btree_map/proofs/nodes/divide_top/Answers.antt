use Rattle.std.proofs.Common.{◌≡◌, ℕ, ◌<◌, List, false, length, true, ap, arith, subst, sym, ◌∙◌}
use Rattle.std.specs.Prelude.{slice_index_or}
use Rattle.btree_map.specs.NodeLaws.{cuts-undone, ends-cut}
use Rattle.btree_map.specs.Trees.{cuts_joined, no_cut}
use Rattle.tree_keys.specs.Cuts.{Cut, is_end}
use Rattle.vol_types.specs.Btrees.{btree_code}
use Rattle.btree_map.proofs.nodes.divide_top.Goals as goal

pub join_leaf-requires-clause-end : goal.join_leaf-requires-clause-end
join_leaf-requires-clause-end c leaf =
    let code : c.from-code.result ≡ btree_code c.args.btree = c.from-code.ensures ∙ c.code.ensures in
    let there = subst (λ (n : ℕ). n < length c.args.keys.now.items) (sym code) c.requires.cuts in
    subst (λ (cuts : List Cut). is_end c.args.at.now (slice_index_or cuts c.from-code.result no_cut).ends ≡ true) (sym c.in_ok-cut_leaf.ensures.ok) (ends-cut c.args.keys.now.items c.from-code.result c.top_level-level.result c.args.at.now there leaf)

pub returns-in-Err-clause-err_keys : goal.returns-in-Err-clause-err_keys
returns-in-Err-clause-err_keys c =
    let code : c.from-code.result ≡ btree_code c.args.btree = c.from-code.ensures ∙ c.code.ensures in
    let there = subst (λ (n : ℕ). n < length c.args.keys.now.items) (sym code) c.requires.cuts in
    c.join_leaf.ensures ∙ ap (cuts_joined c.from-code.result c.top_level-level.result c.args.at.now) c.in_ok-cut_leaf.ensures.ok
    ∙ cuts-undone c.args.keys.now.items c.from-code.result c.top_level-level.result c.args.at.now there
    (λ leaf. subst (λ (n : ℕ). is_end c.args.at.now (slice_index_or c.args.keys.now.items n no_cut).ends ≡ false) (sym code)
    (c.requires.apart (omega (arith, leaf, c.top_level-level.ensures.exact, c.top_level-level.ensures.some))))
