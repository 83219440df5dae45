use Rattle.std.proofs.Common.{ℕ, [], sym, ap, ◌∙◌, subst, arith}
use Rattle.std.specs.Prelude.{slice_index_or}
use Rattle.btree_map.proofs.Carried.{read_at}
use Rattle.btree_map.specs.Trees.{IsBtree, cut_of, no_cut}
use Rattle.tree_keys.specs.Cuts.{Cut}
use Rattle.tree_nodes.specs.TreeLaws.{either}
use Rattle.vol_types.specs.Btrees.{btree_code}
use Rattle.btree_map.proofs.parts.are_btrees.Goals as goal

pub loop-code-preserved : goal.loop-code-preserved
loop-code-preserved c btree lt =
    let keys = c.args.keys.now in
    let nodes = c.args.nodes.now in
    let code = c.loop-code.code in
    either (btree_code btree) code (IsBtree btree (cut_of keys btree) (slice_index_or nodes (btree_code btree) []))
    (λ same.
    let cut = read_at keys code c.index-keys-code.result no_cut (omega (arith, c.requires.keys, c.loop-code-test.true)) c.index-keys-code.is ∙ ap (λ (n : ℕ). slice_index_or keys n no_cut) (sym same) in
    let levels = read_at nodes code c.index-nodes-code.result [] (omega (arith, c.requires.nodes, c.loop-code-test.true)) c.index-nodes-code.is ∙ ap (λ (n : ℕ). slice_index_or nodes n []) (sym same) in
    subst (λ (k : Cut). IsBtree btree k (slice_index_or nodes (btree_code btree) [])) cut
    (subst (IsBtree btree c.index-keys-code.result) levels (c.is_numbered.ensures.0 c.if-not-is_numbered.false btree same)))
    (λ other. c.loop-code.invariant btree (omega (arith, lt, other)))
