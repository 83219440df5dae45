use Rattle.std.proofs.Common.{◌+◌, sym, ap, ◌∙◌, subst}
use Rattle.std.proofs.lemmas.Bool.{and_parts}
use Rattle.btree_map.specs.Trees.{cut_in}
use Rattle.dirty_nodes.proofs.Splitting.{IsLeafAfter, leaf_passed, leaf_put}
use Rattle.node_mem.specs.Nodes.{Node}
use Rattle.tree_keys.specs.Cuts.{Cut}
use Rattle.vol_types.specs.KeyMaps.{is_update_of}
use Rattle.vol_types.specs.Maps.{put_at}
use Rattle.vol_types.specs.Positions.{is_within, pos_cmp}
use Rattle.vol_types.specs.Ranges.{IsKeyValue}
use Rattle.vol_types.specs.declared.keys.Update.{Update}
use Rattle.vol_types.specs.declared.positions.Pos.{Pos}
use Rattle.dirty_nodes.proofs.splits.leaf_after.Goals as goal
use Rattle.dirty_nodes.proofs.splits.leaf_after.Goals.{then-is_in_leaf+in_ok-put, else-is_in_leaf}

pub put-requires-clause-covered : goal.put-requires-clause-covered
put-requires-clause-covered c =
    let leaf = c.loop-update.leaf in
    ap (is_within leaf.least leaf.greatest) c.wide-pos.ensures.same
    ∙ (and_parts (is_update_of c.args.btree c.update-item.result) (is_within leaf.least leaf.greatest c.update-item.result.pos) (sym c.is_in_leaf.ensures ∙ c.if-is_in_leaf.true)).1

pub loop-update-preserved : goal.loop-update-preserved
loop-update-preserved c =
    let cut : Cut = cut_in c.args.map.now c.args.btree in
    let leaf : Node = c.loop-update.leaf in
    let update : Update = c.update-item.result in
    let range : IsKeyValue update.value = subst (λ (u : Update). IsKeyValue u.value) (sym c.update-item.is) (c.requires.updates c.loop-update.update-index update c.loop-update-test.true).in_range in
    elim c.if-is_in_leaf.branch [
      | then-is_in_leaf+in_ok-put w ↦
          (let parts = and_parts (is_update_of c.args.btree update) (is_within leaf.least leaf.greatest update.pos) (sym c.is_in_leaf.ensures ∙ w.if-is_in_leaf.true) in
          leaf_put cut c.args.btree c.args.updates.now c.args.end.now c.loop-update.update-index leaf update c.requires.end c.loop-update-test.true c.update-item.is c.wide-pos.ensures.fits range c.loop-update.invariant
          parts.0 parts.1 c.if-is_in_leaf.leaf
          (w.leaf-is ∙ w.in_ok-put.ensures ∙ ap (λ (p : Pos). record { least = leaf.least; greatest = leaf.greatest; entries = put_at pos_cmp p update.value leaf.entries }) c.wide-pos.ensures.same))
      | else-is_in_leaf w ↦
          subst (λ (n : Node). IsLeafAfter cut c.args.btree c.args.updates.now c.args.end.now (c.loop-update.update-index + 1) n) (sym w.leaf-is)
          (leaf_passed cut c.args.btree c.args.updates.now c.args.end.now c.loop-update.update-index leaf update c.requires.end c.loop-update-test.true c.update-item.is c.wide-pos.ensures.fits range c.loop-update.invariant
          (sym c.is_in_leaf.ensures ∙ w.if-is_in_leaf.false))
    ]
