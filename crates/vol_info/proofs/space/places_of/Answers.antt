use Rattle.std.proofs.Common.{◌++◌, ◌∙◌, List, ap}
use Rattle.std.specs.List.{flat_map}
use Rattle.std.specs.Map.{values_of}
use Rattle.image_reader.specs.declared.found.FoundBtree.{FoundBtree}
use Rattle.tree_nodes.specs.Levels.{Levels}
use Rattle.vol_types.specs.declared.pointers.NodePtr.{NodePtr}
use Rattle.vol_info.specs.Facts.{places_in}
use Rattle.vol_info.proofs.FoundBtrees.{btree_added}
use Rattle.vol_info.proofs.space.places_of.Goals as goal

pub loop-btree-preserved : goal.loop-btree-preserved
loop-btree-preserved c =
    let before = c.loop-btree.places in
    let added = c.in_ok-add_places.ensures
    ∙ ap (λ (nodes : List NodePtr). before ++ flat_map (λ (node : NodePtr). node.places) nodes) (c.as_slice-in-loop-btree.ensures ∙ c.in_ok-nodes.ensures ∙ ap (λ (levels : Levels). flat_map values_of levels) c.as_slice.ensures)
    ∙ ap (λ (btree : FoundBtree). before ++ places_in btree) c.btree-item.is in
    btree_added c.args.btrees.now c.loop-btree.btree-index c.btree-item.result c.loop-btree-test.true before c.add_places.new.places added ∙ c.loop-btree.invariant
