use Rattle.snap_tree.specs.SplitLaws.{split_is_tree, split_updates, chain-source, chain-copy, chain-others}
use Rattle.snap_tree.proofs.laws.splits_make_trees.Goals as goal

pub returns : goal.returns
returns c = record {
  tree = λ snaps id next leaf tree found left fresh. split_is_tree snaps id next leaf tree.rises found left fresh tree.trees;
  updates = split_updates;
  source = λ snaps id next leaf tree found left fresh. chain-source snaps id next leaf tree.rises found left fresh;
  copy = λ snaps id next leaf tree found left fresh. chain-copy snaps id next leaf tree.rises found left fresh;
  others = λ snaps id next leaf tree found left fresh. chain-others snaps id next leaf tree.rises found left fresh;
}
