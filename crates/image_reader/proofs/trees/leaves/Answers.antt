use Rattle.std.proofs.Common.{◌∙◌, ◌++◌, ◌∷◌, [], map, ap}
use Rattle.image_view.specs.Trees.{ends_of}
use Rattle.image_reader.specs.Nodes.{node_in}
use Rattle.image_reader.proofs.TreeTold.{flat_nodes}
use Rattle.image_reader.proofs.trees.leaves.Goals as goal

pub returns-clause-btree : goal.returns-clause-btree
returns-clause-btree c = λ i. record {
  entries = (c.in_ok-entries.ensures ∙ flat_nodes c.args.read) i;
  levels = (c.in_ok-push.ensures.ok ∙ ap (λ levels. levels ++ c.args.nodes ∷ []) c.new-levels.ensures) i;
  ends = (c.in_ok-ends.ensures ∙ ap (λ nodes. ends_of (map node_in nodes)) c.as_slice.ensures) i;
}
