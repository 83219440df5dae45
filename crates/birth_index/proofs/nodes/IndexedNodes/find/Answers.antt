use Rattle.std.proofs.Common.{◌≡◌, List, Some, subst, sym}
use Rattle.birth_index.specs.Births.{birth_of}
use Rattle.birth_index.specs.FindLaws.{Finds-once}
use Rattle.tree_nodes.specs.Levels.{Levels}
use Rattle.birth_index.proofs.nodes.IndexedNodes.find.Goals as goal

pub returns-clause-differ : goal.returns-clause-differ
returns-clause-differ c one other birth has too =
    let back = sym c.self.view_is in
    Finds-once c.self.inside.births (birth_of c.self.inside.trees.items) one other birth c.self.invariant (subst (λ (ns : List Levels). birth_of ns one ≡ Some birth) back has) (subst (λ (ns : List Levels). birth_of ns other ≡ Some birth) back too)
