use Rattle.std.proofs.Common.{subst}
use Rattle.birth_index.specs.Births.{IsIndex, birth_of}
use Rattle.birth_index.specs.FindLaws.{Finds-once}
use Rattle.birth_index.proofs.nodes.IndexedNodes.of.Goals as goal

pub returns-clause-differ : goal.returns-clause-differ
returns-clause-differ c one other birth = Finds-once c.in_ok-births.births (birth_of c.args.trees) one other birth (subst (IsIndex c.in_ok-births.births) c.as_slice.ensures c.in_ok-births.ensures.ok)
