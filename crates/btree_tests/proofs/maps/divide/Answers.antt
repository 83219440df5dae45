use Rattle.birth_index.specs.declared.name.NodeName.{NodeName}
use Rattle.btree_tests.proofs.Unused.{for_halves}
use Rattle.btree_tests.proofs.maps.divide.Goals as goal

pub divide-requires-clause-births : goal.divide-requires-clause-births
divide-requires-clause-births c =
    let name : NodeName = record { btree = c.args.btree; level = c.args.level; greatest = c.in-Some.greatest.now } in
    for_halves c.args.map.now.nodes name c.args.birth (c.are_unused.ensures.free c.if-not-are_unused.false) c.in_ok-first.first.birth c.in_ok-second.second.birth c.in_ok-first.ensures.born c.in_ok-second.ensures.born
