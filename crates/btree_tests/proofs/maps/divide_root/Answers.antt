use Rattle.birth_index.specs.Births.{root_named}
use Rattle.btree_tests.proofs.Unused.{for_roots}
use Rattle.btree_tests.proofs.maps.divide_root.Goals as goal

pub divide_root-requires-clause-births : goal.divide_root-requires-clause-births
divide_root-requires-clause-births c =
    let nodes = c.args.map.now.nodes in
    for_roots nodes (root_named nodes c.args.btree) c.args.birth (c.are_unused.ensures.free c.if-not-are_unused.false) c.in_ok-first.first.birth c.in_ok-second.second.birth c.in_ok-root.root.birth c.in_ok-first.ensures.born c.in_ok-second.ensures.born c.in_ok-root.ensures.born
