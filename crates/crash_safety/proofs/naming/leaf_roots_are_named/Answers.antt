use Rattle.crash_safety.proofs.NamedRoots.{LeafTreeLaws, roots_named}
use Rattle.crash_safety.proofs.naming.leaf_roots_are_named.Goals as goal

pub returns : goal.returns
returns c =
    let trees : LeafTreeLaws = record { leaves = c.new_nodes_hold_the_keys.ensures.leaves; joined = c.updates_of_leaves_join_the_keys.ensures.trees } in
    roots_named trees c.entries_are_written_safely.ensures
