use Rattle.crash_safety.proofs.FoundRoots.{FoundLaws, roots_lead}
use Rattle.crash_safety.proofs.naming.found_roots_are_leaves.Goals as goal

pub returns : goal.returns
returns c =
    let laws : FoundLaws = record {
      trees = record { leaves = c.new_nodes_hold_the_keys.ensures.leaves; joined = c.updates_of_leaves_join_the_keys.ensures.trees };
      rises = c.new_nodes_hold_the_keys.ensures.rises;
      nine = c.updates_of_leaves_join_the_keys.ensures.roots;
      entries = c.found_btrees_are_a_key_map.ensures.entries;
    } in
    λ f state mended alike leaves below. roots_lead laws f state mended alike leaves below
