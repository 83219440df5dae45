use Rattle.vol_core.proofs.laws.found_volumes_have_laws.Goals as goal

pub returns : goal.returns
returns c = record {
  oldest = c.needed_entries_are_counted.ensures.oldest;
  count = c.needed_entries_are_counted.ensures.count;
  roots = c.updates_of_leaves_join_the_keys.ensures.roots;
  trees = c.found_btrees_are_a_key_map.ensures.trees;
  whole = c.leading_entries_are_needed.ensures.whole;
  changed = c.updates_change_nodes.ensures.exact;
}
