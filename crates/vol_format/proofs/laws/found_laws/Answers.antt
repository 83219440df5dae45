-- The laws of the crates below, together.
use Rattle.vol_format.proofs.laws.found_laws.Goals as goal

pub returns : goal.returns
returns c = record {
  entries = record {
    opens = c.sealed_blocks_open.ensures.head;
    lengths = c.entry_lengths.ensures;
    whole = c.written_entries_are_whole.ensures;
    newest_is = c.leading_entries_are_needed.ensures.newest;
    needed_are = c.leading_entries_are_needed.ensures.needed;
  };
  set_lengths = c.set_lengths.ensures;
  leaves = c.new_nodes_hold_the_keys.ensures.leaves;
  means = c.fresh_keys_mean_fresh.ensures.means;
  sound = c.fresh_keys_mean_fresh.ensures.sound;
}
