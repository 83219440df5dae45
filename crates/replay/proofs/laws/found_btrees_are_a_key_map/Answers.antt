use Rattle.replay.proofs.BtreesRead.{keys_are}
use Rattle.replay.proofs.FoundKeys.{found_are, found_entries, found_some}
use Rattle.replay.proofs.laws.found_btrees_are_a_key_map.Goals as goal

pub returns : goal.returns
returns c =
    let whole = c.leading_entries_are_needed.ensures.whole in
    let made = c.whole_entries_are_made_of_blocks.ensures in
    let sealed = c.opened_blocks_are_sealed.ensures in
    let exact_entries = c.entries_are_exact.ensures in
    let sets = c.sets_are_exact.ensures in
    let are = found_are whole made sealed exact_entries sets in
    record {
      trees = λ image f is. (are image f is).0;
      newest = found_some;
      entries = found_entries whole made sealed exact_entries sets;
      births = λ image f is. (are image f is).1;
      keys = λ image f is. keys_are f.trees;
    }
