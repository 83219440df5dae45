use Rattle.replay.proofs.RootsRead.{newest_entry}
use Rattle.replay.proofs.SameRoots.{RootLaws, same_agree, same_found, same_meaning}
use Rattle.replay.proofs.laws.roots_that_show_the_same_mean_the_same.Goals as goal

pub returns : goal.returns
returns c =
    let laws : RootLaws = record {
      entries = c.found_btrees_are_a_key_map.ensures.entries;
      some = c.found_btrees_are_a_key_map.ensures.newest;
      trees = c.found_btrees_are_a_key_map.ensures.trees;
      newest = c.same_areas_hold_one_journal.ensures.newest;
      needed = c.same_areas_hold_one_journal.ensures.needed;
      made = c.same_areas_hold_one_journal.ensures.made;
    } in
    record {
      found = λ one other f is placed agree differ. same_found laws one other f is (newest_entry one f is (laws.some one f is) (laws.entries one f is)) placed agree differ;
      agree = λ one other f is placed agree differ. same_agree laws one other f is (newest_entry one f is (laws.some one f is) (laws.entries one f is)) placed agree differ;
      means = λ one other f is placed agree differ. same_meaning laws one other f is (newest_entry one f is (laws.some one f is) (laws.entries one f is)) placed agree differ;
    }
