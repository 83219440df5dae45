use Rattle.image_view.specs.Found.{sets_in}
use Rattle.image_view.proofs.LeafRoots.{new_means, roots_are, roots_rise}
use Rattle.image_view.proofs.NineRoots.{EntryLaws}
use Rattle.image_view.proofs.Replayed.{kept_holds, updates_again}
use Rattle.image_view.proofs.new_nodes.new_nodes_hold_the_keys.Goals as goal

pub returns : goal.returns
returns c =
    let laws : EntryLaws = record { counts = c.one_entry_counts.ensures.counting; made = c.whole_entries_are_made_of_blocks.ensures } in
    record {
      leaves = λ layout image roots content are. roots_are (sets_in layout image) roots content are;
      rises = roots_rise;
      again = updates_again;
      kept = kept_holds;
      means = new_means laws;
    }
