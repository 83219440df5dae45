use Rattle.image_view.proofs.FoundUpdates.{found_joined, trees_joined}
use Rattle.image_view.proofs.NineRoots.{EntryLaws, nine_roots}
use Rattle.image_view.proofs.key_updates.updates_of_leaves_join_the_keys.Goals as goal

pub returns : goal.returns
returns c =
    let laws : EntryLaws = record { counts = c.one_entry_counts.ensures.counting; made = c.whole_entries_are_made_of_blocks.ensures } in
    record { trees = trees_joined; found = found_joined laws; roots = nine_roots laws }
