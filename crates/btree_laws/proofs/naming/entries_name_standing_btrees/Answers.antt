use Rattle.btree_laws.proofs.Named.{ReadLaws, entry_means, entry_names, found_stands}
use Rattle.btree_laws.proofs.naming.entries_name_standing_btrees.Goals as goal

pub returns : goal.returns
returns c =
    let laws : ReadLaws = record { updated = c.standing_btrees_are_read.ensures.updated; found_is = c.images_mean_their_bases.ensures.trees } in
    record { found = found_stands laws; names = entry_names laws; means = entry_means laws }
