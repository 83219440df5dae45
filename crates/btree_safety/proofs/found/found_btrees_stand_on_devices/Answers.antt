use Rattle.btree_safety.proofs.FoundBtrees.{found_keys, found_stand}
use Rattle.btree_safety.proofs.found.found_btrees_stand_on_devices.Goals as goal

pub returns : goal.returns
returns c = record { stand = found_stand c.found_btrees_stand.ensures.found; keys = found_keys c.found_btrees_stand.ensures.found }
