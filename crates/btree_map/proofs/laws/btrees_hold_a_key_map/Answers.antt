use Rattle.btree_map.specs.KeyLaws.{entries_of-keys_in, key_map-trees, keys_in-divided}
use Rattle.btree_map.proofs.laws.btrees_hold_a_key_map.Goals as goal

pub returns : goal.returns
returns c = record { rises = key_map-trees; entries = entries_of-keys_in; divided = keys_in-divided }
