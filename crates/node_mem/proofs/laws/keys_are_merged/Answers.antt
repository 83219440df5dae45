use Rattle.node_mem.specs.MergeLaws.{with_keys-append}
use Rattle.node_mem.proofs.SetKeys.{keys_make, node-with_keys}
use Rattle.node_mem.proofs.laws.keys_are_merged.Goals as goal

pub returns : goal.returns
returns c = record { whole = keys_make; joined = with_keys-append; stays = node-with_keys }
