use Rattle.key_meaning.specs.SharedLaws.{alike_below, alike_by_chain}
use Rattle.key_meaning.proofs.shared.shared_keys_show_alike.Goals as goal

pub returns : goal.returns
returns c = record { chain = alike_by_chain; below = alike_below }
