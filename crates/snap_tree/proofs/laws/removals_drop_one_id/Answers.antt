use Rattle.snap_tree.specs.RemovalLaws.{chain-removed, chain-gone}
use Rattle.snap_tree.proofs.laws.removals_drop_one_id.Goals as goal

pub returns : goal.returns
returns c = record { others = chain-removed; gone = chain-gone }
