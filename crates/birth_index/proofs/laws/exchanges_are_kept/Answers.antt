use Rattle.birth_index.specs.ExchangeLaws.{exchanged-roots, levels_of-others, levels_of-roots, node_of-named, node_of-others, one_node-stays}
use Rattle.birth_index.proofs.laws.exchanges_are_kept.Goals as goal

pub returns : goal.returns
returns c = record { named = node_of-named; others = node_of-others; roots = exchanged-roots; stay = one_node-stays; exchanged = levels_of-roots; left = levels_of-others }
