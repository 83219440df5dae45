use Rattle.node_mem.proofs.SetKeys.{set_of_node, all_present}
use Rattle.node_mem.proofs.laws.nodes_are_sets.Goals as goal

pub returns : goal.returns
returns c = record { keys = set_of_node; present = all_present }
