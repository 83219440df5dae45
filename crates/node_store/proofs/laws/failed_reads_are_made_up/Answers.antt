use Rattle.std.proofs.Common.{arith}
use Rattle.node_store.proofs.MadeUp.{sets_made_up}
use Rattle.node_store.proofs.MadeUpContents.{content_made_up}
use Rattle.node_store.proofs.laws.failed_reads_are_made_up.Goals as goal

pub returns-clause-sets : goal.returns-clause-sets
returns-clause-sets c id birth copies seen found agree are is = sets_made_up id birth found.end copies seen agree are found is (omega arith)

pub returns-clause-node : goal.returns-clause-node
returns-clause-node c = content_made_up
