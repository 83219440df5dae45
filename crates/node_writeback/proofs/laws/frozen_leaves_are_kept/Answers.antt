-- A leaf that is due is frozen besides others.
use Rattle.std.proofs.Common.{refl}
use Rattle.node_writeback.proofs.Placed.{frozen-more}
use Rattle.node_writeback.proofs.laws.frozen_leaves_are_kept.Goals as goal

pub returns-clause-more : goal.returns-clause-more
returns-clause-more c = λ durable nodes pins frozen node are tree due birth leaf unused fresh. frozen-more durable nodes pins frozen node.btree due node refl are tree birth leaf unused fresh
