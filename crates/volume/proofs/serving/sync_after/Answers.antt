-- The forest that the keys mean answers the operation with a number of commits, as its plan does, and still when it has ended.
use Rattle.std.proofs.Common.{ap}
use Rattle.btree_map.specs.Trees.{keys_in}
use Rattle.core_volume.specs.Volumes.{Volume}
use Rattle.volume.proofs.Acting.{synced_still}
use Rattle.volume.proofs.Helped.{same_helped, step_keeps}
use Rattle.volume.proofs.Replying.{plan_is_synced}
use Rattle.volume.proofs.serving.sync_after.Goals as goal

pub sync-requires-clause-synced : goal.sync-requires-clause-synced
sync-requires-clause-synced g c =
    synced_still c.args.client c.args.plan.op c.args.session.now.core.memory c.end.new.session.core.memory (ap (λ (volume : Volume). keys_in volume.trees) c.end.ensures.stepped.volume)
    (plan_is_synced c.args.session.now.core.memory c.args.client c.args.plan c.requires.synced c.requires.now)

pub returns-clause-helped : goal.returns-clause-helped
returns-clause-helped g c = λ helped. c.sync.ensures.helped (same_helped c.args.session.now c.end.new.session (step_keeps c.args.session.now c.end.new.session c.end.ensures.stepped) helped)
