use Rattle.std.proofs.Common.{[]}
use Rattle.key_triggers.proofs.Looping.{after_next}
use Rattle.key_triggers.specs.Changes.{values_after}
use Rattle.key_triggers.proofs.changes.values_after.Goals as goal

pub loop-update-preserved : goal.loop-update-preserved
loop-update-preserved c =
    after_next c.args.updates.now c.loop-update.update-index c.update-item.result c.loop-update.values.entries c.note_after.new.values.entries (values_after c.args.updates.now [])
    c.loop-update-test.true c.update-item.is c.in_ok-note_after.ensures c.loop-update.invariant
