use Rattle.std.proofs.Common.{sym, subst, arith}
use Rattle.bucket_pool.specs.NodeBuckets.{AreFixed}
use Rattle.bucket_pool.specs.Space.{Space, settled_space}
use Rattle.journal_writer.specs.Writers.{Writer}
use Rattle.core_volume.specs.Volumes.{IsVolume, Volume}
use Rattle.core_volume.proofs.Written.{flying-made, settled-kept}
use Rattle.core_volume.proofs.volume.Volume.settle.Goals as goal

pub invariant_of-self : goal.invariant_of-self
invariant_of-self c =
    let inside = c.self.inside in
    let old : Volume = record { layout = inside.layout; session = inside.session; trees = inside.keys; queue = inside.queue.queue; pins = inside.dirty.pins.numbers; marks = inside.dirty.marks.numbers; later = inside.dirty.later.numbers; space = inside.pool; writer = inside.writer; work = inside.nodes; emptied = inside.emptied; halted = inside.halted; changes = inside.changes } in
    let settled_at = c.durable.result.now.sequence in
    let fixed : AreFixed inside.layout (settled_space settled_at inside.pool) = (c.nodes_keep_their_buckets.ensures.settled settled_at settled_at inside.pool (omega arith)).fixed inside.layout c.self.invariant.fixed in
    subst (λ (w : Writer). IsVolume (record old { space = c.settle-2.new.self; writer = w })) (sym c.settle.ensures)
    (settled-kept old c.self.invariant c.commits.ensures.sound c.waiting_changes_lead_from_durable_keys.ensures.settled c.settle-2.new.self
    (subst (λ (s : Space). AreFixed inside.layout s) (sym c.settle-2.ensures) fixed)
    (flying-made inside.writer.ring.mirrors c.in_flight.result inside.writer.flight c.in_flight.ensures.entry c.in_flight.ensures.changes))

pub returns-clause-sound : goal.returns-clause-sound
returns-clause-sound c = invariant_of-self c
