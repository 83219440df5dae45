-- A volume in which the work on nodes was given up is kept.
use Rattle.std.proofs.Common.{◌∙◌, arith, subst, sym}
use Rattle.bucket_pool.specs.Space.{emptied_all, settled_space}
use Rattle.node_writeback.specs.Placing.{fresh_places}
use Rattle.core_volume.specs.Volumes.{IsVolume, Volume}
use Rattle.core_volume.proofs.Frozen.{given_up-kept}
use Rattle.core_volume.proofs.volume.Volume.end_without_space.Goals as goal

pub invariant_of-self : goal.invariant_of-self
invariant_of-self c =
    let inside = c.self.inside in
    let old : Volume = record { layout = inside.layout; session = inside.session; trees = inside.keys; queue = inside.queue.queue; pins = inside.dirty.pins.numbers; marks = inside.dirty.marks.numbers; later = inside.dirty.later.numbers; space = inside.pool; writer = inside.writer; work = inside.nodes; emptied = inside.emptied; halted = inside.halted; changes = inside.changes } in
    let durable = inside.writer.durable.sequence in
    let space = c.give_up.ensures.pool ∙ (λ i. settled_space (c.durable.ensures i).sequence (emptied_all (fresh_places (c.finished.ensures i)) (c.durable.ensures i).sequence inside.pool)) in
    subst IsVolume (sym (λ i. record { layout = inside.layout; session = inside.session; trees = inside.keys; queue = inside.queue.queue; pins = (c.give_up.ensures.pins i).numbers; marks = (c.give_up.ensures.marks i).numbers; later = c.give_up.ensures.later i; space = space i; writer = inside.writer; work = c.end-ended.ensures.ended i; emptied = inside.emptied; halted = inside.halted; changes = inside.changes }))
    (given_up-kept old c.self.invariant c.frozen_leaves_are_kept.ensures.none (λ layout place sequence s fixed. c.nodes_keep_their_buckets.ensures.emptied_fixed layout place sequence s fixed)
    (λ layout s fixed. (c.nodes_keep_their_buckets.ensures.settled durable durable s (omega arith)).fixed layout fixed))

pub returns-clause-sound : goal.returns-clause-sound
returns-clause-sound c = invariant_of-self c
