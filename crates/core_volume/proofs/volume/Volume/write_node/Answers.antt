-- A volume of which a block of a frozen node was written is kept, and so it is where a device failed.
use Rattle.std.proofs.Common.{◌≡◌, subst, sym, true}
use Rattle.geometry.specs.Layouts.{is_layout_of}
use Rattle.core_volume.specs.Volumes.{IsVolume, Volume}
use Rattle.core_volume.proofs.Frozen.{block-kept, unfinished_there, unsettled-kept}
use Rattle.core_volume.proofs.volume.Volume.write_node.Goals as goal

pub invariant_of-self : goal.invariant_of-self
invariant_of-self g c =
    let inside = c.self.inside in
    let old : Volume = record { layout = inside.layout; session = inside.session; trees = inside.keys; queue = inside.queue.queue; pins = inside.dirty.pins.numbers; marks = inside.dirty.marks.numbers; later = inside.dirty.later.numbers; space = inside.pool; writer = inside.writer; work = inside.nodes; emptied = inside.emptied; halted = inside.halted; changes = inside.changes } in
    subst IsVolume (sym (λ i. record old { writer = c.unsettle.ensures i; work = c.in_err-write_part.ensures.err i })) (unsettled-kept old c.self.invariant)

pub invariant_of-self-2 : goal.invariant_of-self-2
invariant_of-self-2 g c =
    let inside = c.self.inside in
    let old : Volume = record { layout = inside.layout; session = inside.session; trees = inside.keys; queue = inside.queue.queue; pins = inside.dirty.pins.numbers; marks = inside.dirty.marks.numbers; later = inside.dirty.later.numbers; space = inside.pool; writer = inside.writer; work = inside.nodes; emptied = inside.emptied; halted = inside.halted; changes = inside.changes } in
    subst IsVolume (sym (λ i. record old { writer = c.unsettle.ensures i; work = c.in_ok-write_part.ensures.ok i })) (block-kept old c.self.invariant)

pub returns-clause-sound : goal.returns-clause-sound
returns-clause-sound g c = invariant_of-self-2 g c

pub returns-in_err-write_part-clause-sound : goal.returns-in_err-write_part-clause-sound
returns-in_err-write_part-clause-sound g c = invariant_of-self g c

pub write_part-requires-clause-there : goal.write_part-requires-clause-there
write_part-requires-clause-there g c =
    let inside = c.self.inside in
    let old : Volume = record { layout = inside.layout; session = inside.session; trees = inside.keys; queue = inside.queue.queue; pins = inside.dirty.pins.numbers; marks = inside.dirty.marks.numbers; later = inside.dirty.later.numbers; space = inside.pool; writer = inside.writer; work = inside.nodes; emptied = inside.emptied; halted = inside.halted; changes = inside.changes } in
    let sizes = (g.D.Devices.state c.args.devices.now).sizes in
    unfinished_there old c.self.invariant sizes (subst (λ (volume : Volume). is_layout_of sizes volume.layout ≡ true) (sym c.self.view_is) c.requires.layout) c.unfinished.ensures.sound.unfinished
