use Rattle.std.proofs.Common.{ap, arith, length, Result, Ok, Err}
use Rattle.std.specs.Prelude.{OnOk}
use Rattle.dev_model.specs.FrameLaws.{}
use Rattle.geometry.specs.LayoutFacts.{has_places}
use Rattle.journal_ring.specs.Mending.{IsEntryBlock}
use Rattle.journal_ring.proofs.Frames.{mends_flush, mends_then}
use Rattle.journal_ring.proofs.Places.{one_block_each}
use Rattle.journal_ring.proofs.Quiet.{quiet_flushed}
use Rattle.journal_ring.proofs.mending.settle_parts.Goals as goal

pub flush_devices-requires : goal.flush_devices-requires
flush_devices-requires g c =
    let mirrors = (has_places (g.D.Devices.state c.args.devices.now).sizes c.args.layout.now c.requires.layout).mirrors in
    omega (arith, mirrors, ap length c.mend_parts.ensures.goes_on.sizes)

pub returns-clause-mends : goal.returns-clause-mends
returns-clause-mends g c tells =
    let D = g.D.Devices in
    let layout = c.args.layout.now in
    let least = (has_places (D.state c.args.devices.now).sizes layout c.requires.layout).least in
    let wanted = IsEntryBlock layout.metadata_replicas layout.journal c.args.number c.args.blocks.now in
    let mid = D.state c.mend_parts.new.devices in
    let new = D.state c.flush_devices.new.devices in
    mends_then wanted wanted (one_block_each layout.metadata_replicas layout.journal c.args.number c.args.blocks.now least c.requires.few) (λ d b x is. is)
    (D.state c.args.devices.now) mid new c.mend_parts.ensures.goes_on.later (c.mend_parts.ensures.mends tells)
    (mends_flush wanted mid new (c.flush_devices.ensures.crashes tells) (c.flush_devices.ensures.reads tells) (c.flush_devices.ensures.asks tells))

pub returns-clause-quiet : goal.returns-clause-quiet
returns-clause-quiet g c tells quiet =
    let D = g.D.Devices in
    let layout = c.args.layout.now in
    if_flushed c.flush_devices.result (c.flush_devices.ensures.settled tells) (λ settled.
    quiet_flushed layout.metadata_replicas layout.journal c.args.number c.args.blocks.now (D.state c.args.devices.now) (D.state c.flush_devices.new.devices) (returns-clause-mends g c tells) settled quiet)
  where
    if_flushed : {T E : Type 0} {P Q : Type 0} (result : Result T E) → OnOk result P → (P → Q) → OnOk result Q
    if_flushed (Ok x) is then = then is
    if_flushed (Err e) is then = tt
