use Rattle.std.proofs.Common.{List, subst, sym}
use Rattle.std.specs.Prelude.{OnOk}
use Rattle.dev_model.specs.Crashes.{EachCrash}
use Rattle.dev_model.specs.Devices.{now}
use Rattle.dev_model.specs.Disk.{as_read, block_at}
use Rattle.geometry.specs.Faults.{DeviceFailed}
use Rattle.vol_types.specs.declared.pointers.Place.{Place}
use Rattle.node_store.specs.Answers.{AreAlike}
use Rattle.node_store.specs.Copies.{copies_at}
use Rattle.node_store.specs.Mending.{AreWritten, CanBeMended, IsToMend, IsWanted, StayShown, WritesOnly}
use Rattle.node_store.proofs.mending.mend_node.Goals as goal

pub returns-clause-writes : goal.returns-clause-writes
returns-clause-writes g c tells =
    let D = g.D.Devices in
    let old = D.state c.args.devices.now in
    let new = D.state c.mend_blocks.new.devices in
    let id = c.args.layout.now.id in
    let birth = c.args.ptr.now.birth in
    let image = as_read (now old) in
    subst (λ (places : List Place). WritesOnly (IsToMend id birth places c.args.end image (λ dev. DeviceFailed dev old.faults new.faults)) (IsWanted id birth places c.args.end image) old new) c.as_slice-places.ensures
    (c.mend_blocks.ensures.writes tells)

pub returns-clause-kept : goal.returns-clause-kept
returns-clause-kept g c tells quiet =
    let D = g.D.Devices in
    let old = D.state c.args.devices.now in
    subst (λ (places : List Place). EachCrash (λ _ _ image. StayShown c.args.layout.now.id c.args.ptr.now.birth places c.args.end (as_read (now old)) image) old (D.state c.mend_blocks.new.devices)) c.as_slice-places.ensures
    (c.mend_blocks.ensures.kept tells quiet)

pub returns-clause-idle : goal.returns-clause-idle
returns-clause-idle g c tells none alike =
    let D = g.D.Devices in
    let image = as_read (now (D.state c.args.devices.now)) in
    c.mend_blocks.ensures.idle tells none (subst (λ (places : List Place). AreAlike c.args.end (copies_at (block_at image) places)) (sym c.as_slice-places.ensures) alike)

pub returns-clause-mended : goal.returns-clause-mended
returns-clause-mended g c tells can =
    let D = g.D.Devices in
    let old = D.state c.args.devices.now in
    let new = D.state c.mend_blocks.new.devices in
    let same = c.as_slice-places.ensures in
    subst (λ (places : List Place). OnOk c.mend_blocks.result (AreAlike c.args.end (copies_at (block_at (as_read (now new))) places))) same
    (c.mend_blocks.ensures.mended tells (subst (λ (places : List Place). CanBeMended c.args.layout.now c.args.ptr.now.birth places c.args.end old.sizes (as_read (now old))) (sym same) can))

pub returns-clause-written : goal.returns-clause-written
returns-clause-written g c tells =
    let D = g.D.Devices in
    let image = as_read (now (D.state c.args.devices.now)) in
    subst (λ (places : List Place). OnOk c.mend_blocks.result (AreWritten (IsWanted c.args.layout.now.id c.args.ptr.now.birth places c.args.end image) image (as_read (now (D.state c.mend_blocks.new.devices))))) c.as_slice-places.ensures
    (c.mend_blocks.ensures.written tells)
