use Rattle.std.proofs.Common.{◌≡◌, ◌<◌, ◌∙◌, List, Some, ℕ, get_or, subst, sym}
use Rattle.std.proofs.lemmas.Bool.{false≢true}
use Rattle.dev_model.specs.Devices.{Is, MayBeWritten, now}
use Rattle.dev_model.specs.Disk.{Disk, as_read, block_at, changed, sizes_of, written}
use Rattle.dev_model.specs.FrameLaws.{go_on_by_write, go_on_reading, go_on_then}
use Rattle.dev_model.specs.PlaceLaws.{reads_written}
use Rattle.journal_ring.proofs.Frames.{mends_once, mends_read}
use Rattle.journal_ring.specs.Mending.{IsBlockAt}
use Rattle.journal_ring.proofs.mending.mend_block.Goals as goal

pub returns-in_err-write_device-clause-mends : goal.returns-in_err-write_device-clause-mends
returns-in_err-write_device-clause-mends g c tells =
    let D = g.D.Devices in
    mends_once c.write_device.result c.args.dev c.args.block c.args.bytes.now c.in_ok-held.held (D.state c.args.devices.now) (D.state c.read_block.new.devices) (D.state c.write_device.new.devices)
    (c.read_block.ensures.read.disks tells) (g.met.D.Devices.sound tells c.read_block.new.devices) (c.in_ok-held.ensures.bytes tells) (λ same. false≢true (sym c.if-are_same.false ∙ c.are_same.ensures.1 (c.as_slice.ensures ∙ same))) (c.write_device.ensures.call.disks tells)

pub returns-in_err-write_device-clause-goes_on : goal.returns-in_err-write_device-clause-goes_on
returns-in_err-write_device-clause-goes_on g c =
    let D = g.D.Devices in
    let mid = D.state c.read_block.new.devices in
    go_on_then (D.state c.args.devices.now) mid (D.state c.write_device.new.devices) (go_on_reading D.tells (D.state c.args.devices.now) mid c.read_block.ensures.read)
    (go_on_by_write D.tells c.args.dev c.write_device.result (MayBeWritten c.args.dev c.args.block c.args.bytes.now (now mid)) (Is (changed c.args.dev (written c.args.block c.args.bytes.now) (now mid))) mid (D.state c.write_device.new.devices) c.write_device.ensures.call c.write_device.ensures.sizes)

pub returns-clause-mends : goal.returns-clause-mends
returns-clause-mends g c tells =
    let D = g.D.Devices in
    mends_once c.write_device.result c.args.dev c.args.block c.args.bytes.now c.in_ok-held.held (D.state c.args.devices.now) (D.state c.read_block.new.devices) (D.state c.write_device.new.devices)
    (c.read_block.ensures.read.disks tells) (g.met.D.Devices.sound tells c.read_block.new.devices) (c.in_ok-held.ensures.bytes tells) (λ same. false≢true (sym c.if-are_same.false ∙ c.are_same.ensures.1 (c.as_slice.ensures ∙ same))) (c.write_device.ensures.call.disks tells)

pub returns-clause-held : goal.returns-clause-held
returns-clause-held g c tells =
    let D = g.D.Devices in
    let mid = D.state c.read_block.new.devices in
    let place : c.args.block < get_or mid.sizes c.args.dev 0 = subst (λ (sizes : List ℕ). c.args.block < get_or sizes c.args.dev 0) (sym c.read_block.ensures.read.sizes) c.requires.place in
    let within : c.args.block < get_or (sizes_of (now mid)) c.args.dev 0 = subst (λ (sizes : List ℕ). c.args.block < get_or sizes c.args.dev 0) (g.met.D.Devices.agree tells c.read_block.new.devices) place in
    subst (λ (ds : List Disk). block_at (as_read ds) c.args.dev c.args.block ≡ Some c.args.bytes.now) (sym (c.in_ok-write_device.ensures.call.disks tells).after) (reads_written (now mid) c.args.dev c.args.block c.args.bytes.now within)

pub returns-in_err-held-clause-mends : goal.returns-in_err-held-clause-mends
returns-in_err-held-clause-mends g c tells =
    let D = g.D.Devices in
    mends_read (IsBlockAt c.args.dev c.args.block c.args.bytes.now) (D.state c.args.devices.now) (D.state c.read_block.new.devices) (c.read_block.ensures.read.disks tells)

pub returns-in_err-held-clause-goes_on : goal.returns-in_err-held-clause-goes_on
returns-in_err-held-clause-goes_on g c =
    let D = g.D.Devices in
    go_on_reading D.tells (D.state c.args.devices.now) (D.state c.read_block.new.devices) c.read_block.ensures.read

pub returns-then-are_same-clause-mends : goal.returns-then-are_same-clause-mends
returns-then-are_same-clause-mends g c tells =
    let D = g.D.Devices in
    mends_read (IsBlockAt c.args.dev c.args.block c.args.bytes.now) (D.state c.args.devices.now) (D.state c.read_block.new.devices) (c.read_block.ensures.read.disks tells)

pub returns-then-are_same-clause-goes_on : goal.returns-then-are_same-clause-goes_on
returns-then-are_same-clause-goes_on g c =
    let D = g.D.Devices in
    go_on_reading D.tells (D.state c.args.devices.now) (D.state c.read_block.new.devices) c.read_block.ensures.read

pub returns-then-are_same-clause-idle : goal.returns-then-are_same-clause-idle
returns-then-are_same-clause-idle g c = λ same. c.read_block.ensures.read

pub returns-clause-goes_on : goal.returns-clause-goes_on
returns-clause-goes_on g c =
    let D = g.D.Devices in
    let mid = D.state c.read_block.new.devices in
    go_on_then (D.state c.args.devices.now) mid (D.state c.write_device.new.devices) (go_on_reading D.tells (D.state c.args.devices.now) mid c.read_block.ensures.read)
    (go_on_by_write D.tells c.args.dev c.write_device.result (MayBeWritten c.args.dev c.args.block c.args.bytes.now (now mid)) (Is (changed c.args.dev (written c.args.block c.args.bytes.now) (now mid))) mid (D.state c.write_device.new.devices) c.write_device.ensures.call c.write_device.ensures.sizes)
