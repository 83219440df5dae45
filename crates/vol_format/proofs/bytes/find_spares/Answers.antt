use Rattle.dev_model.specs.FrameLaws.{only_read_then}
use Rattle.vol_format.proofs.bytes.find_spares.Goals as goal

pub returns-in_err-spare-clause-read : goal.returns-in_err-spare-clause-read
returns-in_err-spare-clause-read g c =
    let D = g.D.Devices in
    only_read_then D.tells (D.state c.args.devices.now) (D.state c.loop-dev.devices) (D.state c.find_spare.new.devices) c.loop-dev.invariant.read c.find_spare.ensures.read

pub returns-in_err-push-clause-read : goal.returns-in_err-push-clause-read
returns-in_err-push-clause-read g c =
    let D = g.D.Devices in
    only_read_then D.tells (D.state c.args.devices.now) (D.state c.loop-dev.devices) (D.state c.find_spare.new.devices) c.loop-dev.invariant.read c.find_spare.ensures.read
