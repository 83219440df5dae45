use Rattle.dev_model.specs.FrameLaws.{only_read_by}
use Rattle.geometry.proofs.reading.read_block.Goals as goal

pub returns-in-Ok-clause-read : goal.returns-in-Ok-clause-read
returns-in-Ok-clause-read g c =
    let D = g.D.Devices in
    only_read_by D.tells c.args.dev c.read.result (D.state c.args.devices.now) (D.state c.read.new.self) c.read.ensures.call c.read.ensures.sizes

pub returns-in-Err-clause-read : goal.returns-in-Err-clause-read
returns-in-Err-clause-read g c =
    let D = g.D.Devices in
    only_read_by D.tells c.args.dev c.read.result (D.state c.args.devices.now) (D.state c.read.new.self) c.read.ensures.call c.read.ensures.sizes
