-- A read that fails is a read.
use Rattle.dev_model.specs.FrameLaws.{only_read_by}
use Rattle.bvol.proofs.overwriting.volume_in.Goals as goal

pub returns-then-is_err : goal.returns-then-is_err
returns-then-is_err g c =
    let D = g.D.Devices in
    only_read_by D.tells c.args.dev c.read.result (D.state c.args.devices.now) (D.state c.read.new.self) c.read.ensures.call c.read.ensures.sizes
