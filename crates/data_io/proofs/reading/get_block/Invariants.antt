use Rattle.std.proofs.Common.{◌≡◌, length, take}
use Rattle.dev_model.specs.Frames.{AreOnlyRead}
use Rattle.data_io.specs.Answers.{ArePassed}
use Rattle.data_io.specs.Reads.{places_of}
use Rattle.data_io.proofs.reading.get_block.Given as goal

abbrev pub invariant-loop-pointer : goal.invariant-loop-pointer
invariant-loop-pointer g l =
    let D = g.D.Devices in
    let first = D.state l.fn.devices in
    record {
      passed : ArePassed D.tells first (D.state l.devices) l.fn.want (take l.pointer-index (places_of l.fn.places)) l.got;
      read : AreOnlyRead D.tells first (D.state l.devices);
      size : length l.into ≡ 4096;
    }
