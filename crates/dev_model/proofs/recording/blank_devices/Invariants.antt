use Rattle.std.proofs.Common.{◌≡◌, map, take, All}
use Rattle.dev_model.specs.Disk.{IsDisk, blank}
use Rattle.dev_model.proofs.recording.blank_devices.Given as goal

abbrev pub invariant-loop-size : goal.invariant-loop-size
invariant-loop-size l = record {
  devices : l.devices.items ≡ map blank (take l.size-index l.sizes);
  sound : All IsDisk l.devices.items;
}
