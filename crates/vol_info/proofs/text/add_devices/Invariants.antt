use Rattle.std.proofs.Common.{◌≡◌, ◌++◌, drop}
use Rattle.std.specs.List.{flat_map}
use Rattle.vol_info.specs.Lines.{device_line}
use Rattle.vol_info.proofs.text.add_devices.Given as goal

abbrev pub invariant-loop-device : goal.invariant-loop-device
invariant-loop-device l = l.text ++ flat_map device_line (drop l.device-index l.devices) ≡ l.fn.text ++ flat_map device_line l.devices
