use Rattle.std.proofs.Common.{◌≡◌, take, All}
use Rattle.dev_model.specs.Disk.{IsDisk, IsCrashImage, as_read}
use Rattle.dev_model.specs.Recording.{devices_left_by}
use Rattle.dev_model.proofs.recording.devices_left.Given as goal

abbrev pub invariant-loop-disk : goal.invariant-loop-disk
invariant-loop-disk l = record {
  exact : l.left.items ≡ devices_left_by l.pick (take l.disk-index l.devices);
  may : IsCrashImage ((take l.disk-index l.devices)) (as_read l.left.items);
  sound : All IsDisk l.left.items;
}
