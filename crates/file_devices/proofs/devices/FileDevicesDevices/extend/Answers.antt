use Rattle.file_devices.proofs.DeviceCalls.{all_ready, device_extension, is_device, none_longer}
use Rattle.file_devices.proofs.devices.FileDevicesDevices.extend.Goals as goal

pub returns-clause-call : goal.returns-clause-call
returns-clause-call g c = record {
  disks = λ told. device_extension (λ image. (g.F.ImageFile.state image.file).story) c.args.self.now.moment c.extend-outcome.result c.args.self.now.images.items c.args.dev c.index_mut-extended.result.now c.extend-outcome.new.self c.extend-outcome.new.self.last _ _ _ _
      (all_ready _ (λ image. image.last) c.args.self.now.moment (λ image. (image.ready told).still) c.args.self.now.images.items c.args.self.now.past)
      (is_device (λ image. image.blocks) c.args.self.now.images.items c.args.dev c.requires.device) c.index_mut-extended.ensures.value c.extend-outcome.ensures.time.later c.args.blocks (c.extend-outcome.ensures.changes told);
  later = c.extend-outcome.ensures.time.later;
  faults = c.count.ensures;
  takes_time = c.extend-outcome.ensures.time.rose;
}

pub returns-clause-grows : goal.returns-clause-grows
returns-clause-grows g c =
    none_longer c.extend-outcome.result (λ image. image.blocks) c.args.self.now.images.items c.args.dev c.args.blocks c.index_mut-extended.result.now c.extend-outcome.new.self c.requires.longer c.index_mut-extended.ensures.value c.extend-outcome.ensures.failed
