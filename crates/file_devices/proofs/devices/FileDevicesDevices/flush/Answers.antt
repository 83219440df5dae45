use Rattle.file_devices.proofs.DeviceCalls.{all_ready, device_flush, is_device}
use Rattle.file_devices.proofs.devices.FileDevicesDevices.flush.Goals as goal

pub returns-clause-call : goal.returns-clause-call
returns-clause-call g c = record {
  disks = λ told. device_flush (λ image. (g.F.ImageFile.state image.file).story) c.args.self.now.moment c.flush-outcome.result c.args.self.now.images.items c.args.dev c.index_mut-flushed.result.now c.flush-outcome.new.self c.flush-outcome.new.self.last _ _ _ _
      (all_ready _ (λ image. image.last) c.args.self.now.moment (λ image. (image.ready told).still) c.args.self.now.images.items c.args.self.now.past)
      (is_device (λ image. image.blocks) c.args.self.now.images.items c.args.dev c.requires) c.index_mut-flushed.ensures.value c.flush-outcome.ensures.time.later (c.flush-outcome.ensures.changes told);
  later = c.flush-outcome.ensures.time.later;
  faults = c.count_write.ensures;
  takes_time = c.flush-outcome.ensures.time.rose;
}
