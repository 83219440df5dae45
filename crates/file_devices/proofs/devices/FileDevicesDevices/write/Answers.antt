use Rattle.file_devices.proofs.DeviceCalls.{all_ready, device_write, has_block}
use Rattle.file_devices.proofs.devices.FileDevicesDevices.write.Goals as goal

pub returns-clause-call : goal.returns-clause-call
returns-clause-call g c = record {
  disks = λ told. device_write (λ image. (g.F.ImageFile.state image.file).story) c.args.self.now.moment c.write-result.result c.args.self.now.images.items c.args.dev c.index_mut-written.result.now c.write-result.new.self c.write-result.new.self.last _ _ _ _
      (all_ready _ (λ image. image.last) c.args.self.now.moment (λ image. (image.ready told).still) c.args.self.now.images.items c.args.self.now.past)
      (has_block (λ image. image.blocks) c.args.self.now.images.items c.args.dev c.args.block c.requires.place) c.index_mut-written.ensures.value c.write-result.ensures.time.later c.args.block c.args.from.now (c.write-result.ensures.changes told);
  later = c.write-result.ensures.time.later;
  faults = c.count_write.ensures;
  takes_time = c.write-result.ensures.time.rose;
}
