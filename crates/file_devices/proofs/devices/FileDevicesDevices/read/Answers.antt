use Rattle.file_devices.proofs.DeviceCalls.{all_ready, device_bytes, device_read, has_block}
use Rattle.file_devices.proofs.devices.FileDevicesDevices.read.Goals as goal

pub returns-clause-call : goal.returns-clause-call
returns-clause-call g c = record {
  disks = λ told. device_read (λ image. (g.F.ImageFile.state image.file).story) c.args.self.now.moment c.read-result.result c.args.self.now.images.items c.args.dev c.index_mut-image.result.now c.read-result.new.self c.read-result.new.self.last _ _ _ _
      (all_ready _ (λ image. image.last) c.args.self.now.moment (λ image. (image.ready told).still) c.args.self.now.images.items c.args.self.now.past)
      (has_block (λ image. image.blocks) c.args.self.now.images.items c.args.dev c.args.block c.requires.place) c.index_mut-image.ensures.value c.read-result.ensures.time.later (c.read-result.ensures.changes told);
  later = c.read-result.ensures.time.later;
  faults = c.count.ensures;
  takes_time = c.read-result.ensures.time.rose;
}

pub returns-clause-bytes : goal.returns-clause-bytes
returns-clause-bytes g c = λ told.
    device_bytes (λ image. (g.F.ImageFile.state image.file).story) c.args.self.now.moment c.read-result.result c.args.self.now.images.items c.args.dev c.args.block c.index_mut-image.result.now c.read-result.new.into (has_block (λ image. image.blocks) c.args.self.now.images.items c.args.dev c.args.block c.requires.place) c.index_mut-image.ensures.value (c.read-result.ensures.bytes told)
