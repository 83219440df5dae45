use Rattle.file_devices.proofs.OpenedFiles.{held_first}
use Rattle.file_devices.proofs.devices.FileDevices.of.Goals as goal

pub returns-clause-held : goal.returns-clause-held
returns-clause-held g c = λ told.
    held_first (λ file. (g.F.ImageFile.state file).story) (λ image. (g.F.ImageFile.state image.file).story) c.in_ok-images.images.items c.args.files.items (c.in_ok-images.ensures.held told)
