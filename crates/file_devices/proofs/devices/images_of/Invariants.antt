use Rattle.std.specs.Vec.Iter.{into_iter_items}
use Rattle.file_devices.specs.Opening.{IsOpening}
use Rattle.file_devices.proofs.devices.images_of.Given as goal

-- images were made of the files so far
abbrev pub invariant-loop-file : goal.invariant-loop-file
invariant-loop-file g l = IsOpening g.F.ImageFile.tells (λ file. (g.F.ImageFile.state file).story) (λ image. (g.F.ImageFile.state image.file).story) (λ image. image.last) l.fn.files.items l.images.items (into_iter_items l.file-iterator)
