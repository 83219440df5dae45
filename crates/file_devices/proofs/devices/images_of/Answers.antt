use Rattle.std.proofs.Common.{◌≡◌, ℕ, ◌∙◌, Err, ap, map, sym, subst}
use Rattle.std.specs.Vec.Iter.{into_iter_items}
use Rattle.file_devices.specs.Opening.{IsInUse, IsOpening}
use Rattle.file_devices.specs.declared.trouble.Trouble.{Trouble}
use Rattle.file_devices.specs.declared.trouble.Trouble.TheVariants.{InUse}
use Rattle.file_devices.proofs.OpenedFiles.{opening_more, opening_stops}
use Rattle.file_devices.proofs.devices.images_of.Goals as goal

pub loop-file-preserved : goal.loop-file-preserved
loop-file-preserved g c =
    subst (λ items. IsOpening g.F.ImageFile.tells (λ file. (g.F.ImageFile.state file).story) (λ image. (g.F.ImageFile.state image.file).story) (λ image. image.last) c.args.files.items items (into_iter_items c.next.new.self)) (sym c.in_ok-push-in-Ok.ensures.items)
    (opening_more g.F.ImageFile.tells (λ file. (g.F.ImageFile.state file).story) (λ image. (g.F.ImageFile.state image.file).story) (λ image. image.last) c.args.files.items c.loop-file.images.items (into_iter_items c.loop-file.file-iterator) c.in-Some.file (into_iter_items c.next.new.self) c.in-Ok.image
    c.loop-file.invariant c.in-Some.ensures.steps.0 c.in-Ok.ensures.last c.in-Ok.ensures.held)

pub returns-in-Err-clause-in_use : goal.returns-in-Err-clause-in_use
returns-in-Err-clause-in_use g c = λ dev same.
    let here : c.len.result ≡ dev = cc in
    let in_use : c.in-Err.trouble ≡ InUse = cc in
    subst (λ (n : ℕ). IsInUse g.F.ImageFile.tells (map g.F.ImageFile.state c.args.files.items) n) (sym c.loop-file.images.ok.0 ∙ sym c.len.ensures ∙ here)
    (opening_stops g.F.ImageFile.tells (λ file. (g.F.ImageFile.state file).story) (λ image. (g.F.ImageFile.state image.file).story) (λ image. image.last) c.args.files.items g.F.ImageFile.state c.loop-file.images.items (into_iter_items c.loop-file.file-iterator) c.in-Some.file (into_iter_items c.next.new.self)
    c.loop-file.invariant c.in-Some.ensures.steps.0 (λ told. c.in-Err.ensures.in_use told (ap (λ (trouble : Trouble). Err trouble) in_use)))
