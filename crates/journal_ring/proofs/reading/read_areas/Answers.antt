use Rattle.std.proofs.Common.{◌≡◌, ◌∷◌, [], ◌∙◌, ℕ, List, length, length-append, ap, subst, arith}
use Rattle.std.specs.Prelude.{slice_get}
use Rattle.dev_model.specs.Devices.{now}
use Rattle.dev_model.specs.Disk.{Disk, as_read}
use Rattle.dev_model.specs.FrameLaws.{only_read_then, stay_now}
use Rattle.journal_ring.specs.Parts.{area_of}
use Rattle.journal_ring.proofs.Areas.{area_more}
use Rattle.journal_ring.proofs.reading.read_areas.Goals as goal

pub loop-dev-preserved : goal.loop-dev-preserved
loop-dev-preserved g c =
    let D = g.D.Devices in
    let first = D.state c.args.devices.now in
    let mid = D.state c.loop-dev.devices in
    let new = D.state c.read_area.new.devices in
    let so_far = c.loop-dev.invariant in
    let blocks = c.in_ok-read_area.field-0 in
    let pushed = c.in_ok-push.ensures.ok in
    record {
      areas = λ tells. area_more c.loop-dev.areas c.push.new.self blocks (area_of (as_read (now first))) c.loop-dev.dev c.args.layout.now.journal pushed so_far.count (so_far.areas tells)
          (λ place within. subst (λ (ds : List Disk). slice_get blocks place ≡ area_of (as_read ds) c.loop-dev.dev place) (stay_now first mid (so_far.read.disks tells)) (c.in_ok-read_area.ensures.blocks tells place within));
      count = omega (arith, ap length pushed, length-append c.loop-dev.areas (blocks ∷ []), so_far.count);
      read = only_read_then D.tells first mid new so_far.read c.read_area.ensures.read;
      faults = c.in_ok-read_area.ensures.cause ∙ so_far.faults;
    }
