use Rattle.std.proofs.Common.{◌≡◌, ◌+◌, ◌∷◌, [], ◌∙◌, ℕ, List, Some, length, length-append, ap, sym, subst, arith}
use Rattle.dev_model.specs.Devices.{IsPlace, now}
use Rattle.dev_model.specs.Disk.{Disk, as_read, block_at}
use Rattle.dev_model.specs.FrameLaws.{only_read_then, stay_now}
use Rattle.geometry.specs.LayoutFacts.{has_places, journal_place}
use Rattle.journal_ring.specs.Parts.{area_of}
use Rattle.journal_ring.proofs.Areas.{block_more}
use Rattle.journal_ring.proofs.reading.read_area.Goals as goal

pub overflow_add-place : goal.overflow_add-place
overflow_add-place g c = omega (arith, (has_places (g.D.Devices.state c.args.devices.now).sizes c.args.layout.now c.requires.layout).journal, c.loop-place-test.true)

pub read_block-requires : goal.read_block-requires
read_block-requires g c =
    let sizes = (g.D.Devices.state c.args.devices.now).sizes in
    subst (λ (s : List ℕ). IsPlace s c.args.dev (16 + c.loop-place.place)) (sym c.loop-place.invariant.read.sizes) (journal_place sizes c.args.layout.now c.args.dev c.loop-place.place c.requires.layout c.requires.mirror c.loop-place-test.true)

pub loop-place-preserved : goal.loop-place-preserved
loop-place-preserved g c =
    let D = g.D.Devices in
    let first = D.state c.args.devices.now in
    let mid = D.state c.loop-place.devices in
    let new = D.state c.read_block.new.devices in
    let so_far = c.loop-place.invariant in
    let pushed = c.in_ok-push.ensures.ok in
    record {
      blocks = λ tells.
          let here : block_at (as_read (now first)) c.args.dev (16 + c.loop-place.place) ≡ Some c.in_ok-read_block.field-0 = subst (λ (ds : List Disk). block_at (as_read ds) c.args.dev (16 + c.loop-place.place) ≡ Some c.in_ok-read_block.field-0) (stay_now first mid (so_far.read.disks tells)) (c.in_ok-read_block.ensures.bytes tells) in
          block_more c.loop-place.blocks c.push.new.self c.in_ok-read_block.field-0 (area_of (as_read (now first)) c.args.dev) c.loop-place.place pushed so_far.count (so_far.blocks tells) here;
      count = omega (arith, ap length pushed, length-append c.loop-place.blocks (c.in_ok-read_block.field-0 ∷ []), so_far.count);
      read = only_read_then D.tells first mid new so_far.read c.read_block.ensures.read;
      faults = c.in_ok-read_block.ensures.cause ∙ so_far.faults;
    }
