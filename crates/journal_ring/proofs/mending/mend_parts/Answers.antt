use Rattle.std.proofs.Common.{◌≡◌, ◌+◌, ◌<◌, ◌≤◌, ◌∙◌, ⊎_elim, List, [], Ok, Some, ℕ, ap, arith, get_or, length, subst, sym}
use Rattle.std.proofs.lemmas.Bool.{cases_lt}
use Rattle.dev_model.specs.Devices.{now}
use Rattle.dev_model.specs.Disk.{as_read, block_at}
use Rattle.dev_model.specs.FrameLaws.{go_on_then, only_read_then}
use Rattle.geometry.specs.LayoutFacts.{has_places, journal_place}
use Rattle.geometry.specs.Mirrors.{IsMirrorBlock}
use Rattle.journal_ring.specs.EntryBlocks.{ring_block}
use Rattle.journal_ring.specs.Mending.{IsEntryBlock, IsLacking}
use Rattle.journal_ring.proofs.Frames.{mends_then}
use Rattle.journal_ring.proofs.Places.{one_block_each, one_part, parts_apart}
use Rattle.journal_ring.proofs.mending.mend_parts.Goals as goal

pub ring_block-place-requires-clause-some : goal.ring_block-place-requires-clause-some
ring_block-place-requires-clause-some g c =
    let least = (has_places (g.D.Devices.state c.args.devices.now).sizes c.args.layout.now c.requires.layout).least in omega (arith, least)

pub ring_block-place-requires-clause-most : goal.ring_block-place-requires-clause-most
ring_block-place-requires-clause-most g c = (has_places (g.D.Devices.state c.args.devices.now).sizes c.args.layout.now c.requires.layout).journal

pub mend_mirrors-requires-clause-mirrors : goal.mend_mirrors-requires-clause-mirrors
mend_mirrors-requires-clause-mirrors g c =
    let mirrors = (has_places (g.D.Devices.state c.args.devices.now).sizes c.args.layout.now c.requires.layout).mirrors in
    omega (arith, mirrors, ap length c.loop-p.invariant.goes_on.sizes)

pub mend_mirrors-requires-clause-places : goal.mend_mirrors-requires-clause-places
mend_mirrors-requires-clause-places g c dev mirror =
    let sizes = (g.D.Devices.state c.args.devices.now).sizes in
    let least = (has_places sizes c.args.layout.now c.requires.layout).least in
    subst (λ (s : List ℕ). c.ring_block-place.result < get_or s dev 0) (sym c.loop-p.invariant.goes_on.sizes)
    (subst (λ n. n < get_or sizes dev 0) (sym c.ring_block-place.ensures.place) (journal_place sizes c.args.layout.now dev _ c.requires.layout mirror (omega (arith, least))))

pub returns-in_err-mended-clause-mends : goal.returns-in_err-mended-clause-mends
returns-in_err-mended-clause-mends g c tells =
    let D = g.D.Devices in
    let layout = c.args.layout.now in
    let least = (has_places (D.state c.args.devices.now).sizes layout c.requires.layout).least in
    let within = c.loop-p-test.true in
    mends_then (IsEntryBlock layout.metadata_replicas layout.journal c.args.number c.args.blocks.now) (IsMirrorBlock layout.metadata_replicas c.ring_block-place.result (get_or c.args.blocks.now c.loop-p.p []))
    (one_block_each layout.metadata_replicas layout.journal c.args.number c.args.blocks.now least c.requires.few)
    (one_part layout.metadata_replicas layout.journal c.args.number c.ring_block-place.result c.loop-p.p c.args.blocks.now within c.ring_block-place.ensures.place)
    (D.state c.args.devices.now) (D.state c.loop-p.devices) (D.state c.mend_mirrors.new.devices) c.loop-p.invariant.goes_on.later (c.loop-p.invariant.mends tells) (c.mend_mirrors.ensures.mends tells)

pub loop-p-preserved : goal.loop-p-preserved
loop-p-preserved g c =
    let D = g.D.Devices in
    let first = D.state c.args.devices.now in
    let mid = D.state c.loop-p.devices in
    let new = D.state c.mend_mirrors.new.devices in
    let so_far = c.loop-p.invariant in
    let layout = c.args.layout.now in
    let blocks = c.args.blocks.now in
    let least = (has_places first.sizes layout c.requires.layout).least in
    let within = c.loop-p-test.true in
    let place = c.ring_block-place.ensures.place in
    let few = c.requires.few in
    record {
      mends = λ tells. mends_then (IsEntryBlock layout.metadata_replicas layout.journal c.args.number blocks) (IsMirrorBlock layout.metadata_replicas c.ring_block-place.result (get_or blocks c.loop-p.p []))
          (one_block_each layout.metadata_replicas layout.journal c.args.number blocks least few)
          (one_part layout.metadata_replicas layout.journal c.args.number c.ring_block-place.result c.loop-p.p blocks within place)
          first mid new so_far.goes_on.later (so_far.mends tells) (c.mend_mirrors.ensures.mends tells);
      held = λ tells dev p mirror lower. ⊎_elim
          (λ (earlier : p < c.loop-p.p).
          let away : ¬ IsLacking (IsMirrorBlock layout.metadata_replicas c.ring_block-place.result (get_or blocks c.loop-p.p [])) (as_read (now mid)) dev (ring_block layout.journal (c.args.number + p)) =
          λ lacking.
          let same : p ≡ c.loop-p.p = parts_apart layout.journal c.args.number p c.loop-p.p least (omega (arith, within, few, earlier)) (omega (arith, within, few)) (lacking.1.0.1 ∙ place) in
          omega (arith, same, earlier) in
          sym ((c.mend_mirrors.ensures.mends tells).elsewhere dev (ring_block layout.journal (c.args.number + p)) away) ∙ so_far.held tells dev p mirror earlier)
          (λ (last : c.loop-p.p ≤ p).
          let same : c.loop-p.p ≡ p = omega (arith, last, lower) in
          subst (λ n. block_at (as_read (now new)) dev (ring_block layout.journal (c.args.number + n)) ≡ Some (get_or blocks n [])) same
          (subst (λ b. block_at (as_read (now new)) dev b ≡ Some (get_or blocks c.loop-p.p [])) place (c.in_ok-mended.ensures.held tells dev mirror)))
          (cases_lt p c.loop-p.p);
      idle = λ none.
          let both = c.either-has_written.ensures none in
          only_read_then D.tells first mid new (so_far.idle both.0) (c.in_ok-mended.ensures.idle (ap Ok both.1));
      goes_on = go_on_then first mid new so_far.goes_on c.mend_mirrors.ensures.goes_on;
      faults = c.in_ok-mended.ensures.cause ∙ so_far.faults;
    }
