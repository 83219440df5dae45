use Rattle.std.proofs.Common.{◌≡◌, ◌+◌, ◌<◌, ◌≤◌, inl, inr, ⊎_elim, ℕ, List, Some, true, arith, subst, sym, ◌∙◌}
use Rattle.std.proofs.lemmas.Bool.{cases_lt}
use Rattle.dev_model.specs.Devices.{now}
use Rattle.dev_model.specs.Disk.{Disk, as_read, block_at}
use Rattle.dev_model.specs.FrameLaws.{go_on_then, only_read_then, stay_now}
use Rattle.geometry.specs.Faults.{DeviceFailed}
use Rattle.node_store.specs.Mending.{AreWritten, IsCopyShown, IsToMend, IsWanted, IsWholeOrNone, WritesOnly, is_of_node}
use Rattle.node_store.specs.Writes.{HaveCopies, IsCopyOf}
use Rattle.node_store.proofs.MendedFrames.{failed_earlier, failed_later, rest_then, written_then}
use Rattle.node_store.proofs.MendedKept.{kept_then}
use Rattle.node_store.proofs.MendedNodes.{alike_whole, shown_before, shown_still, stays, wanted_up, whole_alike}
use Rattle.node_store.proofs.MendedSteps.{Lacks, blocks_write}
use Rattle.node_store.proofs.mending.mend_blocks.Goals as goal

pub loop-n-preserved : goal.loop-n-preserved
loop-n-preserved g c =
    let D = g.D.Devices in
    let first = D.state c.args.devices.now in
    let mid = D.state c.loop-n.devices in
    let new = D.state c.mend_block.new.devices in
    let layout = c.args.layout.now in
    let id = layout.id in
    let birth = c.args.birth in
    let places = c.args.places.now in
    let end = c.args.end in
    let n = c.loop-n.n in
    let more : n ≤ n + 1 = omega arith in
    let so_far = c.loop-n.invariant in
    let image = as_read (now first) in
    let here = as_read (now mid) in
    record {
      writes = λ tells. blocks_write id birth places layout n end (n + 1) c.requires (let l : n < n + 1 = omega arith in l) first mid new so_far.goes_on.calls c.mend_block.ensures.goes_on.calls (so_far.written tells) (so_far.writes tells) (c.mend_block.ensures.writes tells);
      kept = λ tells quiet. kept_then id birth places layout end c.requires n (λ d b. IsCopyOf places n d b × Lacks id birth mid new d b) first mid new (λ d b at. at.0) (so_far.written tells) ((so_far.rest tells).quiet quiet) (so_far.kept tells quiet)
          (c.mend_block.ensures.writes tells).crashes (c.mend_block.ensures.kept tells ((so_far.rest tells).quiet quiet));
      idle = λ tells none alike.
          let before = so_far.idle tells (λ failed. none (failed.0, failed_earlier failed.0 first.faults mid.faults new.faults c.mend_block.ensures.goes_on.calls failed.1)) alike in
          only_read_then D.tells first mid new before (c.mend_block.ensures.idle tells (λ failed. none (failed.0, failed_later failed.0 first.faults mid.faults new.faults so_far.goes_on.calls failed.1))
          (subst (λ (ds : List Disk). IsWholeOrNone id birth places n (as_read ds)) (sym (stay_now first mid (before.disks tells))) (alike_whole id birth places image end n c.loop-n-test.true c.requires.within alike)));
      mended = λ tells can m le place there. ⊎_elim
          (λ (earlier : m < n).
          stays id birth (IsCopyShown id birth places n here) here (as_read (now new)) (λ e f x is. is.1.opens) (c.in_ok-mend_block.ensures.written tells) place.dev (place.block + m) (so_far.mended tells can m earlier place there))
          (λ (last : n ≤ m).
          let e : n ≡ m = omega (arith, le, last) in
          let shown = can.shown n c.loop-n-test.true in
          let have : HaveCopies mid.sizes places n = subst (λ (sizes : List ℕ). HaveCopies sizes places n) (sym so_far.goes_on.sizes) (can.inside n c.loop-n-test.true) in
          subst (λ k. is_of_node id birth (block_at (as_read (now new)) place.dev (place.block + k)) ≡ true) e
          (c.in_ok-mend_block.ensures.mended tells have shown.0 (shown_still id birth places layout end c.requires image here n shown.0 (so_far.written tells) shown.1) place there))
          (cases_lt m n);
      written = λ tells. written_then (IsWanted id birth places (n + 1) image) (IsCopyShown id birth places n here) image here (as_read (now new))
          (λ d b x is. record { number = n; below = omega arith; copy = is.0; shown = shown_before id birth places layout end c.requires image here n x (so_far.written tells) is.1 })
          (λ d b. ⊎_elim (λ (same : block_at here d b ≡ block_at image d b). inl same)
          (λ (was : (x : List ℕ) × IsWanted id birth places n image d b x × (block_at here d b ≡ Some x)). inr (was.0, wanted_up id birth places n (n + 1) image more d b was.0 was.1, was.2)) (so_far.written tells d b))
          (c.in_ok-mend_block.ensures.written tells);
      rest = λ tells. rest_then first mid new (so_far.rest tells) (c.in_ok-mend_block.ensures.rest tells);
      goes_on = go_on_then first mid new so_far.goes_on c.mend_block.ensures.goes_on;
      unfailed = c.in_ok-mend_block.ensures.cause ∙ so_far.unfailed;
    }

pub returns-in_err-mend_block-clause-writes : goal.returns-in_err-mend_block-clause-writes
returns-in_err-mend_block-clause-writes g c tells =
    let D = g.D.Devices in
    let so_far = c.loop-n.invariant in
    blocks_write c.args.layout.now.id c.args.birth c.args.places.now c.args.layout.now c.loop-n.n c.args.end c.args.end c.requires c.loop-n-test.true (D.state c.args.devices.now) (D.state c.loop-n.devices) (D.state c.mend_block.new.devices)
    so_far.goes_on.calls c.mend_block.ensures.goes_on.calls (so_far.written tells) (so_far.writes tells) (c.mend_block.ensures.writes tells)

pub returns-in_err-mend_block-clause-kept : goal.returns-in_err-mend_block-clause-kept
returns-in_err-mend_block-clause-kept g c tells quiet =
    let D = g.D.Devices in
    let mid = D.state c.loop-n.devices in
    let new = D.state c.mend_block.new.devices in
    let id = c.args.layout.now.id in
    let places = c.args.places.now in
    let n = c.loop-n.n in
    let so_far = c.loop-n.invariant in
    kept_then id c.args.birth places c.args.layout.now c.args.end c.requires n (λ d b. IsCopyOf places n d b × Lacks id c.args.birth mid new d b) (D.state c.args.devices.now) mid new (λ d b at. at.0) (so_far.written tells)
    ((so_far.rest tells).quiet quiet) (so_far.kept tells quiet) (c.mend_block.ensures.writes tells).crashes (c.mend_block.ensures.kept tells ((so_far.rest tells).quiet quiet))

pub returns-in_err-mend_block-clause-idle : goal.returns-in_err-mend_block-clause-idle
returns-in_err-mend_block-clause-idle g c tells none alike =
    let D = g.D.Devices in
    let first = D.state c.args.devices.now in
    let mid = D.state c.loop-n.devices in
    let new = D.state c.mend_block.new.devices in
    let id = c.args.layout.now.id in
    let birth = c.args.birth in
    let places = c.args.places.now in
    let n = c.loop-n.n in
    let so_far = c.loop-n.invariant in
    let before = so_far.idle tells (λ failed. none (failed.0, failed_earlier failed.0 first.faults mid.faults new.faults c.mend_block.ensures.goes_on.calls failed.1)) alike in
    only_read_then D.tells first mid new before (c.mend_block.ensures.idle tells (λ failed. none (failed.0, failed_later failed.0 first.faults mid.faults new.faults so_far.goes_on.calls failed.1))
    (subst (λ (ds : List Disk). IsWholeOrNone id birth places n (as_read ds)) (sym (stay_now first mid (before.disks tells))) (alike_whole id birth places (as_read (now first)) c.args.end n c.loop-n-test.true c.requires.within alike)))

pub returns-clause-writes : goal.returns-clause-writes
returns-clause-writes g c tells =
    let D = g.D.Devices in
    let first = D.state c.args.devices.now in
    let last = D.state c.loop-n.devices in
    let id = c.args.layout.now.id in
    let image = as_read (now first) in
    let all : c.loop-n.n ≡ c.args.end = (let upto = c.loop-n.auto.n-end in let past = c.loop-n-test.false in omega (arith, upto, past)) in
    subst (λ n. WritesOnly (IsToMend id c.args.birth c.args.places.now n image (λ dev. DeviceFailed dev first.faults last.faults)) (IsWanted id c.args.birth c.args.places.now n image) first last) all (c.loop-n.invariant.writes tells)

pub returns-clause-written : goal.returns-clause-written
returns-clause-written g c tells =
    let D = g.D.Devices in
    let image = as_read (now (D.state c.args.devices.now)) in
    let all : c.loop-n.n ≡ c.args.end = (let upto = c.loop-n.auto.n-end in let past = c.loop-n-test.false in omega (arith, upto, past)) in
    subst (λ n. AreWritten (IsWanted c.args.layout.now.id c.args.birth c.args.places.now n image) image (as_read (now (D.state c.loop-n.devices)))) all (c.loop-n.invariant.written tells)

pub returns-clause-mended : goal.returns-clause-mended
returns-clause-mended g c tells can =
    let D = g.D.Devices in
    let first = D.state c.args.devices.now in
    let last = D.state c.loop-n.devices in
    let all = c.loop-n-test.false in
    whole_alike c.args.layout.now.id c.args.birth c.args.places.now c.args.layout.now c.args.end c.requires (as_read (now first)) (as_read (now last)) c.loop-n.n can.agree (c.loop-n.invariant.written tells)
    (λ n lower place there. c.loop-n.invariant.mended tells can n (omega (arith, lower, all)) place there)
