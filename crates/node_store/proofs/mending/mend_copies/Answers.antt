use Rattle.std.proofs.Common.{◌≡◌, ◌+◌, ◌<◌, ◌≤◌, ⊎_elim, ℕ, List, Some, true, get_or, arith, ap, subst, sym, ◌∙◌}
use Rattle.std.specs.Prelude.{Contains}
use Rattle.std.proofs.lemmas.Bool.{cases_lt}
use Rattle.std.proofs.lemmas.List.{get_or_default}
use Rattle.dev_model.specs.Crashes.{IsAt}
use Rattle.dev_model.specs.Devices.{IsPlace, now}
use Rattle.dev_model.specs.Disk.{Disk, as_read, block_at}
use Rattle.dev_model.specs.FrameLaws.{go_on_then, only_read_then, stay_now}
use Rattle.vol_types.specs.declared.pointers.Place.{Place}
use Rattle.node_store.specs.Mending.{is_of_node}
use Rattle.node_store.specs.Writes.{IsCopyBlock}
use Rattle.node_store.proofs.MendedFrames.{failed_earlier, failed_later, rest_then, written_then}
use Rattle.node_store.proofs.MendedNodes.{stays}
use Rattle.node_store.proofs.MendedSteps.{copies_writes}
use Rattle.node_store.proofs.mending.mend_copies.Goals as goal

pub loop-place-preserved : goal.loop-place-preserved
loop-place-preserved g c =
    let D = g.D.Devices in
    let first = D.state c.args.devices.now in
    let mid = D.state c.loop-place.devices in
    let new = D.state c.mend_copy.new.devices in
    let id = c.args.layout.now.id in
    let birth = c.args.birth in
    let places = c.args.places.now in
    let n = c.args.n in
    let shown = c.args.shown.now in
    let i = c.loop-place.place-index in
    let place : Place = get_or places i (record { dev = 0; block = 0 }) in
    let at : get_or places i place ≡ place = get_or_default places i place (record { dev = 0; block = 0 }) c.loop-place-test.true in
    let one : Contains places place = (i, c.loop-place-test.true, at) in
    let so_far = c.loop-place.invariant in
    let this : ℕ → ℕ → List ℕ → Type 0 = λ d b x. IsAt place.dev (place.block + n) d b × (x ≡ shown.bytes) in
    let opens : (x : List ℕ) → x ≡ shown.bytes → is_of_node id birth (Some x) ≡ true = λ x is. ap (λ (y : List ℕ). is_of_node id birth (Some y)) is ∙ c.requires.opens in
    record {
      writes = λ tells. copies_writes id birth places n shown.dev shown.bytes first mid new place one c.requires.opens so_far.goes_on.calls c.mend_copy.ensures.goes_on.calls (so_far.written tells) (so_far.writes tells) (c.mend_copy.ensures.writes tells);
      idle = λ tells none whole.
          let before = so_far.idle tells (λ failed. none (failed.0, failed_earlier failed.0 first.faults mid.faults new.faults c.mend_copy.ensures.goes_on.calls failed.1)) whole in
          only_read_then D.tells first mid new before (c.mend_copy.ensures.idle tells (λ failed. none (failed.0, failed_later failed.0 first.faults mid.faults new.faults so_far.goes_on.calls failed.1))
          (subst (λ (ds : List Disk). is_of_node id birth (block_at (as_read ds) place.dev (place.block + n)) ≡ true) (sym (stay_now first mid (before.disks tells))) (whole place one)));
      mended = λ tells have source k d le there.
          let last_written = c.in_ok-mend_copy.ensures.written tells in
          let here : is_of_node id birth (block_at (as_read (now new)) place.dev (place.block + n)) ≡ true =
          c.in_ok-mend_copy.ensures.mended tells (subst (λ (sizes : List ℕ). IsPlace sizes place.dev (place.block + n)) (sym so_far.goes_on.sizes) (have place one))
          (λ from. stays id birth (IsCopyBlock places n shown.bytes) (as_read (now first)) (as_read (now mid)) (λ e f x is. opens x is.1) (so_far.written tells) place.dev (place.block + n) (source place one from)) in
          ⊎_elim
          (λ (earlier : k < i).
          stays id birth this (as_read (now mid)) (as_read (now new)) (λ e f x is. opens x is.1) last_written (get_or places k d).dev ((get_or places k d).block + n) (so_far.mended tells have source k d earlier there))
          (λ (last : i ≤ k).
          let e : i ≡ k = omega (arith, le, last) in
          let same : place ≡ get_or places k d = sym at ∙ ap (λ j. get_or places j place) e ∙ get_or_default places k place d there in
          subst (λ (p : Place). is_of_node id birth (block_at (as_read (now new)) p.dev (p.block + n)) ≡ true) same here)
          (cases_lt k i);
      written = λ tells. written_then (IsCopyBlock places n shown.bytes) this (as_read (now first)) (as_read (now mid)) (as_read (now new)) (λ d b x is. ((place, one, is.0.0, is.0.1), is.1)) (so_far.written tells) (c.in_ok-mend_copy.ensures.written tells);
      rest = λ tells. rest_then first mid new (so_far.rest tells) (c.in_ok-mend_copy.ensures.rest tells);
      goes_on = go_on_then first mid new so_far.goes_on c.mend_copy.ensures.goes_on;
      unfailed = c.in_ok-mend_copy.ensures.cause ∙ so_far.unfailed;
    }

pub returns-in_err-mend_copy-clause-writes : goal.returns-in_err-mend_copy-clause-writes
returns-in_err-mend_copy-clause-writes g c tells =
    let D = g.D.Devices in
    let places = c.args.places.now in
    let shown = c.args.shown.now in
    let i = c.loop-place.place-index in
    let place : Place = get_or places i (record { dev = 0; block = 0 }) in
    let one : Contains places place = (i, c.loop-place-test.true, get_or_default places i place (record { dev = 0; block = 0 }) c.loop-place-test.true) in
    let so_far = c.loop-place.invariant in
    copies_writes c.args.layout.now.id c.args.birth places c.args.n shown.dev shown.bytes (D.state c.args.devices.now) (D.state c.loop-place.devices) (D.state c.mend_copy.new.devices) place one c.requires.opens
    so_far.goes_on.calls c.mend_copy.ensures.goes_on.calls (so_far.written tells) (so_far.writes tells) (c.mend_copy.ensures.writes tells)

pub returns-in_err-mend_copy-clause-idle : goal.returns-in_err-mend_copy-clause-idle
returns-in_err-mend_copy-clause-idle g c tells none whole =
    let D = g.D.Devices in
    let first = D.state c.args.devices.now in
    let mid = D.state c.loop-place.devices in
    let new = D.state c.mend_copy.new.devices in
    let id = c.args.layout.now.id in
    let places = c.args.places.now in
    let i = c.loop-place.place-index in
    let place : Place = get_or places i (record { dev = 0; block = 0 }) in
    let at : get_or places i place ≡ place = get_or_default places i place (record { dev = 0; block = 0 }) c.loop-place-test.true in
    let so_far = c.loop-place.invariant in
    let before = so_far.idle tells (λ failed. none (failed.0, failed_earlier failed.0 first.faults mid.faults new.faults c.mend_copy.ensures.goes_on.calls failed.1)) whole in
    only_read_then D.tells first mid new before (c.mend_copy.ensures.idle tells (λ failed. none (failed.0, failed_later failed.0 first.faults mid.faults new.faults so_far.goes_on.calls failed.1))
    (subst (λ (ds : List Disk). is_of_node id c.args.birth (block_at (as_read ds) place.dev (place.block + c.args.n)) ≡ true) (sym (stay_now first mid (before.disks tells))) (whole place (i, c.loop-place-test.true, at))))
