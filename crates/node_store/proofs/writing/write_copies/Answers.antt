use Rattle.std.proofs.Common.{◌≡◌, ◌<◌, ◌+◌, ◌∙◌, List, ℕ, get_or, arith, refl, subst, sym}
use Rattle.std.proofs.lemmas.List.{get_or_default}
use Rattle.vol_types.specs.declared.pointers.Place.{Place}
use Rattle.dev_model.specs.Disk.{sizes_of, changed, written}
use Rattle.dev_model.specs.Devices.{now, Is, IsPlace, MayBeWritten}
use Rattle.dev_model.specs.CrashLaws.{goes_on_write, started, left_itself}
use Rattle.dev_model.specs.Crashes.{IsCrashImageBut}
use Rattle.dev_model.specs.FrameLaws.{go_on_here, go_on_by_write, go_on_then}
use Rattle.dev_model.specs.HeldLaws.{hold_here, hold_by_write}
use Rattle.node_store.specs.Writes.{HasLengthsOf, IsCopyBlock, IsCopyOf}
use Rattle.node_store.proofs.WrittenLengths.{lengths_go_on}
use Rattle.dev_model.specs.WriteLaws.{elsewhere_more}
use Rattle.node_store.proofs.WrittenCopies.{written_more}
use Rattle.node_store.proofs.writing.write_copies.Goals as goal

pub loop-place-init : goal.loop-place-init
loop-place-init g c =
    let touched = IsCopyOf c.args.places.now c.args.n in
    let state = g.D.Devices.state c.args.devices.now in
    record {
      crashes = λ tells. started (λ _ _ image. IsCrashImageBut touched (now state) image) state (left_itself touched (now state));
      written = λ tells k d le there. absurd (omega (arith, le));
      elsewhere = λ tells dev b away. refl;
      asks = λ tells opens. hold_here opens (IsCopyBlock c.args.places.now c.args.n c.args.bytes.now) state;
      lengths = λ tells. started (λ _ _ image. HasLengthsOf (now state) image) state (λ image may. (image, may, refl));
      goes_on = go_on_here state;
      faults = refl;
      time = λ some. absurd (omega (arith, some));
    }

pub write_copy-requires-clause-place : goal.write_copy-requires-clause-place
write_copy-requires-clause-place g c =
    let places = c.args.places.now in
    let i = c.loop-place.place-index in
    let place : Place = get_or places i (record { dev = 0; block = 0 }) in
    let at : get_or places i place ≡ place = get_or_default places i place (record { dev = 0; block = 0 }) c.loop-place-test.true in
    subst (λ (sizes : List ℕ). IsPlace sizes place.dev (place.block + c.args.n)) (sym c.loop-place.invariant.goes_on.sizes) (c.requires.places place (i, c.loop-place-test.true, at))

pub loop-place-preserved : goal.loop-place-preserved
loop-place-preserved g c =
    let D = g.D.Devices in
    let old = D.state c.args.devices.now in
    let mid = D.state c.loop-place.devices in
    let new = D.state c.write_copy.new.devices in
    let places = c.args.places.now in
    let i = c.loop-place.place-index in
    let place : Place = get_or places i (record { dev = 0; block = 0 }) in
    let at : get_or places i place ≡ place = get_or_default places i place (record { dev = 0; block = 0 }) c.loop-place-test.true in
    let block = place.block + c.args.n in
    let bytes = c.args.bytes.now in
    let result = c.write_copy.result in
    let so_far = c.loop-place.invariant in
    let call = c.write_copy.ensures.call in
    let hit : IsCopyOf places c.args.n place.dev block = (place, (i, c.loop-place-test.true, at), refl, refl) in
    let there : IsPlace old.sizes place.dev block = c.requires.places place (i, c.loop-place-test.true, at) in
    record {
      crashes = λ tells. goes_on_write (IsCopyOf places c.args.n) (now old) old mid (so_far.crashes tells) (g.met.D.Devices.sound tells c.loop-place.devices) result place.dev block bytes new hit (call.disks tells);
      written = λ tells.
          let now_there : block < get_or mid.sizes place.dev 0 = subst (λ (sizes : List ℕ). block < get_or sizes place.dev 0) (sym so_far.goes_on.sizes) there in
          let within : block < get_or (sizes_of (now mid)) place.dev 0 = subst (λ (sizes : List ℕ). block < get_or sizes place.dev 0) (g.met.D.Devices.agree tells c.loop-place.devices) now_there in
          written_more (now mid) (now new) places i c.args.n place bytes at within (c.in_ok-write_copy.ensures.call.disks tells).after (so_far.written tells);
      elsewhere = λ tells. elsewhere_more result (IsCopyOf places c.args.n) place.dev block bytes old mid new hit (so_far.elsewhere tells) (call.disks tells);
      lengths = λ tells. lengths_go_on (now old) old mid (so_far.lengths tells) (g.met.D.Devices.sound tells c.loop-place.devices) result place.dev block bytes new (call.disks tells);
      asks = λ tells opens. hold_by_write opens (IsCopyBlock places c.args.n bytes) old mid so_far.goes_on.later (so_far.asks tells opens) result place.dev block bytes new (hit, refl) (call.disks tells);
      goes_on = go_on_then old mid new so_far.goes_on (go_on_by_write D.tells place.dev result (MayBeWritten place.dev block bytes (now mid)) (Is (changed place.dev (written block bytes) (now mid))) mid new call c.write_copy.ensures.sizes);
      faults = c.in_ok-write_copy.ensures.call.faults ∙ so_far.faults;
      time = λ some. let rose = c.in_ok-write_copy.ensures.call.takes_time in let later = so_far.goes_on.later in omega (arith, rose, later);
    }

pub returns-in_err-write_copy-clause-crashes : goal.returns-in_err-write_copy-clause-crashes
returns-in_err-write_copy-clause-crashes g c tells =
    let D = g.D.Devices in
    let old = D.state c.args.devices.now in
    let mid = D.state c.loop-place.devices in
    let new = D.state c.write_copy.new.devices in
    let places = c.args.places.now in
    let i = c.loop-place.place-index in
    let place : Place = get_or places i (record { dev = 0; block = 0 }) in
    let at : get_or places i place ≡ place = get_or_default places i place (record { dev = 0; block = 0 }) c.loop-place-test.true in
    let block = place.block + c.args.n in
    let bytes = c.args.bytes.now in
    let result = c.write_copy.result in
    let so_far = c.loop-place.invariant in
    let call = c.write_copy.ensures.call in
    let hit : IsCopyOf places c.args.n place.dev block = (place, (i, c.loop-place-test.true, at), refl, refl) in
    goes_on_write (IsCopyOf places c.args.n) (now old) old mid (so_far.crashes tells) (g.met.D.Devices.sound tells c.loop-place.devices) result place.dev block bytes new hit (call.disks tells)

pub returns-in_err-write_copy-clause-elsewhere : goal.returns-in_err-write_copy-clause-elsewhere
returns-in_err-write_copy-clause-elsewhere g c tells =
    let D = g.D.Devices in
    let old = D.state c.args.devices.now in
    let mid = D.state c.loop-place.devices in
    let new = D.state c.write_copy.new.devices in
    let places = c.args.places.now in
    let i = c.loop-place.place-index in
    let place : Place = get_or places i (record { dev = 0; block = 0 }) in
    let at : get_or places i place ≡ place = get_or_default places i place (record { dev = 0; block = 0 }) c.loop-place-test.true in
    let block = place.block + c.args.n in
    let bytes = c.args.bytes.now in
    let result = c.write_copy.result in
    let so_far = c.loop-place.invariant in
    let call = c.write_copy.ensures.call in
    let hit : IsCopyOf places c.args.n place.dev block = (place, (i, c.loop-place-test.true, at), refl, refl) in
    elsewhere_more result (IsCopyOf places c.args.n) place.dev block bytes old mid new hit (so_far.elsewhere tells) (call.disks tells)

pub returns-in_err-write_copy-clause-asks : goal.returns-in_err-write_copy-clause-asks
returns-in_err-write_copy-clause-asks g c tells opens =
    let D = g.D.Devices in
    let old = D.state c.args.devices.now in
    let mid = D.state c.loop-place.devices in
    let new = D.state c.write_copy.new.devices in
    let places = c.args.places.now in
    let i = c.loop-place.place-index in
    let place : Place = get_or places i (record { dev = 0; block = 0 }) in
    let at : get_or places i place ≡ place = get_or_default places i place (record { dev = 0; block = 0 }) c.loop-place-test.true in
    let block = place.block + c.args.n in
    let bytes = c.args.bytes.now in
    let result = c.write_copy.result in
    let so_far = c.loop-place.invariant in
    let call = c.write_copy.ensures.call in
    let hit : IsCopyOf places c.args.n place.dev block = (place, (i, c.loop-place-test.true, at), refl, refl) in
    hold_by_write opens (IsCopyBlock places c.args.n bytes) old mid so_far.goes_on.later (so_far.asks tells opens) result place.dev block bytes new (hit, refl) (call.disks tells)

pub returns-in_err-write_copy-clause-goes_on : goal.returns-in_err-write_copy-clause-goes_on
returns-in_err-write_copy-clause-goes_on g c =
    let D = g.D.Devices in
    let old = D.state c.args.devices.now in
    let mid = D.state c.loop-place.devices in
    let new = D.state c.write_copy.new.devices in
    let places = c.args.places.now in
    let i = c.loop-place.place-index in
    let place : Place = get_or places i (record { dev = 0; block = 0 }) in
    let at : get_or places i place ≡ place = get_or_default places i place (record { dev = 0; block = 0 }) c.loop-place-test.true in
    let block = place.block + c.args.n in
    let bytes = c.args.bytes.now in
    let result = c.write_copy.result in
    let so_far = c.loop-place.invariant in
    let call = c.write_copy.ensures.call in
    let hit : IsCopyOf places c.args.n place.dev block = (place, (i, c.loop-place-test.true, at), refl, refl) in
    go_on_then old mid new so_far.goes_on (go_on_by_write D.tells place.dev result (MayBeWritten place.dev block bytes (now mid)) (Is (changed place.dev (written block bytes) (now mid))) mid new call c.write_copy.ensures.sizes)

pub returns-in_err-write_copy-clause-lengths : goal.returns-in_err-write_copy-clause-lengths
returns-in_err-write_copy-clause-lengths g c tells =
    let D = g.D.Devices in
    let old = D.state c.args.devices.now in
    let mid = D.state c.loop-place.devices in
    let new = D.state c.write_copy.new.devices in
    let place : Place = get_or c.args.places.now c.loop-place.place-index (record { dev = 0; block = 0 }) in
    (lengths_go_on (now old) old mid (c.loop-place.invariant.lengths tells) (g.met.D.Devices.sound tells c.loop-place.devices) c.write_copy.result place.dev (place.block + c.args.n) c.args.bytes.now new (c.write_copy.ensures.call.disks tells)).each
