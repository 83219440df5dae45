use Rattle.std.proofs.Common.{◌≡◌, ◌<◌, ◌∙◌, List, ℕ, length, get_or, arith, refl, subst, sym}
use Rattle.vol_types.specs.declared.pointers.Pointer.{Pointer}
use Rattle.dev_model.specs.Disk.{sizes_of, changed, written}
use Rattle.dev_model.specs.Devices.{now, Is, IsPlace, MayBeWritten}
use Rattle.dev_model.specs.CrashLaws.{goes_on_write, started, left_itself}
use Rattle.dev_model.specs.Crashes.{IsCrashImageBut}
use Rattle.dev_model.specs.FrameLaws.{go_on_here, go_on_by_write, go_on_then}
use Rattle.dev_model.specs.HeldLaws.{hold_here, hold_by_write}
use Rattle.data_io.specs.Reads.{places_of}
use Rattle.data_io.specs.Writes.{IsBlockAt, IsOneOf}
use Rattle.dev_model.specs.WriteLaws.{elsewhere_more}
use Rattle.data_io.proofs.WrittenPlaces.{is_there, is_within, the_place, written_more}
use Rattle.data_io.proofs.writing.put_block.Goals as goal

-- It is one of the places.
is_one : (pointers slice : List Pointer) → slice ≡ pointers → (i : ℕ) → i < length slice → IsOneOf (places_of pointers) (the_place slice i).dev (the_place slice i).block
is_one pointers slice same i within = (i, is_within pointers slice same i within, is_there pointers slice same i within)

pub loop-pointer-init : goal.loop-pointer-init
loop-pointer-init g c =
    let places = places_of c.args.places.now in
    let state = g.D.Devices.state c.args.devices.now in
    record {
      crashes = λ tells. started (λ _ _ image. IsCrashImageBut (IsOneOf places) (now state) image) state (left_itself (IsOneOf places) (now state));
      written = λ tells k d le there. absurd (omega (arith, le));
      elsewhere = λ tells dev b away. refl;
      asks = λ tells opens. hold_here opens (IsBlockAt places c.args.from.now) state;
      goes_on = go_on_here state;
      faults = refl;
    }

pub put_at-requires-clause-place : goal.put_at-requires-clause-place
put_at-requires-clause-place g c =
    let pointers = c.args.places.now in
    let slice = c.as_slice-pointer-items.result.now in
    let i = c.loop-pointer.pointer-index in
    let place = the_place slice i in
    let at = is_one pointers slice c.as_slice-pointer-items.ensures i c.loop-pointer-test.true in
    subst (λ (sizes : List ℕ). IsPlace sizes place.dev place.block) (sym c.loop-pointer.invariant.goes_on.sizes) (c.requires.places place at)

pub loop-pointer-preserved : goal.loop-pointer-preserved
loop-pointer-preserved g c =
    let D = g.D.Devices in
    let old = D.state c.args.devices.now in
    let mid = D.state c.loop-pointer.devices in
    let new = D.state c.put_at.new.devices in
    let pointers = c.args.places.now in
    let slice = c.as_slice-pointer-items.result.now in
    let places = places_of pointers in
    let i = c.loop-pointer.pointer-index in
    let same = c.as_slice-pointer-items.ensures in
    let place = the_place slice i in
    let hit = is_one pointers slice c.as_slice-pointer-items.ensures i c.loop-pointer-test.true in
    let bytes = c.args.from.now in
    let result = c.put_at.result in
    let so_far = c.loop-pointer.invariant in
    let call = c.put_at.ensures.call in
    let there : IsPlace old.sizes place.dev place.block = c.requires.places place hit in
    record {
      crashes = λ tells. goes_on_write (IsOneOf places) (now old) old mid (so_far.crashes tells) (g.met.D.Devices.sound tells c.loop-pointer.devices) result place.dev place.block bytes new hit (call.disks tells);
      written = λ tells.
          let now_there : place.block < get_or mid.sizes place.dev 0 = subst (λ (sizes : List ℕ). place.block < get_or sizes place.dev 0) (sym so_far.goes_on.sizes) there in
          let within : place.block < get_or (sizes_of (now mid)) place.dev 0 = subst (λ (sizes : List ℕ). place.block < get_or sizes place.dev 0) (g.met.D.Devices.agree tells c.loop-pointer.devices) now_there in
          written_more (now mid) (now new) places i place bytes (is_there pointers slice same i c.loop-pointer-test.true) (is_within pointers slice same i c.loop-pointer-test.true) within (c.in_ok-put_at.ensures.call.disks tells).after (so_far.written tells);
      elsewhere = λ tells. elsewhere_more result (IsOneOf places) place.dev place.block bytes old mid new hit (so_far.elsewhere tells) (call.disks tells);
      asks = λ tells opens. hold_by_write opens (IsBlockAt places bytes) old mid so_far.goes_on.later (so_far.asks tells opens) result place.dev place.block bytes new (hit, refl) (call.disks tells);
      goes_on = go_on_then old mid new so_far.goes_on (go_on_by_write D.tells place.dev result (MayBeWritten place.dev place.block bytes (now mid)) (Is (changed place.dev (written place.block bytes) (now mid))) mid new call c.put_at.ensures.sizes);
      faults = c.in_ok-put_at.ensures.call.faults ∙ so_far.faults;
    }

pub returns-in_err-put_at-clause-crashes : goal.returns-in_err-put_at-clause-crashes
returns-in_err-put_at-clause-crashes g c tells =
    let D = g.D.Devices in
    let old = D.state c.args.devices.now in
    let mid = D.state c.loop-pointer.devices in
    let new = D.state c.put_at.new.devices in
    let pointers = c.args.places.now in
    let slice = c.as_slice-pointer-items.result.now in
    let place = the_place slice c.loop-pointer.pointer-index in
    let hit = is_one pointers slice c.as_slice-pointer-items.ensures c.loop-pointer.pointer-index c.loop-pointer-test.true in
    goes_on_write (IsOneOf (places_of pointers)) (now old) old mid (c.loop-pointer.invariant.crashes tells) (g.met.D.Devices.sound tells c.loop-pointer.devices) c.put_at.result place.dev place.block c.args.from.now new hit (c.put_at.ensures.call.disks tells)

pub returns-in_err-put_at-clause-elsewhere : goal.returns-in_err-put_at-clause-elsewhere
returns-in_err-put_at-clause-elsewhere g c tells =
    let D = g.D.Devices in
    let old = D.state c.args.devices.now in
    let mid = D.state c.loop-pointer.devices in
    let new = D.state c.put_at.new.devices in
    let pointers = c.args.places.now in
    let slice = c.as_slice-pointer-items.result.now in
    let place = the_place slice c.loop-pointer.pointer-index in
    let hit = is_one pointers slice c.as_slice-pointer-items.ensures c.loop-pointer.pointer-index c.loop-pointer-test.true in
    elsewhere_more c.put_at.result (IsOneOf (places_of pointers)) place.dev place.block c.args.from.now old mid new hit (c.loop-pointer.invariant.elsewhere tells) (c.put_at.ensures.call.disks tells)

pub returns-in_err-put_at-clause-asks : goal.returns-in_err-put_at-clause-asks
returns-in_err-put_at-clause-asks g c tells opens =
    let D = g.D.Devices in
    let old = D.state c.args.devices.now in
    let mid = D.state c.loop-pointer.devices in
    let new = D.state c.put_at.new.devices in
    let pointers = c.args.places.now in
    let slice = c.as_slice-pointer-items.result.now in
    let place = the_place slice c.loop-pointer.pointer-index in
    let hit = is_one pointers slice c.as_slice-pointer-items.ensures c.loop-pointer.pointer-index c.loop-pointer-test.true in
    hold_by_write opens (IsBlockAt (places_of pointers) c.args.from.now) old mid c.loop-pointer.invariant.goes_on.later (c.loop-pointer.invariant.asks tells opens) c.put_at.result place.dev place.block c.args.from.now new (hit, refl) (c.put_at.ensures.call.disks tells)

pub returns-in_err-put_at-clause-goes_on : goal.returns-in_err-put_at-clause-goes_on
returns-in_err-put_at-clause-goes_on g c =
    let D = g.D.Devices in
    let old = D.state c.args.devices.now in
    let mid = D.state c.loop-pointer.devices in
    let new = D.state c.put_at.new.devices in
    let place = the_place c.as_slice-pointer-items.result.now c.loop-pointer.pointer-index in
    let bytes = c.args.from.now in
    go_on_then old mid new c.loop-pointer.invariant.goes_on
    (go_on_by_write D.tells place.dev c.put_at.result (MayBeWritten place.dev place.block bytes (now mid)) (Is (changed place.dev (written place.block bytes) (now mid))) mid new c.put_at.ensures.call c.put_at.ensures.sizes)
