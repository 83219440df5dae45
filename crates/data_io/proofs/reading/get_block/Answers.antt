use Rattle.std.proofs.Common.{◌≡◌, ◌+◌, ◌++◌, ◌∷◌, [], ◌∙◌, List, ℕ, Option, Some, length, take, ap, arith, subst, sym}
use Rattle.std.specs.Prelude.{IfSome, option_and_then, slice_get}
use Rattle.std.proofs.lemmas.List.{take_all}
use Rattle.std.proofs.lemmas.Option.{slice_get-get_or}
use Rattle.vol_digest.specs.Digests.{short_of}
use Rattle.vol_types.specs.declared.pointers.Place.{Place}
use Rattle.dev_model.specs.Devices.{now}
use Rattle.dev_model.specs.Disk.{Disk, as_read}
use Rattle.dev_model.specs.FrameLaws.{only_read_then, stay_now}
use Rattle.data_io.specs.Answers.{ArePassed}
use Rattle.data_io.specs.Reads.{after_read, block_of, places_of}
use Rattle.data_io.proofs.PassedPlaces.{answered_short, failed_where_right, found_is_first, passed_more, passed_still}
use Rattle.data_io.proofs.WrittenPlaces.{is_there, is_within, length-places_of, the_place}
use Rattle.data_io.proofs.reading.get_block.Goals as goal

pub loop-pointer-preserved : goal.loop-pointer-preserved
loop-pointer-preserved g c =
    let D = g.D.Devices in
    let old = D.state c.args.devices.now in
    let mid = D.state c.loop-pointer.devices in
    let new = D.state c.get_at-found.new.devices in
    let pointers = c.args.places.now in
    let slice = c.as_slice-pointer-items.result.now in
    let i = c.loop-pointer.pointer-index in
    let place = the_place slice i in
    let same = c.as_slice-pointer-items.ensures in
    let so_far = c.loop-pointer.invariant in
    let got = c.loop-pointer.got ++ c.get_at-found.result ∷ [] in
    let passed = passed_more D.tells old mid new c.args.want (places_of pointers) i place c.loop-pointer.got c.get_at-found.result
    (is_within pointers slice same i c.loop-pointer-test.true) (is_there pointers slice same i c.loop-pointer-test.true)
    so_far.read c.get_at-found.ensures.read c.get_at-found.ensures.got c.get_at-found.ensures.faults (c.is_right.ensures.wrong c.if-is_right.false) so_far.passed in
    record {
      passed = subst (λ (list : List (Option ℕ)). ArePassed D.tells old new c.args.want (take (i + 1) (places_of pointers)) list) (sym c.in_ok-push.ensures.ok) passed;
      read = only_read_then D.tells old mid new so_far.read c.get_at-found.ensures.read;
      size = c.get_at-found.ensures.size;
    }

pub returns-then-is_right-clause-answer : goal.returns-then-is_right-clause-answer
returns-then-is_right-clause-answer g c =
    let D = g.D.Devices in
    let old = D.state c.args.devices.now in
    let mid = D.state c.loop-pointer.devices in
    let new = D.state c.get_at-found.new.devices in
    let pointers = c.args.places.now in
    let slice = c.as_slice-pointer-items.result.now in
    let i = c.loop-pointer.pointer-index in
    let place = the_place slice i in
    let same = c.as_slice-pointer-items.ensures in
    let so_far = c.loop-pointer.invariant in
    let into = c.get_at-found.new.into in
    let right : c.get_at-found.result ≡ Some c.args.want = c.is_right.ensures.right c.if-is_right.true in
    let still : new.faults ≡ mid.faults = subst (λ (o : Option ℕ). new.faults ≡ after_read mid.sizes place o mid.faults) right c.get_at-found.ensures.faults in
    let stands : slice_get (places_of pointers) i ≡ Some place =
    slice_get-get_or (places_of pointers) i place (is_within pointers slice same i c.loop-pointer-test.true) ∙ ap Some (is_there pointers slice same i c.loop-pointer-test.true) in
    record {
      place = i;
      within = is_within pointers slice same i c.loop-pointer-test.true;
      got = c.loop-pointer.got;
      passed = passed_still D.tells old mid new c.args.want (take i (places_of pointers)) c.loop-pointer.got c.get_at-found.ensures.read still so_far.passed;
      bytes_there = λ tells.
          let read : block_of (as_read (now mid)) place ≡ Some into = subst (λ (o : Option ℕ). IfSome o (λ _. block_of (as_read (now mid)) place ≡ Some into)) right (c.get_at-found.ensures.bytes tells) in
          ap (option_and_then (block_of (as_read (now old)))) stands
          ∙ subst (λ (ds : List Disk). block_of (as_read ds) place ≡ Some into) (stay_now old mid (so_far.read.disks tells)) read;
      digest = subst (λ (o : Option ℕ). IfSome o (λ digest. short_of into ≡ digest)) right c.get_at-found.ensures.digest;
    }

pub returns-then-is_right-clause-first : goal.returns-then-is_right-clause-first
returns-then-is_right-clause-first g c tells =
    let D = g.D.Devices in
    found_is_first D.tells tells (D.state c.args.devices.now) (D.state c.get_at-found.new.devices) c.args.want (places_of c.args.places.now) c.get_at-found.new.into
    (g.met.D.Devices.agree tells c.args.devices.now) (returns-then-is_right-clause-answer g c)

pub returns-in_err-push-clause-answer : goal.returns-in_err-push-clause-answer
returns-in_err-push-clause-answer g c =
    let D = g.D.Devices in
    let old = D.state c.args.devices.now in
    let mid = D.state c.loop-pointer.devices in
    let new = D.state c.get_at-found.new.devices in
    let pointers = c.args.places.now in
    let slice = c.as_slice-pointer-items.result.now in
    let i = c.loop-pointer.pointer-index in
    let place = the_place slice i in
    let same = c.as_slice-pointer-items.ensures in
    let so_far = c.loop-pointer.invariant in
    answered_short D.tells old new c.args.number c.args.want (places_of pointers) c.get_at-found.new.into c.from_residual.result c.from_residual.ensures.1 (record {
      count = i + 1;
      got = c.loop-pointer.got ++ c.get_at-found.result ∷ [];
      passed = passed_more D.tells old mid new c.args.want (places_of pointers) i place c.loop-pointer.got c.get_at-found.result
          (is_within pointers slice same i c.loop-pointer-test.true) (is_there pointers slice same i c.loop-pointer-test.true)
          so_far.read c.get_at-found.ensures.read c.get_at-found.ensures.got c.get_at-found.ensures.faults (c.is_right.ensures.wrong c.if-is_right.false) so_far.passed;
    })

pub returns-clause-made_up : goal.returns-clause-made_up
returns-clause-made_up g c tells lost is =
    let D = g.D.Devices in
    let old = D.state c.args.devices.now in
    let new = D.state c.loop-pointer.devices in
    let places = places_of c.args.places.now in
    let i = c.loop-pointer.pointer-index in
    let all : take i places ≡ places = take_all i places (omega (arith, c.loop-pointer-test.false, ap length c.as_slice-pointer-items.ensures, length-places_of c.args.places.now)) in
    let passed = subst (λ (ps : List Place). ArePassed D.tells old new c.args.want ps c.loop-pointer.got) all c.loop-pointer.invariant.passed in
    failed_where_right D.tells tells old new c.args.want places c.loop-pointer.got (g.met.D.Devices.agree tells c.args.devices.now) passed.each passed.wrong
