use Rattle.std.proofs.Common.{◌≡◌, ◌+◌, ◌++◌, ◌∷◌, [], ◌∙◌, List, Option, None, length, take, get_or, ap, arith, length-append, subst, sym}
use Rattle.std.proofs.lemmas.List.{get_or_default}
use Rattle.vol_types.specs.declared.pointers.Place.{Place}
use Rattle.dev_model.specs.Disk.{Disk, as_read, block_at}
use Rattle.dev_model.specs.Devices.{now}
use Rattle.dev_model.specs.FrameLaws.{only_read_then, stay_now}
use Rattle.std.specs.Prelude.{slice_index_or}
use Rattle.vol_types.specs.Faults.{RoseBy}
use Rattle.node_store.specs.declared.opening.OpenBlock.{OpenBlock}
use Rattle.node_store.specs.Answers.{IsSeenFrom}
use Rattle.node_store.specs.Copies.{copies_at, copy_at}
use Rattle.node_store.specs.FailedReads.{lacking, read_from, unread_device}
use Rattle.node_store.specs.StoredSets.{Copies}
use Rattle.node_store.proofs.Seen.{causes_then}
use Rattle.node_store.proofs.SeenMore.{copies_taken, none_before, see_copies_more, unread_more, few_all, few_below_more}
use Rattle.node_store.proofs.reading.see_copies.Goals as goal

pub loop-place-preserved : goal.loop-place-preserved
loop-place-preserved g c =
    let D = g.D.Devices in
    let first = D.state c.args.devices.now in
    let mid = D.state c.loop-place.devices in
    let new = D.state c.see_copy.new.devices in
    let so_far = c.loop-place.invariant in
    let seen = c.in_ok-seen.seen in
    let places = c.args.places.now in
    let i = c.loop-place.place-index in
    let place : Place = get_or places i (record { dev = 0; block = 0 }) in
    let at : get_or places i place ≡ place = get_or_default places i place (record { dev = 0; block = 0 }) c.loop-place-test.true in
    let read = block_at (as_read (now first)) in
    let pushed : c.push.new.self ≡ c.loop-place.copies ++ seen.copy ∷ [] = c.in_ok-push.ensures.ok in
    let taken = copies_taken read places i place c.loop-place-test.true at in
    record {
      shown = λ tells.
          let here : IsSeenFrom (read_from seen.unread) (copy_at read place) seen.copy = subst (λ (ds : List Disk). IsSeenFrom (read_from seen.unread) (copy_at (block_at (as_read ds)) place) seen.copy) (stay_now first mid (so_far.read.disks tells)) (c.in_ok-seen.ensures.shown tells) in
          see_copies_more (read_from c.loop-place.unread) (read_from seen.unread) (copies_at read (take i places)) c.loop-place.copies (copies_at read (take (i + 1) places)) c.push.new.self (copy_at read place) seen.copy
          c.in_ok-seen.ensures.from (so_far.shown tells) here taken pushed;
      all = λ tells none.
          let here : seen.copy ≡ copy_at read place = subst (λ (ds : List Disk). seen.copy ≡ copy_at (block_at (as_read ds)) place) (stay_now first mid (so_far.read.disks tells)) (c.in_ok-seen.ensures.all tells none) in
          pushed ∙ ap (λ (copy : List (Option OpenBlock)). c.loop-place.copies ++ copy ∷ []) here
          ∙ ap (λ (cs : Copies). cs ++ copy_at read place ∷ []) (so_far.all tells (none_before c.loop-place.unread seen.unread c.in_ok-seen.ensures.from none)) ∙ sym taken;
      read = only_read_then D.tells first mid new so_far.read c.see_copy.ensures.read;
      cause = causes_then None (unread_device c.loop-place.unread) (unread_device seen.unread) first.faults mid.faults new.faults so_far.read.calls c.see_copy.ensures.read.calls so_far.cause c.in_ok-seen.ensures.cause;
      few = λ tells.
          let here : RoseBy (lacking (copy_at read place) seen.copy) (slice_index_or mid.faults.calls place.dev 0) (slice_index_or new.faults.calls place.dev 0) =
          subst (λ (ds : List Disk). RoseBy (lacking (copy_at (block_at (as_read ds)) place) seen.copy) (slice_index_or mid.faults.calls place.dev 0) (slice_index_or new.faults.calls place.dev 0)) (stay_now first mid (so_far.read.disks tells)) (c.in_ok-seen.ensures.few tells) in
          few_below_more read places i place c.loop-place.copies c.push.new.self seen.copy first.faults mid.faults new.faults c.loop-place-test.true at so_far.count pushed c.see_copy.ensures.read.calls here (so_far.few tells);
      count = omega (arith, ap length pushed, length-append c.loop-place.copies (seen.copy ∷ []), so_far.count);
      unread = unread_more places i place c.loop-place.unread seen.unread c.loop-place.copies c.push.new.self seen.copy c.loop-place-test.true at so_far.count pushed c.in_ok-seen.ensures.size c.in_ok-seen.ensures.unread so_far.unread;
    }

pub returns-clause-few : goal.returns-clause-few
returns-clause-few g c tells =
    let D = g.D.Devices in
    let first = D.state c.args.devices.now in
    let last = D.state c.loop-place.devices in
    few_all (block_at (as_read (now first))) c.args.places.now c.loop-place.place-index c.loop-place.copies first.faults last.faults c.loop-place-test.false (c.loop-place.invariant.few tells)
