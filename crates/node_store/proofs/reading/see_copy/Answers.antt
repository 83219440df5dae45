use Rattle.std.proofs.Common.{◌≡◌, ◌+◌, ◌++◌, ◌∷◌, [], ◌∙◌, List, Option, length, arith, ap, subst, sym, length-append}
use Rattle.dev_model.specs.Disk.{Disk, as_read, block_at}
use Rattle.dev_model.specs.Devices.{now}
use Rattle.dev_model.specs.FrameLaws.{only_read_then, stay_now}
use Rattle.node_store.specs.declared.opening.OpenBlock.{OpenBlock}
use Rattle.node_store.specs.declared.reading.Unread.{Unread}
use Rattle.node_store.specs.Answers.{AreCauses, IsSeenFrom}
use Rattle.node_store.specs.Copies.{shown_at, shown_below}
use Rattle.node_store.specs.FailedReads.{IsFarthest, farthest, read_from, unread_device}
use Rattle.node_store.proofs.Seen.{causes_by, causes_then, farthest_more, named_place, read_later}
use Rattle.node_store.proofs.SeenMore.{Shows, see_all, see_all_more, see_more, see_whole, few_more, few_whole}
use Rattle.node_store.proofs.reading.see_copy.Goals as goal

pub loop-n-preserved : goal.loop-n-preserved
loop-n-preserved g c =
    let D = g.D.Devices in
    let first = D.state c.args.devices.now in
    let mid = D.state c.loop-n.devices in
    let new = D.state c.see_block.new.devices in
    let so_far = c.loop-n.invariant in
    let seen = c.in_ok-seen.seen in
    let place = c.args.place.now in
    let n = c.loop-n.n in
    let read = block_at (as_read (now first)) in
    let far : c.farthest-unread.result ≡ farthest n seen.failed c.loop-n.unread = c.farthest-unread.ensures in
    let pushed : c.push.new.self ≡ c.loop-n.copy ++ seen.shown ∷ [] = c.in_ok-push.ensures.ok in
    record {
      shown = λ tells.
          let shows : Shows seen.shown (shown_at read place n) seen.failed = subst (λ (ds : List Disk). Shows seen.shown (shown_at (block_at (as_read ds)) place n) seen.failed) (stay_now first mid (so_far.read.disks tells)) (c.in_ok-seen.ensures.shown tells) in
          subst (λ (o : Option Unread). IsSeenFrom (read_from o) (shown_below read place (n + 1)) c.push.new.self) (sym far)
          (see_more read place n c.loop-n.unread seen.failed c.loop-n.copy c.push.new.self seen.shown pushed shows so_far.count (so_far.shown tells));
      all = λ tells none.
          let shows : Shows seen.shown (shown_at read place n) seen.failed = subst (λ (ds : List Disk). Shows seen.shown (shown_at (block_at (as_read ds)) place n) seen.failed) (stay_now first mid (so_far.read.disks tells)) (c.in_ok-seen.ensures.shown tells) in
          see_all_more read place n c.loop-n.unread seen.failed c.loop-n.copy c.push.new.self seen.shown pushed shows (so_far.all tells) (sym far ∙ none);
      few = λ tells.
          let shows : Shows seen.shown (shown_at read place n) seen.failed = subst (λ (ds : List Disk). Shows seen.shown (shown_at (block_at (as_read ds)) place n) seen.failed) (stay_now first mid (so_far.read.disks tells)) (c.in_ok-seen.ensures.shown tells) in
          few_more read place n seen.failed c.loop-n.copy c.push.new.self seen.shown pushed so_far.count shows first.faults mid.faults new.faults c.see_block.ensures.read.calls c.in_ok-seen.ensures.cause (so_far.few tells);
      count = omega (arith, ap length pushed, length-append c.loop-n.copy (seen.shown ∷ []), so_far.count);
      from = omega (arith, so_far.from, read_later n seen.failed c.loop-n.unread, ap read_from far);
      unread =
          subst (λ (o : Option Unread). IsFarthest c.args.before o c.push.new.self place.dev) (sym far)
          (subst (λ (cs : List (Option OpenBlock)). IsFarthest c.args.before (farthest n seen.failed c.loop-n.unread) cs place.dev) (sym pushed)
          (farthest_more c.args.before c.loop-n.unread seen.failed n place.dev c.loop-n.copy seen.shown so_far.count c.in_ok-seen.ensures.unseen (named_place seen.failed place.dev mid.faults new.faults c.in_ok-seen.ensures.cause) so_far.unread));
      read = only_read_then D.tells first mid new so_far.read c.see_block.ensures.read;
      cause = causes_then (unread_device c.args.before) (unread_device c.loop-n.unread) (unread_device c.farthest-unread.result) first.faults mid.faults new.faults so_far.read.calls c.see_block.ensures.read.calls so_far.cause
          (subst (λ (o : Option Unread). AreCauses (unread_device c.loop-n.unread) (unread_device o) mid.faults new.faults) (sym far)
          (causes_by c.loop-n.unread seen.failed n place.dev mid.faults new.faults c.in_ok-seen.ensures.cause));
    }

pub returns-clause-shown : goal.returns-clause-shown
returns-clause-shown g c tells =
    see_whole (block_at (as_read (now (g.D.Devices.state c.args.devices.now)))) c.args.place.now c.loop-n.n (read_from c.loop-n.unread) c.loop-n.copy
    (let e : c.loop-n.n ≡ 16 = omega (arith, c.loop-n-test.false, c.loop-n.auto.n-end) in e) (c.loop-n.invariant.shown tells)

pub returns-clause-all : goal.returns-clause-all
returns-clause-all g c tells none =
    see_all (block_at (as_read (now (g.D.Devices.state c.args.devices.now)))) c.args.place.now c.loop-n.n c.loop-n.copy
    (let e : c.loop-n.n ≡ 16 = omega (arith, c.loop-n-test.false, c.loop-n.auto.n-end) in e) (c.loop-n.invariant.all tells none)

pub returns-clause-few : goal.returns-clause-few
returns-clause-few g c tells =
    few_whole (block_at (as_read (now (g.D.Devices.state c.args.devices.now)))) c.args.place.now c.loop-n.n c.loop-n.copy _ _
    (let e : c.loop-n.n ≡ 16 = omega (arith, c.loop-n-test.false, c.loop-n.auto.n-end) in e) (c.loop-n.invariant.few tells)
