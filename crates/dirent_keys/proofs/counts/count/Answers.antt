-- Slot after slot the names are counted, up to the last one.
use Rattle.std.proofs.Common.{◌∙◌, ◌+◌, ◌≤◌, Option, subst, arith, refl, rules, suc}
use Rattle.std.specs.Prelude.{IfSome}
use Rattle.dirent_keys.proofs.Looks.{looks_then, seen_before}
use Rattle.dirent_keys.proofs.Walked.{below_all, below_first, counted_all, counted_next}
use Rattle.dirent_keys.specs.Slots.{IsNextShown}
use Rattle.dirent_keys.specs.declared.slots.ShownSlot.{ShownSlot}
use Rattle.dirent_keys.proofs.counts.count.Goals as goal

pub loop-shown-init : goal.loop-shown-init
loop-shown-init g c = (λ keys seen drawn joined live. below_first keys c.args.id c.args.dir, search rules, refl)

pub returns-in_default-clause-count : goal.returns-in_default-clause-count
returns-in_default-clause-count g c = λ keys seen drawn joined live.
    let made = g.V.View.made in
    let a = c.args in
    let before = seen_before keys (made c.loop-shown.view) (made c.next_shown.new.view) a.tree.now c.in_ok-shown.ensures.looks seen in
    counted_all keys a.id a.dir c.loop-shown.from c.loop-shown.count (c.loop-shown.invariant.0 keys before drawn joined live)
    (subst (IsNextShown keys a.id a.dir c.loop-shown.from) c.in_default.is (c.in_ok-shown.ensures.shown keys seen))

pub returns-then-shown-clause-count : goal.returns-then-shown-clause-count
returns-then-shown-clause-count g c = λ keys seen drawn joined live.
    let made = g.V.View.made in
    let a = c.args in
    let from = c.loop-shown.from in
    let slot = c.in-Some.shown.slot in
    let before = seen_before keys (made c.loop-shown.view) (made c.next_shown.new.view) a.tree.now c.in_ok-shown.ensures.looks seen in
    let le = subst (λ (o : Option ShownSlot). IfSome o (λ (s : ShownSlot). from ≤ s.slot)) c.in-Some.is c.in_ok-shown.ensures.above in
    let here = subst (IsNextShown keys a.id a.dir from) c.in-Some.is (c.in_ok-shown.ensures.shown keys seen) in
    counted_next keys a.id a.dir joined live drawn from slot (suc slot) c.loop-shown.count c.in-Some.shown.count c.in-Some-checked_add.sum c.in-Some-checked_add.ensures.1 refl (c.loop-shown.invariant.0 keys before drawn joined live) le here.none_before here.count
    ∙ below_all keys a.id a.dir (suc slot) (omega (arith, c.if-shown.true))

pub loop-shown-preserved : goal.loop-shown-preserved
loop-shown-preserved g c =
    let made = g.V.View.made in
    let a = c.args in
    let from = c.loop-shown.from in
    let slot = c.in-Some.shown.slot in (
      (λ keys seen drawn joined live.
          let before = seen_before keys (made c.loop-shown.view) (made c.next_shown.new.view) a.tree.now c.in_ok-shown.ensures.looks seen in
          let le = subst (λ (o : Option ShownSlot). IfSome o (λ (s : ShownSlot). from ≤ s.slot)) c.in-Some.is c.in_ok-shown.ensures.above in
          let here = subst (IsNextShown keys a.id a.dir from) c.in-Some.is (c.in_ok-shown.ensures.shown keys seen) in
          counted_next keys a.id a.dir joined live drawn from slot (slot + 1) c.loop-shown.count c.in-Some.shown.count c.in-Some-checked_add.sum c.in-Some-checked_add.ensures.1 (omega arith) (c.loop-shown.invariant.0 keys before drawn joined live) le here.none_before here.count),
      looks_then (made a.view.now) (made c.loop-shown.view) (made c.next_shown.new.view) c.loop-shown.invariant.1 c.in_ok-shown.ensures.looks,
      c.in_ok-shown.ensures.ids ∙ c.loop-shown.invariant.2,
    )
