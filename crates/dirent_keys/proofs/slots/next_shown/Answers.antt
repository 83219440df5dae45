-- Slot after slot nothing shows, up to the first under which something does.
use Rattle.std.proofs.Common.{◌∙◌, ◌+◌, ◌^◌, ◌≤◌, ℕ, Option, subst, arith}
use Rattle.std.specs.Prelude.{IfSome}
use Rattle.dirent_keys.proofs.Looks.{looks_then, seen_before}
use Rattle.dirent_keys.proofs.Walked.{none_behind, none_between, none_here, none_then}
use Rattle.dirent_keys.specs.Slots.{HasNoSlot}
use Rattle.dirent_keys.proofs.slots.next_shown.Goals as goal

pub returns-in_default-clause-shown : goal.returns-in_default-clause-shown
returns-in_default-clause-shown g c = λ keys seen.
    let made = g.V.View.made in
    let a = c.args in
    let next = c.loop-slot.next in
    let before = seen_before keys (made c.loop-slot.view) (made c.next_slot.new.view) a.tree.now c.in_ok-slot.ensures.looks seen in
    none_then keys a.id a.directory a.from next (2 ^ 64) (c.loop-slot.invariant.0 keys before)
    (none_behind keys a.id a.directory next (2 ^ 64) (subst (HasNoSlot keys a.directory next) c.in_default.is (c.in_ok-slot.ensures.next keys seen.is_map seen.gives)))

pub returns-then-count-gt0-clause-shown : goal.returns-then-count-gt0-clause-shown
returns-then-count-gt0-clause-shown g c = λ keys seen.
    let made = g.V.View.made in
    let a = c.args in
    let next = c.loop-slot.next in
    let slot = c.in-Some.slot in
    let told = seen_before keys (made c.next_slot.new.view) (made c.count_at.new.view) a.tree.now c.in_ok-count.ensures.looks seen in
    let before = seen_before keys (made c.loop-slot.view) (made c.next_slot.new.view) a.tree.now c.in_ok-slot.ensures.looks told in
    record {
      none_before = none_then keys a.id a.directory a.from next slot (c.loop-slot.invariant.0 keys before)
          (none_between keys a.id a.directory next slot (subst (HasNoSlot keys a.directory next) c.in-Some.is (c.in_ok-slot.ensures.next keys told.is_map told.gives)));
      count = c.in_ok-count.ensures.count keys seen;
    }

pub returns-then-slot-clause-shown : goal.returns-then-slot-clause-shown
returns-then-slot-clause-shown g c = λ keys seen.
    let made = g.V.View.made in
    let a = c.args in
    let next = c.loop-slot.next in
    let slot = c.in-Some.slot in
    let told = seen_before keys (made c.next_slot.new.view) (made c.count_at.new.view) a.tree.now c.in_ok-count.ensures.looks seen in
    let before = seen_before keys (made c.loop-slot.view) (made c.next_slot.new.view) a.tree.now c.in_ok-slot.ensures.looks told in
    none_then keys a.id a.directory a.from slot (2 ^ 64)
    (none_then keys a.id a.directory a.from next slot (c.loop-slot.invariant.0 keys before)
    (none_between keys a.id a.directory next slot (subst (HasNoSlot keys a.directory next) c.in-Some.is (c.in_ok-slot.ensures.next keys told.is_map told.gives))))
    (none_here keys a.id a.directory slot c.in_ok-count.count (2 ^ 64) (c.in_ok-count.ensures.count keys seen) (omega (arith, c.if-count-gt0.false)) (omega (arith, c.if-slot.true)))

pub loop-slot-preserved : goal.loop-slot-preserved
loop-slot-preserved g c =
    let made = g.V.View.made in
    let a = c.args in
    let next = c.loop-slot.next in
    let slot = c.in-Some.slot in
    let one = c.in_ok-slot.ensures.looks in
    let two = c.in_ok-count.ensures.looks in
    let up = subst (λ (o : Option ℕ). IfSome o (λ s. next ≤ s)) c.in-Some.is c.in_ok-slot.ensures.above in
    let from = c.loop-slot.invariant.3 in (
      (λ keys seen.
          let told = seen_before keys (made c.next_slot.new.view) (made c.count_at.new.view) a.tree.now two seen in
          let before = seen_before keys (made c.loop-slot.view) (made c.next_slot.new.view) a.tree.now one told in
          none_then keys a.id a.directory a.from slot (slot + 1)
          (none_then keys a.id a.directory a.from next slot (c.loop-slot.invariant.0 keys before)
          (none_between keys a.id a.directory next slot (subst (HasNoSlot keys a.directory next) c.in-Some.is (c.in_ok-slot.ensures.next keys told.is_map told.gives))))
          (none_here keys a.id a.directory slot c.in_ok-count.count (slot + 1) (c.in_ok-count.ensures.count keys seen) (omega (arith, c.if-count-gt0.false)) (omega arith))),
      looks_then (made a.view.now) (made c.next_slot.new.view) (made c.count_at.new.view) (looks_then (made a.view.now) (made c.loop-slot.view) (made c.next_slot.new.view) c.loop-slot.invariant.1 one) two,
      c.in_ok-count.ensures.ids ∙ c.in_ok-slot.ensures.ids ∙ c.loop-slot.invariant.2,
      omega (arith, up, from),
    )
