-- Slot after slot the names that show there are gathered, up to the last one.
use Rattle.std.proofs.Common.{◌∙◌, ◌≤◌, ◌+◌, ℕ, Option, ap, subst, arith, refl, suc}
use Rattle.std.specs.Prelude.{IfSome}
use Rattle.fs_plan.proofs.Bounds.{slot_fits}
use Rattle.fs_plan.proofs.Gathered.{gathered_all, gathered_next, gathered_to}
use Rattle.path_plan.specs.LookLaws.{looks_then, seen_before}
use Rattle.dirent_keys.specs.Slots.{HasNoSlot}
use Rattle.fs_plan.specs.Listing.{with_links}
use Rattle.key_meaning.specs.Forest.{links_of}
use Rattle.vol_types.specs.Maps.{value_at}
use Rattle.vol_types.specs.Ranges.{name_cmp}
use Rattle.fs_plan.proofs.slots.flags_in.Goals as goal

pub returns-in_default-clause-flags : goal.returns-in_default-clause-flags
returns-in_default-clause-flags g c = λ keys seen joined live name.
    let made = g.V.View.made in
    let a = c.args in
    let before = seen_before keys (made c.loop-flags.view) (made c.next_slot.new.view) a.tree.now c.in_ok-slot.ensures.looks seen in
    gathered_all keys a.id a.directory c.loop-flags.from c.loop-flags.flags.entries (c.loop-flags.invariant.0 keys before joined live)
    (subst (HasNoSlot keys a.directory c.loop-flags.from) c.in_default.is (c.in_ok-slot.ensures.next keys seen.is_map seen.gives)) name

pub returns-then-slot-clause-flags : goal.returns-then-slot-clause-flags
returns-then-slot-clause-flags g c = λ keys seen joined live name.
    let made = g.V.View.made in
    let a = c.args in
    let slot = c.in-Some.slot in
    let told = seen_before keys (made c.next_slot.new.view) (made c.nearest.new.view) a.tree.now c.in_ok-value.ensures.looks seen in
    let before = seen_before keys (made c.loop-flags.view) (made c.next_slot.new.view) a.tree.now c.in_ok-slot.ensures.looks told in
    let le = subst (λ (o : Option ℕ). IfSome o (λ s. c.loop-flags.from ≤ s)) c.in-Some.is c.in_ok-slot.ensures.above in
    ap (value_at name_cmp name) c.in_ok-put_links.ensures
    ∙ gathered_to keys a.id a.directory (suc slot) (with_links c.links_of.result c.loop-flags.flags.entries)
    (gathered_next keys a.id a.directory joined live c.loop-flags.from slot c.loop-flags.flags.entries (c.loop-flags.invariant.0 keys before joined live) le
    (subst (HasNoSlot keys a.directory c.loop-flags.from) c.in-Some.is (c.in_ok-slot.ensures.next keys told.is_map told.gives))
    c.links_of.result (c.links_of.ensures ∙ ap links_of (c.in_ok-value.ensures.visible keys seen)) (suc slot) refl)
    name (let fits = slot_fits name in omega (arith, fits, c.if-slot.true))

pub loop-flags-preserved : goal.loop-flags-preserved
loop-flags-preserved g c =
    let made = g.V.View.made in
    let a = c.args in
    let slot = c.in-Some.slot in
    let one = c.in_ok-slot.ensures.looks in
    let two = c.in_ok-value.ensures.looks in (
      (λ keys seen joined live name.
          let told = seen_before keys (made c.next_slot.new.view) (made c.nearest.new.view) a.tree.now two seen in
          let before = seen_before keys (made c.loop-flags.view) (made c.next_slot.new.view) a.tree.now one told in
          let le = subst (λ (o : Option ℕ). IfSome o (λ s. c.loop-flags.from ≤ s)) c.in-Some.is c.in_ok-slot.ensures.above in
          ap (value_at name_cmp name) c.in_ok-put_links.ensures
          ∙ gathered_next keys a.id a.directory joined live c.loop-flags.from slot c.loop-flags.flags.entries (c.loop-flags.invariant.0 keys before joined live) le
          (subst (HasNoSlot keys a.directory c.loop-flags.from) c.in-Some.is (c.in_ok-slot.ensures.next keys told.is_map told.gives))
          c.links_of.result (c.links_of.ensures ∙ ap links_of (c.in_ok-value.ensures.visible keys seen)) (slot + 1) (omega arith) name),
      looks_then (made a.view.now) (made c.next_slot.new.view) (made c.nearest.new.view) (looks_then (made a.view.now) (made c.loop-flags.view) (made c.next_slot.new.view) c.loop-flags.invariant.1 one) two,
      c.in_ok-value.ensures.ids ∙ c.in_ok-slot.ensures.ids ∙ c.loop-flags.invariant.2,
    )

pub returns-in_err-slot-clause-looks : goal.returns-in_err-slot-clause-looks
returns-in_err-slot-clause-looks g c =
    let made = g.V.View.made in
    looks_then (made c.args.view.now) (made c.loop-flags.view) (made c.next_slot.new.view) c.loop-flags.invariant.1 c.in_err-slot.ensures.looks

pub returns-in_default-clause-looks : goal.returns-in_default-clause-looks
returns-in_default-clause-looks g c =
    let made = g.V.View.made in
    looks_then (made c.args.view.now) (made c.loop-flags.view) (made c.next_slot.new.view) c.loop-flags.invariant.1 c.in_ok-slot.ensures.looks

pub returns-in_err-value-clause-looks : goal.returns-in_err-value-clause-looks
returns-in_err-value-clause-looks g c =
    let made = g.V.View.made in
    looks_then (made c.args.view.now) (made c.next_slot.new.view) (made c.nearest.new.view) (looks_then (made c.args.view.now) (made c.loop-flags.view) (made c.next_slot.new.view) c.loop-flags.invariant.1 c.in_ok-slot.ensures.looks) c.in_err-value.ensures.looks

pub returns-in_err-put_links-clause-looks : goal.returns-in_err-put_links-clause-looks
returns-in_err-put_links-clause-looks g c =
    let made = g.V.View.made in
    looks_then (made c.args.view.now) (made c.next_slot.new.view) (made c.nearest.new.view) (looks_then (made c.args.view.now) (made c.loop-flags.view) (made c.next_slot.new.view) c.loop-flags.invariant.1 c.in_ok-slot.ensures.looks) c.in_ok-value.ensures.looks

pub returns-then-slot-clause-looks : goal.returns-then-slot-clause-looks
returns-then-slot-clause-looks g c =
    let made = g.V.View.made in
    looks_then (made c.args.view.now) (made c.next_slot.new.view) (made c.nearest.new.view) (looks_then (made c.args.view.now) (made c.loop-flags.view) (made c.next_slot.new.view) c.loop-flags.invariant.1 c.in_ok-slot.ensures.looks) c.in_ok-value.ensures.looks
