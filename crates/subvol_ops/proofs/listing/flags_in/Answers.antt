-- Slot after slot the names of the subvolumes are gathered, up to the last one.
use Rattle.std.proofs.Common.{◌≤◌, ◌+◌, ◌∙◌, Option, ap, subst, arith, refl, suc}
use Rattle.std.specs.Prelude.{IfSome}
use Rattle.dirent_keys.proofs.Bounds.{slot_fits}
use Rattle.path_plan.specs.LookLaws.{gave_before, looks_then}
use Rattle.subvol_ops.proofs.Gathered.{gathered_all, gathered_next, gathered_to}
use Rattle.subvol_ops.specs.Listing.{HasNext, with_subs}
use Rattle.subvol_ops.specs.declared.listing.Entry.{Entry}
use Rattle.vol_types.specs.Maps.{value_at}
use Rattle.vol_types.specs.Ranges.{name_cmp}
use Rattle.subvol_ops.proofs.listing.flags_in.Goals as goal

pub returns-in_default-clause-flags : goal.returns-in_default-clause-flags
returns-in_default-clause-flags g c = λ keys gives is drawn good name.
    let made = g.V.View.made in
    let before = gave_before keys (made c.loop-flags.view) (made c.next_subs.new.view) c.in_ok-entry.ensures.looks gives in
    gathered_all keys c.loop-flags.from c.loop-flags.flags.entries (c.loop-flags.invariant.0 keys before is drawn good)
    (subst (HasNext keys c.loop-flags.from) c.in_default.is (c.in_ok-entry.ensures.next keys gives is drawn)) name

pub returns-then-slot-clause-flags : goal.returns-then-slot-clause-flags
returns-then-slot-clause-flags g c = λ keys gives is drawn good name.
    let made = g.V.View.made in
    let entry = c.in-Some.entry in
    let before = gave_before keys (made c.loop-flags.view) (made c.next_subs.new.view) c.in_ok-entry.ensures.looks gives in
    let le = subst (λ (o : Option Entry). IfSome o (λ e. c.loop-flags.from ≤ e.slot)) c.in-Some.is c.in_ok-entry.ensures.above in
    ap (value_at name_cmp name) c.in_ok-put_subs.ensures
    ∙ gathered_to keys (suc entry.slot) (with_subs entry.subs c.loop-flags.flags.entries)
    (gathered_next keys good c.loop-flags.from entry.slot c.loop-flags.flags.entries (c.loop-flags.invariant.0 keys before is drawn good) le entry.subs
    (subst (HasNext keys c.loop-flags.from) c.in-Some.is (c.in_ok-entry.ensures.next keys gives is drawn)) (suc entry.slot) refl)
    name (let fits = slot_fits name in omega (arith, fits, c.if-slot.true))

pub loop-flags-preserved : goal.loop-flags-preserved
loop-flags-preserved g c =
    let made = g.V.View.made in
    let entry = c.in-Some.entry in
    let one = c.in_ok-entry.ensures.looks in (
      (λ keys gives is drawn good name.
          let before = gave_before keys (made c.loop-flags.view) (made c.next_subs.new.view) one gives in
          let le = subst (λ (o : Option Entry). IfSome o (λ e. c.loop-flags.from ≤ e.slot)) c.in-Some.is c.in_ok-entry.ensures.above in
          ap (value_at name_cmp name) c.in_ok-put_subs.ensures
          ∙ gathered_next keys good c.loop-flags.from entry.slot c.loop-flags.flags.entries (c.loop-flags.invariant.0 keys before is drawn good) le entry.subs
          (subst (HasNext keys c.loop-flags.from) c.in-Some.is (c.in_ok-entry.ensures.next keys gives is drawn)) (entry.slot + 1) (omega arith) name),
      looks_then (made c.args.view.now) (made c.loop-flags.view) (made c.next_subs.new.view) c.loop-flags.invariant.1 one,
      c.in_ok-entry.ensures.ids ∙ c.loop-flags.invariant.2,
    )
