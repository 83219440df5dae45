use Rattle.std.proofs.Common.{◌≡◌, ℕ, true, Some, sym, ap, ◌∙◌, subst}
use Rattle.std.specs.Prelude.{◌⊎◌, IsSome, is_some}
use Rattle.std.specs.Ordering.{nat_cmp}
use Rattle.vol_types.specs.Maps.{value_at, put_at}
use Rattle.snap_tree.specs.Snaps.{Snaps}
use Rattle.snap_tree.specs.Names.{has_pair, names}
use Rattle.snap_tree.specs.Changes.{HasRoom, given}
use Rattle.snap_tree.proofs.Settling.{entered_new, put_here, none_from}
use Rattle.snap_tree.proofs.settle.enter_one.Goals as goal

pub returns-in_ok-set_record-clause-entered : goal.returns-in_ok-set_record-clause-entered
returns-in_ok-set_record-clause-entered c =
    let old = c.args.snaps.now.entries in
    let change = c.in-Some.change.now in
    entered_new c.args.changes.now.entries old c.set_record.new.snaps.entries c.args.pairs.now.keys c.note_names.new.pairs.keys c.args.links.now.entries c.make_room.new.links.entries c.args.id change c.requires.rises (sym c.in-Some.ensures.value) (none_from change.old c.if-is_none.ensures)
    (c.in_ok-set_record.ensures.ok ∙ ap (λ o. put_at nat_cmp c.args.id o old) (sym c.in-Some-new.is)) (ap is_some c.in-Some-new.is) c.note_names.ensures.kept
    (subst (λ o. (named namer : ℕ) → has_pair c.note_names.new.pairs.keys named namer ≡ true → (has_pair c.args.pairs.now.keys named namer ≡ true) ⊎ ((namer ≡ c.args.id) × (names named o ≡ true))) (sym c.in-Some-new.is) c.note_names.ensures.only) c.make_room.ensures.kept c.make_room.ensures.others

pub returns-in_ok-set_record-clause-room : goal.returns-in_ok-set_record-clause-room
returns-in_ok-set_record-clause-room c =
    let old = c.args.snaps.now.entries in
    let gets : given (value_at nat_cmp c.args.id c.args.changes.now.entries) ≡ Some c.in-Some-new.new = ap given (sym c.in-Some.ensures.value) ∙ c.in-Some-new.is in
    subst (HasRoom c.set_record.new.snaps.entries c.note_names.new.pairs.keys c.make_room.new.links.entries c.args.id) (sym gets)
    (record {
      there = λ is. subst (λ (s : Snaps). IsSome (value_at nat_cmp c.args.id s)) (sym c.in_ok-set_record.ensures.ok) (ap is_some (put_here old c.args.id (Some c.in-Some-new.new) c.requires.rises));
      linked = λ is. c.in_ok-make_room.ensures.ok;
      named = λ named is. c.in_ok-note_names.ensures.ok named is;
    })
