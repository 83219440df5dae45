-- How room is made for changes, and how each changed id gets its record, from the greatest one downwards.
use Rattle.std.proofs.Common.{◌≡◌, ℕ, ◌+◌, ◌<◌, ◌≤◌, Bool, true, false, cond, Option, Some, None, refl, sym, ap, ◌∙◌, subst, arith, ⊎_elim, inl, inr}
use Rattle.std.specs.Prelude.{◌⊎◌, ◌==◌, ◌&&◌, not, IsSome, IfSome, is_some, is_err, Result, Ok, Err, OnOk}
use Rattle.std.specs.Ordering.{nat_cmp}
use Rattle.std.specs.Option.{option_map, unwrap_or}
use Rattle.std.specs.BTreeMap.{is_at}
use Rattle.std.specs.Cmp.{nat_cmp_total}
use Rattle.std.proofs.lemmas.Bool.{eq-eqb, ne_eqb, cases_lt, cases_eq}
use Rattle.std.proofs.lemmas.Map.Entries.{sum_by-insert_entry, sum_by-remove_entry}
use Rattle.vol_types.specs.Maps.{IsMap, value_at, put_at}
use Rattle.vol_types.specs.declared.values.Snap.{Snap}
use Rattle.snap_tree.specs.Snaps.{Snaps, is_live, live_leaves}
use Rattle.snap_tree.specs.Names.{Pairs, has_pair, names, IsIndex}
use Rattle.snap_tree.specs.Links.{AllLinks, IsPast, HaveSameIds}
use Rattle.snap_tree.specs.declared.links.Links.{Links}
use Rattle.snap_tree.specs.Changes.{live_of, Changes, Leads, Tells, IsEntered, HasRoom, SettledAt, given, picked, linked_if, is_new}
use Rattle.snap_tree.specs.declared.change.Change.{Change}
use Rattle.snap_tree.specs.ChainLaws.{same_test}
use Rattle.snap_tree.specs.MapLaws.{value_at-with, value_at-without, rises-with, rises-without}
use Rattle.snap_tree.proofs.Cursors.{step_down}
use Rattle.snap_tree.proofs.Alike.{map_ext}

-- what a call that didn't fail ensures
pub unless_err : {A E : Type 0} (r : Result A E) (P : Type 0) → is_err r ≡ false → OnOk r P → P
unless_err (Ok x) P is holds = holds
unless_err (Err e) P is holds = absurd (cc)

-- what is found where one id has this record, or none
pub value_at-put : (snaps : Snaps) (id x : ℕ) (snap : Option Snap) → IsMap nat_cmp snaps → value_at nat_cmp x (put_at nat_cmp id snap snaps) ≡ cond (id == x) snap (value_at nat_cmp x snaps)
value_at-put snaps id x None rises = value_at-without snaps id x rises
value_at-put snaps id x (Some snap) rises = value_at-with snaps id x snap

pub put_here : (snaps : Snaps) (id : ℕ) (snap : Option Snap) → IsMap nat_cmp snaps → value_at nat_cmp id (put_at nat_cmp id snap snaps) ≡ snap
put_here snaps id snap rises = value_at-put snaps id id snap rises ∙ ap (λ b. cond b snap (value_at nat_cmp id snaps)) (eq-eqb id id refl)

pub put_other : (snaps : Snaps) (id x : ℕ) (snap : Option Snap) → IsMap nat_cmp snaps → (x ≡ id → ⊥) → value_at nat_cmp x (put_at nat_cmp id snap snaps) ≡ value_at nat_cmp x snaps
put_other snaps id x snap rises other = value_at-put snaps id x snap rises ∙ ap (λ b. cond b snap (value_at nat_cmp x snaps)) (ne_eqb id x (λ e. other (sym e)))

pub rises-put : (snaps : Snaps) (id : ℕ) (snap : Option Snap) → IsMap nat_cmp snaps → IsMap nat_cmp (put_at nat_cmp id snap snaps)
rises-put snaps id None rises = rises-without snaps id rises
rises-put snaps id (Some snap) rises = rises-with snaps id snap rises

-- what a record adds to the number of live leaves
abbrev weight : Snap → ℕ
weight snap = cond (is_live snap.state) 1 0

live_of-is : (o : Option Snap) → live_of o ≡ unwrap_or (option_map weight o) 0
live_of-is None = refl
live_of-is (Some snap) = refl

-- the number of live leaves changes as the one record does
pub live_put : (snaps : Snaps) (id : ℕ) (snap : Option Snap) → IsMap nat_cmp snaps → live_leaves (put_at nat_cmp id snap snaps) + live_of (value_at nat_cmp id snaps) ≡ live_leaves snaps + live_of snap
live_put snaps id None rises = omega (arith, sum_by-remove_entry weight (is_at (nat_cmp id)) snaps, live_of-is (value_at nat_cmp id snaps))
live_put snaps id (Some snap) rises = omega (arith, sum_by-insert_entry weight nat_cmp_total snaps id snap rises, live_of-is (value_at nat_cmp id snaps))

-- links that room was made for are those of an id that gets a record
pub fewer_of : (changes : Changes) (before links : AllLinks) (id : ℕ) (change : Change) → value_at nat_cmp id changes ≡ Some change → IsSome change.new → ((x : ℕ) → (x ≡ id → ⊥) → value_at nat_cmp x links ≡ value_at nat_cmp x before)
    → (x : ℕ) → IsSome (value_at nat_cmp x links) → IsSome (value_at nat_cmp x before) ⊎ IsSome (given (value_at nat_cmp x changes))
fewer_of changes before links id change at some others x there =
    ⊎_elim (λ (e : x ≡ id). inr (subst (λ n. IsSome (given (value_at nat_cmp n changes))) (sym e) (subst (λ o. IsSome (given o)) (sym at) some))) (λ (ne : x ≡ id → ⊥). inl (subst IsSome (others x ne) there)) (cases_eq x id)

-- a new id is entered
pub entered_new : (changes : Changes) (old now : Snaps) (was pairs : Pairs) (before links : AllLinks) (id : ℕ) (change : Change) → IsMap nat_cmp old → value_at nat_cmp id changes ≡ Some change → change.old ≡ None
    → now ≡ put_at nat_cmp id change.new old → IsSome change.new
    → ((named namer : ℕ) → has_pair was named namer ≡ true → has_pair pairs named namer ≡ true)
    → ((named namer : ℕ) → has_pair pairs named namer ≡ true → (has_pair was named namer ≡ true) ⊎ ((namer ≡ id) × (names named change.new ≡ true)))
    → ((x : ℕ) → IsSome (value_at nat_cmp x before) → value_at nat_cmp x links ≡ value_at nat_cmp x before) → ((x : ℕ) → (x ≡ id → ⊥) → value_at nat_cmp x links ≡ value_at nat_cmp x before) → IsEntered changes old now was pairs before links
entered_new changes old now was pairs before links id change rises at none put some kept only linked others = record {
  rises = subst (IsMap nat_cmp) (sym put) (rises-put old id change.new rises);
  others = λ x stays. ap (value_at nat_cmp x) put ∙ put_other old id x change.new rises (λ e. absurd (cc (stays, ap is_new (ap (λ n. value_at nat_cmp n changes) e ∙ at), ap is_some none)));
  there = λ x is. subst (λ (s : Snaps). IsSome (value_at nat_cmp x s)) (sym put) (subst IsSome (sym (value_at-put old id x change.new rises)) (over x (id == x) is));
  kept = kept;
  only = λ named namer is. ⊎_elim (λ (h : has_pair was named namer ≡ true). inl h) (λ (h : (namer ≡ id) × (names named change.new ≡ true)). inr (ap (λ n. names named (given (value_at nat_cmp n changes))) h.0 ∙ ap (λ o. names named (given o)) at ∙ h.1)) (only named namer is);
  linked = linked;
  fewer = fewer_of changes before links id change at some others;
}
  where
    over : (x : ℕ) (b : Bool) → IsSome (value_at nat_cmp x old) → IsSome (cond b change.new (value_at nat_cmp x old))
    over x true is = some
    over x false is = is

-- and one after another
pub entered_then : (changes : Changes) (one two three : Snaps) (a b c : Pairs) (k l m : AllLinks) → IsEntered changes one two a b k l → IsEntered changes two three b c l m → IsEntered changes one three a c k m
entered_then changes one two three a b c k l m first second = record {
  rises = second.rises;
  others = λ id old. second.others id old ∙ first.others id old;
  there = λ id is. second.there id (first.there id is);
  kept = λ named namer is. second.kept named namer (first.kept named namer is);
  only = λ named namer is. ⊎_elim (λ (h : has_pair b named namer ≡ true). first.only named namer h) (λ (h : names named (given (value_at nat_cmp namer changes)) ≡ true). inr h) (second.only named namer is);
  linked = λ id is. second.linked id (subst IsSome (sym (first.linked id is)) is) ∙ first.linked id is;
  fewer = λ id is. ⊎_elim (λ (h : IsSome (value_at nat_cmp id l)). first.fewer id h) (λ (h : IsSome (given (value_at nat_cmp id changes))). inr h) (second.fewer id is);
}

-- room stays
room_stays : (changes : Changes) (old now : Snaps) (was pairs : Pairs) (before links : AllLinks) (id : ℕ) (gets : Option Snap) → IsEntered changes old now was pairs before links → HasRoom old was before id gets → HasRoom now pairs links id gets
room_stays changes old now was pairs before links id gets entered room = record {
  there = λ is. entered.there id (room.there is);
  linked = λ is. subst IsSome (sym (entered.linked id (room.linked is))) (room.linked is);
  named = λ named is. entered.kept named id (room.named named is);
}

-- an id that isn't changed needs none
no_room : (now : Snaps) (pairs : Pairs) (links : AllLinks) (id : ℕ) (o : Option Change) → (IsSome o → ⊥) → HasRoom now pairs links id (given o)
no_room now pairs links id None none = record { there = λ is. absurd (cc); linked = λ is. absurd (cc); named = λ named is. absurd (cc) }
no_room now pairs links id (Some change) none = absurd (none refl)

pub room_down : (changes : Changes) (old now : Snaps) (was pairs : Pairs) (before links : AllLinks) (next later : Option ℕ) (id : ℕ) → next ≡ Some id → IsEntered changes old now was pairs before links
    → ((x : ℕ) → IsPast next x → HasRoom old was before x (given (value_at nat_cmp x changes))) → HasRoom now pairs links id (given (value_at nat_cmp id changes))
    → ((x : ℕ) → x < id → IsPast later x → IsSome (value_at nat_cmp x changes) → ⊥)
    → (x : ℕ) → IsPast later x → HasRoom now pairs links x (given (value_at nat_cmp x changes))
room_down changes old now was pairs before links next later id is entered above here between =
    step_down (λ x. HasRoom now pairs links x (given (value_at nat_cmp x changes))) next later id is
    (λ x past. room_stays changes old now was pairs before links x (given (value_at nat_cmp x changes)) entered (above x past)) here
    (λ x lt past. no_room now pairs links x (value_at nat_cmp x changes) (between x lt past))

-- an id whose change is made is settled
pub settled_one : (forth : Bool) (old now : Snaps) (was pairs : Pairs) (before links : AllLinks) (id : ℕ) (o : Option Change) (change : Change) → IsMap nat_cmp old → o ≡ Some change → now ≡ put_at nat_cmp id (picked forth change) old
    → ((named namer : ℕ) → has_pair pairs named namer ≡ (has_pair was named namer && not (namer == id && names named (picked (not forth) change) && not (names named (picked forth change)))))
    → value_at nat_cmp id links ≡ linked_if (picked forth change) (value_at nat_cmp id before) → SettledAt forth old now was pairs before links id o
settled_one forth old now was pairs before links id o change rises is put dropped linked =
    subst (SettledAt forth old now was pairs before links id) (sym is) (
      ap (value_at nat_cmp id) put ∙ put_here old id (picked forth change) rises,
      λ named. dropped named id ∙ ap (λ b. has_pair was named id && not (b && names named (picked (not forth) change) && not (names named (picked forth change)))) (eq-eqb id id refl),
      linked,
    )

-- links of an id with a record stay, and those of one without go
pub links_stay : (o : Option Snap) (links : Option Links) → is_some o ≡ true → links ≡ linked_if o links
links_stay None links some = absurd (cc)
links_stay (Some snap) links some = refl

pub links_go : (o : Option Snap) (links : Option Links) → is_some o ≡ false → None ≡ linked_if o links
links_go None links none = refl
links_go (Some snap) links none = absurd (cc)

-- of two records the one that stays tells what is noted, where it was noted and nothing was that neither of them names
pub stays_noted : (noted gone stays : Bool) → (stays ≡ true → noted ≡ true) → (noted ≡ true → (gone ≡ true) ⊎ (stays ≡ true)) → (noted && not (gone && not stays)) ≡ stays
stays_noted true true true a b = refl
stays_noted true false true a b = refl
stays_noted true true false a b = refl
stays_noted true false false a b = ⊎_elim (λ h. absurd (cc (h))) (λ h. absurd (cc (h))) (b refl)
stays_noted false gone true a b = absurd (cc (a refl))
stays_noted false gone false a b = refl

pub none_from : {A : Type 0} (o : Option A) → is_some o ≡ false → o ≡ None
none_from None is = refl
none_from (Some x) is = absurd (cc)

pub not_at : (id other : ℕ) → (other ≡ id → ⊥) → is_at (nat_cmp id) other ≡ false
not_at id other differs = same_test id other ∙ ne_eqb other id differs

-- what is settled stays so where an id is left as it is
settled_kept : (forth : Bool) (old mid now : Snaps) (was between pairs : Pairs) (before amid links : AllLinks) (id : ℕ) (o : Option Change) → value_at nat_cmp id now ≡ value_at nat_cmp id mid → ((named : ℕ) → has_pair pairs named id ≡ has_pair between named id)
    → value_at nat_cmp id links ≡ value_at nat_cmp id amid → SettledAt forth old mid was between before amid id o → SettledAt forth old now was pairs before links id o
settled_kept forth old mid now was between pairs before amid links id None same pair linked settled = (same ∙ settled.0, λ named. pair named ∙ settled.1 named, linked ∙ settled.2)
settled_kept forth old mid now was between pairs before amid links id (Some change) same pair linked settled = (same ∙ settled.0, λ named. pair named ∙ settled.1 named, linked ∙ settled.2)

-- and is so of what was there first where it was left as it was
settled_from : (forth : Bool) (old mid now : Snaps) (was between pairs : Pairs) (before amid links : AllLinks) (id : ℕ) (o : Option Change) → value_at nat_cmp id mid ≡ value_at nat_cmp id old → ((named : ℕ) → has_pair between named id ≡ has_pair was named id)
    → value_at nat_cmp id amid ≡ value_at nat_cmp id before → SettledAt forth mid now between pairs amid links id o → SettledAt forth old now was pairs before links id o
settled_from forth old mid now was between pairs before amid links id None same pair linked settled = (settled.0 ∙ same, λ named. settled.1 named ∙ pair named, settled.2 ∙ linked)
settled_from forth old mid now was between pairs before amid links id (Some change) same pair linked settled =
    (settled.0, λ named. settled.1 named ∙ ap (λ b. b && not (names named (picked (not forth) change) && not (names named (picked forth change)))) (pair named), settled.2 ∙ ap (linked_if (picked forth change)) linked)

settled_none : (forth : Bool) (old now : Snaps) (was pairs : Pairs) (before links : AllLinks) (id : ℕ) (o : Option Change) → (IsSome o → ⊥) → value_at nat_cmp id now ≡ value_at nat_cmp id old → ((named : ℕ) → has_pair pairs named id ≡ has_pair was named id)
    → value_at nat_cmp id links ≡ value_at nat_cmp id before → SettledAt forth old now was pairs before links id o
settled_none forth old now was pairs before links id None none same pair linked = (same, pair, linked)
settled_none forth old now was pairs before links id (Some change) none same pair linked = absurd (none refl)

-- an id that is there once it is settled has the links that it had
pub settled_links : (forth : Bool) (old now : Snaps) (was pairs : Pairs) (before links : AllLinks) (id : ℕ) (o : Option Change) → SettledAt forth old now was pairs before links id o → IsSome (value_at nat_cmp id now) → value_at nat_cmp id links ≡ value_at nat_cmp id before
settled_links forth old now was pairs before links id None settled there = settled.2
settled_links forth old now was pairs before links id (Some change) settled there = settled.2 ∙ sym (links_stay (picked forth change) (value_at nat_cmp id before) (subst IsSome settled.0 there))

-- what isn't past the next id is below this one
pub lower : (later : Option ℕ) (id x : ℕ) → IfSome later (λ l. l < id) → (IsPast later x → ⊥) → x < id
lower None id x within past = absurd (past tt)
lower (Some l) id x within past = ⊎_elim (λ (lt : l < x). absurd (past lt)) (λ (le : x ≤ l). omega (arith, le, within)) (cases_lt l x)

-- What is settled from the greatest id downwards, and how it stands with the rest.
pub settled_down : (forth : Bool) (changes : Changes) (old mid now : Snaps) (was between pairs : Pairs) (before amid links : AllLinks) (next later : Option ℕ) (id : ℕ) → next ≡ Some id
    → ((x : ℕ) → IsPast next x → SettledAt forth old mid was between before amid x (value_at nat_cmp x changes))
    → ((x : ℕ) → (IsPast next x → ⊥) → value_at nat_cmp x mid ≡ value_at nat_cmp x old)
    → ((named x : ℕ) → (IsPast next x → ⊥) → has_pair between named x ≡ has_pair was named x)
    → ((x : ℕ) → (IsPast next x → ⊥) → value_at nat_cmp x amid ≡ value_at nat_cmp x before)
    → SettledAt forth mid now between pairs amid links id (value_at nat_cmp id changes)
    → ((x : ℕ) → (x ≡ id → ⊥) → value_at nat_cmp x now ≡ value_at nat_cmp x mid)
    → ((named x : ℕ) → (x ≡ id → ⊥) → has_pair pairs named x ≡ has_pair between named x)
    → ((x : ℕ) → (x ≡ id → ⊥) → value_at nat_cmp x links ≡ value_at nat_cmp x amid)
    → ((x : ℕ) → x < id → IsPast later x → IsSome (value_at nat_cmp x changes) → ⊥)
    → (x : ℕ) → IsPast later x → SettledAt forth old now was pairs before links x (value_at nat_cmp x changes)
settled_down forth changes old mid now was between pairs before amid links next later id is above records noted linked here others kept still unchanged =
    step_down (λ x. SettledAt forth old now was pairs before links x (value_at nat_cmp x changes)) next later id is
    (λ x past. let ne : x ≡ id → ⊥ = λ e. not_past (subst (λ n. id < n) e (subst (λ o. IsPast o x) is past)) in
    settled_kept forth old mid now was between pairs before amid links x (value_at nat_cmp x changes) (others x ne) (λ named. kept named x ne) (still x ne) (above x past))
    (settled_from forth old mid now was between pairs before amid links id (value_at nat_cmp id changes) (records id (at_or_below id (λ lt. omega (arith, lt)))) (λ named. noted named id (at_or_below id (λ lt. omega (arith, lt)))) (linked id (at_or_below id (λ lt. omega (arith, lt)))) here)
    (λ x lt past. let ne : x ≡ id → ⊥ = λ e. omega (arith, lt, e) in let low = at_or_below x (λ up. omega (arith, lt, up)) in
    settled_none forth old now was pairs before links x (value_at nat_cmp x changes) (unchanged x lt past) (others x ne ∙ records x low) (λ named. kept named x ne ∙ noted named x low) (still x ne ∙ linked x low))
  where
    not_past : id < id → ⊥
    not_past lt = omega (arith, lt)

    at_or_below : (x : ℕ) → (id < x → ⊥) → IsPast next x → ⊥
    at_or_below x low past = low (subst (λ o. IsPast o x) is past)

module _ (changes : Changes) (old mid now : Snaps) (was between pairs : Pairs) (before amid links : AllLinks) (entered : IsEntered changes old mid was between before amid) (index : IsIndex old was) (tells : Tells old changes) where
  -- what is noted of an id was noted before, or it gets a record that names so
  only_from : (named id : ℕ) (change : Change) → value_at nat_cmp id changes ≡ Some change → has_pair between named id ≡ true → (names named change.old ≡ true) ⊎ (names named change.new ≡ true)
  only_from named id change at is =
      ⊎_elim (λ (h : has_pair was named id ≡ true). inl (ap (names named) (tells id change at) ∙ sym (index named id) ∙ h)) (λ (h : names named (given (value_at nat_cmp id changes)) ≡ true). inr (ap (λ o. names named (given o)) (sym at) ∙ h)) (entered.only named id is)

  kept_from : (named id : ℕ) (change : Change) → value_at nat_cmp id changes ≡ Some change → names named change.old ≡ true → has_pair between named id ≡ true
  kept_from named id change at is = entered.kept named id (index named id ∙ ap (names named) (sym (tells id change at)) ∙ is)

  -- what is noted of an id that isn't changed was noted before
  unchanged_pair : (named id : ℕ) → value_at nat_cmp id changes ≡ None → has_pair between named id ≡ names named (value_at nat_cmp id mid)
  unchanged_pair named id at = alike (has_pair between named id) refl (has_pair was named id) refl ∙ index named id ∙ ap (names named) (sym (entered.others id (ap is_new at)))
    where
      alike : (b : Bool) → has_pair between named id ≡ b → (a : Bool) → has_pair was named id ≡ a → b ≡ a
      alike true is true e = refl
      alike false is false e = refl
      alike false is true e = absurd (cc (entered.kept named id e, is))
      alike true is false e = ⊎_elim (λ (h : has_pair was named id ≡ true). absurd (cc (h, e))) (λ (h : names named (given (value_at nat_cmp id changes)) ≡ true). absurd (cc (h, ap (λ o. names named (given o)) at))) (entered.only named id is)

  -- after changes were made the pairs are those of the records
  pub index_forth : ((id : ℕ) → HasRoom mid between amid id (given (value_at nat_cmp id changes))) → ((id : ℕ) → SettledAt true mid now between pairs amid links id (value_at nat_cmp id changes)) → IsIndex now pairs
  index_forth room settled named id = here (value_at nat_cmp id changes) refl (settled id)
    where
      here : (o : Option Change) → value_at nat_cmp id changes ≡ o → SettledAt true mid now between pairs amid links id o → has_pair pairs named id ≡ names named (value_at nat_cmp id now)
      here None at s = s.1 named ∙ unchanged_pair named id at ∙ ap (names named) (sym s.0)
      here (Some change) at s =
          s.1 named ∙ stays_noted (has_pair between named id) (names named change.old) (names named change.new) (λ is. (room id).named named (ap (λ o. names named (given o)) at ∙ is)) (only_from named id change at) ∙ ap (names named) (sym s.0)

  -- and so they are where they were taken back
  pub index_back : ((id : ℕ) → SettledAt false mid now between pairs amid links id (value_at nat_cmp id changes)) → IsIndex now pairs
  index_back settled named id = here (value_at nat_cmp id changes) refl (settled id)
    where
      here : (o : Option Change) → value_at nat_cmp id changes ≡ o → SettledAt false mid now between pairs amid links id o → has_pair pairs named id ≡ names named (value_at nat_cmp id now)
      here None at s = s.1 named ∙ unchanged_pair named id at ∙ ap (names named) (sym s.0)
      here (Some change) at s =
          s.1 named ∙ stays_noted (has_pair between named id) (names named change.new) (names named change.old) (λ is. kept_from named id change at is) (λ is. ⊎_elim (λ (h : names named change.old ≡ true). inr h) (λ (h : names named change.new ≡ true). inl h) (only_from named id change at is)) ∙ ap (names named) (sym s.0)

  -- the records are those that the changes lead to
  pub records_forth : (new : Snaps) → IsMap nat_cmp new → IsMap nat_cmp now → Leads old new changes → ((id : ℕ) → SettledAt true mid now between pairs amid links id (value_at nat_cmp id changes)) → now ≡ new
  records_forth new rises up leads settled = map_ext now new up rises (λ id. here id (value_at nat_cmp id changes) refl (settled id))
    where
      here : (id : ℕ) (o : Option Change) → value_at nat_cmp id changes ≡ o → SettledAt true mid now between pairs amid links id o → value_at nat_cmp id now ≡ value_at nat_cmp id new
      here id None at s = s.0 ∙ entered.others id (ap is_new at) ∙ sym (leads.same id at)
      here id (Some change) at s = s.0 ∙ leads.gets id change at

  -- and the old ones where they were taken back
  pub records_back : IsMap nat_cmp old → IsMap nat_cmp now → ((id : ℕ) → SettledAt false mid now between pairs amid links id (value_at nat_cmp id changes)) → now ≡ old
  records_back rises up settled = map_ext now old up rises (λ id. here id (value_at nat_cmp id changes) refl (settled id))
    where
      here : (id : ℕ) (o : Option Change) → value_at nat_cmp id changes ≡ o → SettledAt false mid now between pairs amid links id o → value_at nat_cmp id now ≡ value_at nat_cmp id old
      here id None at s = s.0 ∙ entered.others id (ap is_new at)
      here id (Some change) at s = s.0 ∙ tells id change at

  -- the ids that are there have the links that they had
  pub links_kept : (forth : Bool) → ((id : ℕ) → SettledAt forth mid now between pairs amid links id (value_at nat_cmp id changes)) → (id : ℕ) → IsSome (value_at nat_cmp id now) → IsSome (value_at nat_cmp id before) → value_at nat_cmp id links ≡ value_at nat_cmp id before
  links_kept forth settled id there had = settled_links forth mid now between pairs amid links id (value_at nat_cmp id changes) (settled id) there ∙ entered.linked id had

  module _ (ids : HaveSameIds old before) where
    -- room for links that is made is for changed ids
    amid_same : (id : ℕ) → value_at nat_cmp id changes ≡ None → is_some (value_at nat_cmp id amid) ≡ is_some (value_at nat_cmp id mid)
    amid_same id at = alike (is_some (value_at nat_cmp id amid)) refl (is_some (value_at nat_cmp id before)) refl ∙ ids id ∙ ap is_some (sym (entered.others id (ap is_new at)))
      where
        alike : (b : Bool) → is_some (value_at nat_cmp id amid) ≡ b → (a : Bool) → is_some (value_at nat_cmp id before) ≡ a → b ≡ a
        alike true is true e = refl
        alike false is false e = refl
        alike false is true e = absurd (cc (ap is_some (entered.linked id e), e, is))
        alike true is false e = ⊎_elim (λ (h : IsSome (value_at nat_cmp id before)). absurd (cc (h, e))) (λ (h : IsSome (given (value_at nat_cmp id changes))). absurd (cc (h, ap (λ o. is_some (given o)) at))) (entered.fewer id is)

    settled_ids : (forth : Bool) → ((id : ℕ) (change : Change) → value_at nat_cmp id changes ≡ Some change → IsSome (picked forth change) → IsSome (value_at nat_cmp id amid)) → ((id : ℕ) → SettledAt forth mid now between pairs amid links id (value_at nat_cmp id changes)) → HaveSameIds now links
    settled_ids forth room settled id = here (value_at nat_cmp id changes) refl (settled id)
      where
        both : (o : Option Snap) (l : Option Links) → (IsSome o → IsSome l) → is_some (linked_if o l) ≡ is_some o
        both None l some = refl
        both (Some snap) l some = some refl

        here : (o : Option Change) → value_at nat_cmp id changes ≡ o → SettledAt forth mid now between pairs amid links id o → is_some (value_at nat_cmp id links) ≡ is_some (value_at nat_cmp id now)
        here None at s = ap is_some s.2 ∙ amid_same id at ∙ ap is_some (sym s.0)
        here (Some change) at s = ap is_some s.2 ∙ both (picked forth change) (value_at nat_cmp id amid) (room id change at) ∙ ap is_some (sym s.0)

    -- the ids with links are those that are there
    pub ids_forth : ((id : ℕ) → HasRoom mid between amid id (given (value_at nat_cmp id changes))) → ((id : ℕ) → SettledAt true mid now between pairs amid links id (value_at nat_cmp id changes)) → HaveSameIds now links
    ids_forth room settled = settled_ids true (λ id change at some. (room id).linked (subst (λ o. IsSome (given o)) (sym at) some)) settled

    pub ids_back : ((id : ℕ) → SettledAt false mid now between pairs amid links id (value_at nat_cmp id changes)) → HaveSameIds now links
    ids_back settled = settled_ids false (λ id change at some. let had : IsSome (value_at nat_cmp id before) = ids id ∙ ap is_some (sym (tells id change at)) ∙ some in ap is_some (entered.linked id had) ∙ had) settled
