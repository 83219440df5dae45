-- The changes that updates make, each id once: how they go on by one update, and when what they lead to makes trees.
use Rattle.std.proofs.Common.{◌≡◌, ℕ, Bool, true, false, cond, Option, Some, None, [], refl, sym, ap, ◌∙◌, subst, ⊎_elim, inl, inr}
use Rattle.std.specs.Prelude.{◌⊎◌, ◌==◌, ◌&&◌, ◌||◌, not, IsSome, is_some}
use Rattle.std.specs.BTreeMap.{is_at}
use Rattle.std.specs.Ordering.{nat_cmp}
use Rattle.std.proofs.lemmas.Bool.{eqb-true, eq-eqb, ne_eqb}
use Rattle.std.proofs.lemmas.Option.{same_Some, none-some as none_some}
use Rattle.vol_types.specs.Maps.{IsMap, value_at}
use Rattle.vol_types.specs.declared.keys.Update.{Update}
use Rattle.vol_types.specs.declared.values.Snap.{Snap}
use Rattle.vol_types.specs.declared.values.Value.{Value}
use Rattle.vol_types.specs.declared.values.Value.TheVariants as values
use Rattle.snap_tree.specs.Snaps.{Snaps, IsSnapTree, snap_of, is_there, is_joined, are_trees}
use Rattle.snap_tree.specs.Names.{Pairs, has_pair, names, IsIndex}
use Rattle.snap_tree.specs.Updates.{IsFitting, is_of_snaps, with_change, with_update}
use Rattle.snap_tree.specs.Changes.{changed_id, Changes, Leads, AreSmall, IsHeld, FitsIn, ChangeFits}
use Rattle.snap_tree.specs.declared.change.Change.{Change}
use Rattle.snap_tree.specs.MapLaws.{value_at-with, value_at-without, trees_from_found}
use Rattle.snap_tree.specs.ChainLaws.{same_test}
use Rattle.snap_tree.specs.TreeLaws.{found_joined, Joins, joins, joined_from, there_from_found}

flip : (a b : ℕ) → (a == b) ≡ (b == a)
flip a b = here (a == b) refl
  where
    here : (t : Bool) → (a == b) ≡ t → t ≡ (b == a)
    here true at = sym (eq-eqb b a (sym (eqb-true a b at)))
    here false at = sym (ne_eqb b a (λ e. absurd (cc (at, eq-eqb a b (sym e)))))

-- what is found after the record of one id is changed
pub found_after : (snaps : Snaps) (id : ℕ) (v : Option Value) (x : ℕ) → IsMap nat_cmp snaps → (v ≡ None) ⊎ IsSome (snap_of v) → value_at nat_cmp x (with_change snaps id v) ≡ cond (id == x) (snap_of v) (value_at nat_cmp x snaps)
found_after snaps id None x rises fits = value_at-without snaps id x rises
found_after snaps id (Some (values.Snap snap)) x rises fits = value_at-with snaps id x snap
found_after snaps id (Some other) x rises (inl none) = absurd (none_some other (sym none))
found_after snaps id (Some other) x rises (inr some) = absurd (cc)

-- no changes lead to the same records
pub leads_none : (old : Snaps) (changes : Changes) → changes ≡ [] → Leads old old changes
leads_none old changes none = record {
  was = λ id change is. absurd (none_some change (sym (ap (value_at nat_cmp id) none) ∙ is));
  gets = λ id change is. absurd (none_some change (sym (ap (value_at nat_cmp id) none) ∙ is));
  same = λ id none. refl;
}

module _ (old mid : Snaps) (was now : Changes) (rises : IsMap nat_cmp mid) (leads : Leads old mid was) (id : ℕ) (v : Option Value) (change : Change)
    (fits : (v ≡ None) ⊎ IsSome (snap_of v)) (had : change.old ≡ value_at nat_cmp id old) (gets : change.new ≡ snap_of v)
    (updated : (q : ℕ) → value_at nat_cmp q now ≡ cond (is_at (nat_cmp id) q) (Some change) (value_at nat_cmp q was)) where
  found : (x : ℕ) → value_at nat_cmp x now ≡ cond (x == id) (Some change) (value_at nat_cmp x was)
  found x = updated x ∙ ap (λ t. cond t (Some change) (value_at nat_cmp x was)) (same_test id x)

  after : (x : ℕ) → value_at nat_cmp x (with_change mid id v) ≡ cond (x == id) (snap_of v) (value_at nat_cmp x mid)
  after x = found_after mid id v x rises fits ∙ ap (λ t. cond t (snap_of v) (value_at nat_cmp x mid)) (flip id x)

  pub leads_on : Leads old (with_change mid id v) now
  leads_on = record {
    was = λ x c is. was_at x c (x == id) refl (sym (found x) ∙ is);
    gets = λ x c is. gets_at x c (x == id) refl (sym (found x) ∙ is);
    same = λ x none. same_at x (x == id) refl (sym (found x) ∙ none);
  }
    where
      was_at : (x : ℕ) (c : Change) (t : Bool) → (x == id) ≡ t → cond t (Some change) (value_at nat_cmp x was) ≡ Some c → c.old ≡ value_at nat_cmp x old
      was_at x c true at is = ap (λ (d : Change). d.old) (sym (same_Some change c is)) ∙ had ∙ ap (λ n. value_at nat_cmp n old) (sym (eqb-true x id at))
      was_at x c false at is = leads.was x c is

      gets_at : (x : ℕ) (c : Change) (t : Bool) → (x == id) ≡ t → cond t (Some change) (value_at nat_cmp x was) ≡ Some c → c.new ≡ value_at nat_cmp x (with_change mid id v)
      gets_at x c true at is = ap (λ (d : Change). d.new) (sym (same_Some change c is)) ∙ gets ∙ sym (after x ∙ ap (λ t. cond t (snap_of v) (value_at nat_cmp x mid)) at)
      gets_at x c false at is = leads.gets x c is ∙ sym (after x ∙ ap (λ t. cond t (snap_of v) (value_at nat_cmp x mid)) at)

      same_at : (x : ℕ) (t : Bool) → (x == id) ≡ t → cond t (Some change) (value_at nat_cmp x was) ≡ None → value_at nat_cmp x (with_change mid id v) ≡ value_at nat_cmp x old
      same_at x true at is = absurd (none_some change (sym is))
      same_at x false at is = after x ∙ ap (λ t. cond t (snap_of v) (value_at nat_cmp x mid)) at ∙ leads.same x is

-- an update of an id goes on with the changes
pub leads_update : (old mid : Snaps) (was now : Changes) (update : Update) (id : ℕ) (change : Change) → IsMap nat_cmp mid → Leads old mid was → changed_id update ≡ Some id → IsFitting update
    → change.old ≡ value_at nat_cmp id old → change.new ≡ snap_of update.value
    → ((q : ℕ) → value_at nat_cmp q now ≡ cond (is_at (nat_cmp id) q) (Some change) (value_at nat_cmp q was)) → Leads old (with_update mid update) now
leads_update old mid was now update id change rises leads is fitting had gets updated = here (is_of_snaps update) refl is
  where
    here : (b : Bool) → is_of_snaps update ≡ b → cond b (Some update.pos.offset) None ≡ Some id → Leads old (cond b (with_change mid update.pos.offset update.value) mid) now
    here false at is = absurd (none_some id is)
    here true at is =
        let e : update.pos.offset ≡ id = same_Some update.pos.offset id is in
        subst (λ n. Leads old (with_change mid n update.value) now) (sym e) (leads_on old mid was now rises leads id update.value change (fitting at).snap had gets updated)

-- and one of something else leaves them
pub leads_past : (old mid : Snaps) (changes : Changes) (update : Update) → Leads old mid changes → changed_id update ≡ None → Leads old (with_update mid update) changes
leads_past old mid changes update leads is = here (is_of_snaps update) is
  where
    here : (b : Bool) → cond b (Some update.pos.offset) None ≡ None → Leads old (cond b (with_change mid update.pos.offset update.value) mid) changes
    here false is = leads
    here true is = absurd (none_some update.pos.offset (sym is))

-- an id that a record names isn't 0
names_there : (q : ℕ) (snap : Snap) → (q == 0) ≡ false → (snap.parent ≡ q) ⊎ ((snap.first_child ≡ q) ⊎ (snap.second_child ≡ q)) → names q (Some snap) ≡ true
names_there q snap some (inl is) = ap (λ t. not t && (snap.parent == q || snap.first_child == q || snap.second_child == q)) some ∙ ap (λ t. t || snap.first_child == q || snap.second_child == q) (eq-eqb snap.parent q is)
names_there q snap some (inr (inl is)) = ap (λ t. not t && (snap.parent == q || snap.first_child == q || snap.second_child == q)) some ∙ ap (λ t. snap.parent == q || t || snap.second_child == q) (eq-eqb snap.first_child q is) ∙ last (snap.parent == q) (snap.second_child == q)
  where
    last : (a b : Bool) → (a || true || b) ≡ true
    last true b = refl
    last false b = refl
names_there q snap some (inr (inr is)) = ap (λ t. not t && (snap.parent == q || snap.first_child == q || snap.second_child == q)) some ∙ ap (λ t. snap.parent == q || snap.first_child == q || t) (eq-eqb snap.second_child q is) ∙ last (snap.parent == q) (snap.first_child == q)
  where
    last : (a b : Bool) → (a || b || true) ≡ true
    last true b = refl
    last false true = refl
    last false false = refl

unless_true : (b : Bool) → (b ≡ true → ⊥) → b ≡ false
unless_true true never = absurd (never refl)
unless_true false _ = refl

module _ (old new : Snaps) (pairs : Pairs) (changes : Changes) (index : IsIndex old pairs) (leads : Leads old new changes) where
  module _ (tree : IsSnapTree old) (small : AreSmall old) (rises : IsMap nat_cmp new) (fits : (id : ℕ) → ChangeFits new pairs changes id (value_at nat_cmp id changes)) where
    -- what a record that stays names is there
    still_there : (x : ℕ) (snap : Snap) (q : ℕ) → value_at nat_cmp x old ≡ Some snap → value_at nat_cmp x changes ≡ None → (snap.parent ≡ q) ⊎ ((snap.first_child ≡ q) ⊎ (snap.second_child ≡ q)) → is_there old q ≡ true → is_there new q ≡ true
    still_there x snap q is stays named there = zero (q == 0) refl there
      where
        gone : (change : Change) (o : Option Snap) → change.new ≡ o → value_at nat_cmp q changes ≡ Some change → FitsIn new pairs changes q o → (q == 0) ≡ false → IsSome (value_at nat_cmp q new)
        gone change (Some snap) gets at fit some = subst IsSome (sym gets ∙ leads.gets q change at) refl
        gone change None gets at fit some =
            let is_named : has_pair pairs q x ≡ true = index q x ∙ ap (names q) is ∙ names_there q snap some named in
            let changed : IsSome (value_at nat_cmp x changes) = fit x (small x (ap is_some is)) is_named in
            absurd (cc (changed, ap is_some stays))

        here : (o : Option Change) → value_at nat_cmp q changes ≡ o → ChangeFits new pairs changes q o → (q == 0) ≡ false → IsSome (value_at nat_cmp q old) → IsSome (value_at nat_cmp q new)
        here None at fit some was = ap is_some (leads.same q at) ∙ was
        here (Some change) at fit some was = gone change change.new refl at fit some

        zero : (t : Bool) → (q == 0) ≡ t → (t || is_some (value_at nat_cmp q old)) ≡ true → (q == 0 || is_some (value_at nat_cmp q new)) ≡ true
        zero true at there = ap (λ t. t || is_some (value_at nat_cmp q new)) at
        zero false at there = there_from_found new q (here (value_at nat_cmp q changes) refl (fits q) at there)

    joined : (x : ℕ) (snap : Snap) → value_at nat_cmp x new ≡ Some snap → (o : Option Change) → value_at nat_cmp x changes ≡ o → ChangeFits new pairs changes x o → is_joined new x snap ≡ true
    joined x snap is (Some change) at fit = subst (FitsIn new pairs changes x) (leads.gets x change at ∙ is) fit
    joined x snap is None at fit =
        let was : value_at nat_cmp x old ≡ Some snap = sym (leads.same x at) ∙ is in
        let parts : Joins old x snap = joins old x snap (found_joined old old x snap tree.trees was) in
        joined_from new x snap (still_there x snap snap.parent was at (inl refl) parts.parent) parts.above (still_there x snap snap.first_child was at (inr (inl refl)) parts.first) (still_there x snap snap.second_child was at (inr (inr refl)) parts.second)

    -- records that changes lead to are trees where each change fits
    pub stands : are_trees new ≡ true
    stands = trees_from_found new rises (λ x snap is. joined x snap is (value_at nat_cmp x changes) refl (fits x))

  -- they are none where a record that an id gets isn't joined
  pub breaks_joined : (id : ℕ) (change : Change) (snap : Snap) → value_at nat_cmp id changes ≡ Some change → change.new ≡ Some snap → is_joined new id snap ≡ false → are_trees new ≡ false
  breaks_joined id change snap at gets apart =
      unless_true (are_trees new) (λ trees. absurd (cc (apart, found_joined new new id snap trees (sym (leads.gets id change at) ∙ gets))))

  -- and where one that stays names an id that goes
  pub breaks_held : (id : ℕ) (change : Change) → value_at nat_cmp id changes ≡ Some change → change.new ≡ None → IsHeld pairs changes id → are_trees new ≡ false
  breaks_held id change at gets held = unless_true (are_trees new) (λ trees. clash trees (value_at nat_cmp held.namer old) refl (sym (index id held.namer) ∙ held.named))
    where
      gone : (id == 0) ≡ false → is_there new id ≡ true → ⊥
      gone some there = cc (sym (ap (λ t. t || is_some (value_at nat_cmp id new)) some) ∙ there, ap is_some (sym (leads.gets id change at) ∙ gets))

      zero : (t : Bool) → (id == 0) ≡ t → (a b c : Bool) → (not t && (a || b || c)) ≡ true → (t ≡ false) × ((a ≡ true) ⊎ ((b ≡ true) ⊎ (c ≡ true)))
      zero true at a b c is = absurd (cc)
      zero false at true b c is = (refl, inl refl)
      zero false at false true c is = (refl, inr (inl refl))
      zero false at false false c is = (refl, inr (inr is))

      clash : are_trees new ≡ true → (o : Option Snap) → value_at nat_cmp held.namer old ≡ o → names id o ≡ true → ⊥
      clash trees None is named = cc
      clash trees (Some snap) is named =
          let parts : Joins new held.namer snap = joins new held.namer snap (found_joined new new held.namer snap trees (leads.same held.namer held.stays ∙ is)) in
          let one = zero (id == 0) refl (snap.parent == id) (snap.first_child == id) (snap.second_child == id) named in
          gone one.0 (⊎_elim (λ (a : (snap.parent == id) ≡ true). subst (λ n. is_there new n ≡ true) (eqb-true snap.parent id a) parts.parent)
          (λ (rest : ((snap.first_child == id) ≡ true) ⊎ ((snap.second_child == id) ≡ true)). ⊎_elim (λ (b : (snap.first_child == id) ≡ true). subst (λ n. is_there new n ≡ true) (eqb-true snap.first_child id b) parts.first)
          (λ (c : (snap.second_child == id) ≡ true). subst (λ n. is_there new n ≡ true) (eqb-true snap.second_child id c) parts.second) rest) one.1)

-- an id that isn't changed fits
pub unchanged_fits : (new : Snaps) (pairs : Pairs) (changes : Changes) (id : ℕ) (o : Option Change) → (IsSome o → ⊥) → ChangeFits new pairs changes id o
unchanged_fits new pairs changes id None none = tt
unchanged_fits new pairs changes id (Some change) none = absurd (none refl)
