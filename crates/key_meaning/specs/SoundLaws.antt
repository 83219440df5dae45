-- What soundness says of snapshot ids: they form trees, no chain but its own has a live leaf, and no two subvolumes share one.
use Rattle.std.proofs.Common.{◌≡◌, ℕ, ◌+◌, ◌<◌, ◌≤◌, Bool, true, false, cond, Option, Some, None, List, [], ◌∷◌, ◌++◌, refl, sym, ap, ◌∙◌, subst, arith, ⊎_elim, inl, inr}
use Rattle.std.specs.Prelude.{◌≢◌, ◌⊎◌, ◌==◌, ◌||◌, nat_eq, nat_lt, is_some, IsSome, All, find, flat_map, count_by}
use Rattle.std.specs.BTreeMap.{is_at}
use Rattle.std.specs.List.{AllByRecursion, list_any}
use Rattle.std.specs.Ordering.{nat_cmp, is_eq}
use Rattle.std.specs.declared.cmp.Ordering.TheVariants.{Less}
use Rattle.std.proofs.lemmas.Bool.{eq-eqb, eqb-true, lt-ltb, ne_eqb, true≢false}
use Rattle.std.proofs.lemmas.Cmp.{ranked}
use Rattle.std.proofs.lemmas.List.Elements.{All-head, All-tail}
use Rattle.std.proofs.lemmas.List.Sums.{sum_by-cons}
use Rattle.std.proofs.lemmas.Map.Lookups.{exact_bytes}
use Rattle.std.proofs.lemmas.Option.{same_Some, none-some as none_some}
use Rattle.snap_tree.specs.ChainLaws.{chain_above_all, first_least, found_above, others_rise}
use Rattle.snap_tree.specs.MapLaws.{trees_from_found, value_at-cons}
use Rattle.snap_tree.specs.Snaps.{IsSnapTree, Snaps, chain_of, is_ancestor_of, is_joined, is_live, is_there}
use Rattle.snap_tree.specs.TreeLaws.{joined_from}
use Rattle.vol_digest.specs.Digests.{slot_of}
use Rattle.vol_types.specs.KeyMaps.{Entries, KeyMap, value_in}
use Rattle.vol_types.specs.Maps.{IsMap, value_at}
use Rattle.vol_types.specs.Positions.{pos_cmp}
use Rattle.vol_types.specs.Ranges.{name_cmp}
use Rattle.vol_types.specs.declared.positions.Btree.TheVariants.{Subvols}
use Rattle.vol_types.specs.declared.positions.Pos.{Pos}
use Rattle.vol_types.specs.declared.values.Snap.{Snap}
use Rattle.vol_types.specs.declared.values.SnapState.TheVariants.{LiveLeaf, Interior}
use Rattle.vol_types.specs.declared.values.Sub.{Sub}
use Rattle.vol_types.specs.declared.values.Value.{Value}
use Rattle.key_meaning.specs.Checks.{AreTreesJoined, DoLeavesMatch, IsJoined, IsLiveLeaf, IsSubvolume}
use Rattle.key_meaning.specs.Forest.{all_subs, sub_named, subs_in, subs_of}
use Rattle.key_meaning.specs.TableLaws.{same_key}
use Rattle.key_meaning.specs.Visible.{snaps_of}
use Rattle.key_meaning.specs.VisibleLaws.{snaps_of-rises}

-- a number that isn't 0 or leads to an id that is there
there_or_zero : (snaps : Snaps) (id : ℕ) → (id ≢ 0 → IsSome (value_at nat_cmp id snaps)) → is_there snaps id ≡ true
there_or_zero snaps id there = by (id == 0) refl
  where
    by : (b : Bool) → (id == 0) ≡ b → (b || is_some (value_at nat_cmp id snaps)) ≡ true
    by true is = refl
    by false is = there (λ zero. true≢false (sym (eq-eqb id 0 zero) ∙ is))

-- Ids that are joined form trees.
pub joined_are_trees : (keys : KeyMap) → AreTreesJoined keys → IsSnapTree (snaps_of keys)
joined_are_trees keys joined = record { rises = snaps_of-rises keys; trees = trees_from_found (snaps_of keys) (snaps_of-rises keys) each }
  where
    below : (id : ℕ) (snap : Snap) → IsJoined (snaps_of keys) id snap → (b : Bool) → (snap.parent == 0) ≡ b → (b || nat_lt id snap.parent) ≡ true
    below id snap is true zero = refl
    below id snap is false some = lt-ltb id snap.parent (is.parent (λ zero. true≢false (sym (eq-eqb snap.parent 0 zero) ∙ some))).greater

    each : (id : ℕ) (snap : Snap) → value_at nat_cmp id (snaps_of keys) ≡ Some snap → is_joined (snaps_of keys) id snap ≡ true
    each id snap found = let is = joined.each id snap found in
        joined_from (snaps_of keys) id snap
        (there_or_zero (snaps_of keys) snap.parent (λ some. ap is_some (is.parent some).found))
        (below id snap is (snap.parent == 0) refl)
        (there_or_zero (snaps_of keys) snap.first_child (λ some. ap is_some (is.first some).found))
        (there_or_zero (snaps_of keys) snap.second_child (λ some. ap is_some (is.second some).found))

-- An id below this one has it as its parent.
pub record HasChild (snaps : Snaps) (id : ℕ) : Type 0 where
  pub child : ℕ
  pub snap : Snap
  pub found : value_at nat_cmp child snaps ≡ Some snap
  pub parent : snap.parent ≡ id
  pub less : child < id

-- what is among numbers above another is above it
among_above : (k x : ℕ) (ids : List ℕ) → AllByRecursion (λ y. nat_cmp k y ≡ Less) ids → list_any (nat_eq x) ids ≡ true → k < x
among_above k x [] all among = absurd (true≢false (sym among))
among_above k x (y ∷ ids) all among = by (x == y) refl among (among_above k x ids all.1)
  where
    by : (b : Bool) → (x == y) ≡ b → (b || list_any (nat_eq x) ids) ≡ true → (list_any (nat_eq x) ids ≡ true → k < x) → k < x
    by true is among later = let same : x ≡ y = eqb-true x y is in let above : k < y = ranked k y Less (sym all.0) in omega (arith, same, above)
    by false is among later = later among

-- An ancestor of an id is the id itself, or has a child.
pub ancestor_has_child : (snaps : Snaps) (id other : ℕ) → IsMap nat_cmp snaps → is_ancestor_of snaps id other ≡ true → (other ≡ id) ⊎ HasChild snaps id
ancestor_has_child [] id other rises is = absurd (true≢false (sym is))
ancestor_has_child (e ∷ greater) id other rises is = by (e.0 == other) refl is (ancestor_has_child greater id other (others_rise e greater rises)) (ancestor_has_child greater id e.1.parent (others_rise e greater rises))
  where
    more : HasChild greater id → HasChild (e ∷ greater) id
    more has = record {
      child = has.child;
      snap = has.snap;
      found = value_at-cons e greater has.child ∙ ap (λ b. cond b (Some e.1) (value_at nat_cmp has.child greater)) (ne_eqb e.0 has.child (λ same. let up : e.0 < has.child = found_above e.0 has.child greater has.snap (first_least e greater rises) has.found in omega (arith, up, same))) ∙ has.found;
      parent = has.parent;
      less = has.less;
    }

    -- the first id, whose parent's chain has it
    first_has : is_ancestor_of greater id e.1.parent ≡ true → e.1.parent ≡ id → HasChild (e ∷ greater) id
    first_has among is = record {
      child = e.0;
      snap = e.1;
      found = value_at-cons e greater e.0 ∙ ap (λ b. cond b (Some e.1) (value_at nat_cmp e.0 greater)) (eq-eqb e.0 e.0 refl);
      parent = is;
      less = among_above e.0 id (chain_of greater e.1.parent) (chain_above_all e.0 e.1.parent greater (first_least e greater rises)) among;
    }

    begins : (b : Bool) → (id == other) ≡ b → (b || list_any (nat_eq id) (chain_of greater e.1.parent)) ≡ true → (is_ancestor_of greater id e.1.parent ≡ true → (e.1.parent ≡ id) ⊎ HasChild greater id) → (other ≡ id) ⊎ HasChild (e ∷ greater) id
    begins true same among above = inl (sym (eqb-true id other same))
    begins false apart among above = inr (⊎_elim (first_has among) more (above among))

    by : (b : Bool) → (e.0 == other) ≡ b → list_any (nat_eq id) (cond b (other ∷ chain_of greater e.1.parent) (chain_of greater other)) ≡ true
        → (is_ancestor_of greater id other ≡ true → (other ≡ id) ⊎ HasChild greater id) → (is_ancestor_of greater id e.1.parent ≡ true → (e.1.parent ≡ id) ⊎ HasChild greater id) → (other ≡ id) ⊎ HasChild (e ∷ greater) id
    by true at among later above = begins (id == other) refl among above
    by false at among later above = ⊎_elim (λ (same : other ≡ id). inl same) (λ (has : HasChild greater id). inr (more has)) (later among)

-- A live leaf has no child, and so is in no chain but its own.
pub leaf_is_alone : (keys : KeyMap) (id other : ℕ) → AreTreesJoined keys → IsLiveLeaf keys id → is_ancestor_of (snaps_of keys) id other ≡ true → other ≡ id
leaf_is_alone keys id other joined leaf is = ⊎_elim (λ (same : other ≡ id). same) (λ (has : HasChild (snaps_of keys) id). absurd (no_child has)) (ancestor_has_child (snaps_of keys) id other (snaps_of-rises keys) is)
  where
    not_interior : (snap : Snap) → snap.state ≡ LiveLeaf → snap.state ≢ Interior
    not_interior snap live interior = true≢false (ap is_live (sym live ∙ interior))

    no_child : HasChild (snaps_of keys) id → ⊥
    no_child has =
        let under = (joined.each has.child has.snap has.found).parent (λ zero. let less : has.child < id = has.less in let same : has.snap.parent ≡ id = has.parent in absurd (omega (arith, less, same, zero))) in
        let snap_is : under.snap ≡ leaf.snap = same_Some under.snap leaf.snap (sym under.found ∙ ap (λ i. value_at nat_cmp i (snaps_of keys)) has.parent ∙ leaf.found) in
        let children = (joined.each id leaf.snap leaf.found).leaf (not_interior leaf.snap leaf.live) in
        ⊎_elim (λ (first : under.snap.first_child ≡ has.child). under.some (sym first ∙ ap (λ (s : Snap). s.first_child) snap_is ∙ children.0))
        (λ (second : under.snap.second_child ≡ has.child). under.some (sym second ∙ ap (λ (s : Snap). s.second_child) snap_is ∙ children.1))
        under.named

-- The value is a member of the list.
abbrev pub IsIn : {X : Type 0} → X → List X → Type 0
IsIn x [] = ⊥
IsIn x (y ∷ ys) = (x ≡ y) ⊎ IsIn x ys

pub in_left : {X : Type 0} (x : X) (xs ys : List X) → IsIn x xs → IsIn x (xs ++ ys)
in_left x [] ys is = absurd is
in_left x (y ∷ xs) ys is = ⊎_elim (λ (same : x ≡ y). inl same) (λ (later : IsIn x xs). inr (in_left x xs ys later)) is

pub in_right : {X : Type 0} (x : X) (xs ys : List X) → IsIn x ys → IsIn x (xs ++ ys)
in_right x [] ys is = is
in_right x (y ∷ xs) ys is = inr (in_right x xs ys is)

-- What all members have, each has.
pub all_in : {X : Type 0} (P : X → Type 0) (x : X) (xs : List X) → All P xs → IsIn x xs → P x
all_in P x [] all is = absurd is
all_in P x (y ∷ xs) all is = ⊎_elim (λ (same : x ≡ y). subst P (sym same) (All-head P y xs all)) (λ (later : IsIn x xs). all_in P x xs (All-tail P y xs all) later) is

-- What is found is a member, and passes the test.
pub found_in : {X : Type 0} (test : X → Bool) (x : X) (xs : List X) → find test xs ≡ Some x → IsIn x xs × (test x ≡ true)
found_in test x [] found = absurd (none_some x found)
found_in test x (y ∷ xs) found = by (test y) refl found (found_in test x xs)
  where
    by : (b : Bool) → test y ≡ b → cond b (Some y) (find test xs) ≡ Some x → (find test xs ≡ Some x → IsIn x xs × (test x ≡ true)) → ((x ≡ y) ⊎ IsIn x xs) × (test x ≡ true)
    by true passes here later = let same = same_Some y x here in (inl (sym same), ap test (sym same) ∙ passes)
    by false passes here later = let rest = later here in (inr rest.0, rest.1)

-- A test that a member passes counts one at least.
counted : {X : Type 0} (test : X → Bool) (x : X) (xs : List X) → IsIn x xs → test x ≡ true → 1 ≤ count_by test xs
counted test x [] is passes = absurd is
counted test x (y ∷ xs) is passes = let whole : count_by test (y ∷ xs) ≡ cond {A = ℕ} (test y) 1 0 + count_by test xs = sum_by-cons (λ z. cond {A = ℕ} (test z) 1 0) y xs in
    ⊎_elim (λ (same : x ≡ y). let one : cond {A = ℕ} (test y) 1 0 ≡ 1 = ap (λ b. cond {A = ℕ} b 1 0) (ap test (sym same) ∙ passes) in omega (arith, whole, one))
    (λ (later : IsIn x xs). let rest : 1 ≤ count_by test xs = counted test x xs later passes in omega (arith, whole, rest)) is

-- Where a test counts one, members that pass it are the same.
pub one_of_each : {X : Type 0} (test : X → Bool) (x y : X) (xs : List X) → count_by test xs ≡ 1 → IsIn x xs → IsIn y xs → test x ≡ true → test y ≡ true → x ≡ y
one_of_each test x y [] one is other passes also = absurd is
one_of_each {X} test x y (z ∷ xs) one is other passes also = by (test z) refl (λ fewer later rest. one_of_each test x y xs fewer later rest passes also)
  where
    whole : count_by test (z ∷ xs) ≡ cond {A = ℕ} (test z) 1 0 + count_by test xs
    whole = sum_by-cons (λ w. cond {A = ℕ} (test w) 1 0) z xs

    -- the first one passes, so none of the others does
    first_alone : test z ≡ true → (v : X) → IsIn v xs → test v ≡ true → ⊥
    first_alone first v later passing =
        let rest : 1 ≤ count_by test xs = counted test v xs later passing in let head : cond {A = ℕ} (test z) 1 0 ≡ 1 = ap (λ b. cond {A = ℕ} b 1 0) first in absurd (omega (arith, whole, rest, head, one))

    by : (b : Bool) → test z ≡ b → (count_by test xs ≡ 1 → IsIn x xs → IsIn y xs → x ≡ y) → x ≡ y
    by true first among = ⊎_elim
        (λ (at : x ≡ z). ⊎_elim (λ (same : y ≡ z). at ∙ sym same) (λ (later : IsIn y xs). absurd (first_alone first y later also)) other)
        (λ (later : IsIn x xs). absurd (first_alone first x later passes))
        is
    by false first among = ⊎_elim
        (λ (at : x ≡ z). absurd (true≢false (sym passes ∙ ap test at ∙ first)))
        (λ (later : IsIn x xs). ⊎_elim
        (λ (at : y ≡ z). absurd (true≢false (sym also ∙ ap test at ∙ first)))
        (λ (rest : IsIn y xs). among (let head : cond {A = ℕ} (test z) 1 0 ≡ 0 = ap (λ b. cond {A = ℕ} b 1 0) first in omega (arith, whole, head, one)) later rest)
        other)
        is

-- A subvolume that a name leads to is one of all, and has this name.
pub sub_named-in : (keys : KeyMap) (name : List ℕ) (sub : Sub) → sub_named keys name ≡ Some sub → IsIn sub (all_subs keys) × (sub.name ≡ name)
sub_named-in keys name sub found =
    let has = found_in (λ (s : Sub). is_eq (name_cmp name s.name)) sub (subs_in keys (slot_of name)) found in
    (by (value_in keys Subvols (record { inode = 0; offset = slot_of name; snapshot = 0 })) refl has.0, sym (same_key exact_bytes name sub.name has.1))
  where
    in_entries : (pos : Pos) (value : Value) (entries : Entries) → value_at pos_cmp pos entries ≡ Some value → IsIn sub (subs_of (Some value)) → IsIn sub (flat_map (λ (entry : Pos × Value). subs_of (Some entry.1)) entries)
    in_entries pos value [] at is = absurd (none_some value at)
    in_entries pos value (e ∷ es) at is = here (is_at (pos_cmp pos) e.0) at (in_entries pos value es)
      where
        here : (b : Bool) → cond b (Some e.1) (value_at pos_cmp pos es) ≡ Some value → (value_at pos_cmp pos es ≡ Some value → IsIn sub (subs_of (Some value)) → IsIn sub (flat_map (λ (entry : Pos × Value). subs_of (Some entry.1)) es))
            → IsIn sub (subs_of (Some e.1) ++ flat_map (λ (entry : Pos × Value). subs_of (Some entry.1)) es)
        here true first later = in_left sub (subs_of (Some e.1)) (flat_map (λ (entry : Pos × Value). subs_of (Some entry.1)) es) (subst (λ (v : Value). IsIn sub (subs_of (Some v))) (sym (same_Some e.1 value first)) is)
        here false first later = in_right sub (subs_of (Some e.1)) (flat_map (λ (entry : Pos × Value). subs_of (Some entry.1)) es) (later first is)

    by : (value : Option Value) → value_in keys Subvols (record { inode = 0; offset = slot_of name; snapshot = 0 }) ≡ value → IsIn sub (subs_of value) → IsIn sub (all_subs keys)
    by None at is = absurd is
    by (Some value) at is = in_entries (record { inode = 0; offset = slot_of name; snapshot = 0 }) value keys.subvols at is

-- A subvolume that a name leads to has a live leaf, and its root is a directory there.
pub sub_named-is : (keys : KeyMap) (name : List ℕ) (sub : Sub) → DoLeavesMatch keys → sub_named keys name ≡ Some sub → IsSubvolume keys sub
sub_named-is keys name sub matching found = all_in (IsSubvolume keys) sub (all_subs keys) matching.subvolumes (sub_named-in keys name sub found).0

-- Subvolumes of one id are one.
pub ids_tell_apart : (keys : KeyMap) (name other : List ℕ) (sub another : Sub) → DoLeavesMatch keys → sub_named keys name ≡ Some sub → sub_named keys other ≡ Some another → another.id ≡ sub.id → name ≡ other
ids_tell_apart keys name other sub another matching found also same =
    let is = sub_named-in keys name sub found in
    let others = sub_named-in keys other another also in
    let one = one_of_each (λ (s : Sub). s.id == sub.id) sub another (all_subs keys) (matching.leaves sub.id (sub_named-is keys name sub matching found).leaf) is.0 others.0 (eq-eqb sub.id sub.id refl) (eq-eqb another.id sub.id same) in
    sym is.1 ∙ ap (λ (s : Sub). s.name) one ∙ others.1

-- The id of a subvolume is in no other subvolume's chain.
pub subvolumes_are_apart : (keys : KeyMap) (name other : List ℕ) (sub another : Sub) → AreTreesJoined keys → DoLeavesMatch keys → sub_named keys name ≡ Some sub → sub_named keys other ≡ Some another → (name ≡ other → ⊥) → is_ancestor_of (snaps_of keys) sub.id another.id ≡ false
subvolumes_are_apart keys name other sub another joined matching found also apart = by (is_ancestor_of (snaps_of keys) sub.id another.id) refl
  where
    by : (b : Bool) → is_ancestor_of (snaps_of keys) sub.id another.id ≡ b → b ≡ false
    by true is = absurd (apart (ids_tell_apart keys name other sub another matching found also (leaf_is_alone keys sub.id another.id joined (sub_named-is keys name sub matching found).leaf is)))
    by false is = refl
