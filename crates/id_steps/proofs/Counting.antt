-- There are as many live leaves as subvolumes: each leaf has one subvolume, and each subvolume has a leaf.
use Rattle.std.proofs.Common.{◌≡◌, ℕ, ◌+◌, ◌<◌, ◌≤◌, Bool, true, false, cond, Option, Some, None, List, [], ◌∷◌, length, refl, sym, ap, ◌∙◌, arith, map, ⊎_elim, inl, inr}
use Rattle.std.specs.Prelude.{◌==◌, ◌&&◌, All, count_by, option_map, sum_by, flat_map, ◌||◌}
use Rattle.std.specs.BTreeMap.{is_at}
use Rattle.std.specs.List.{list_any}
use Rattle.std.specs.Map.{keys_of, values_of}
use Rattle.std.specs.Ordering.{is_eq, match_ordering, nat_cmp}
use Rattle.std.specs.declared.cmp.Ordering.{Ordering}
use Rattle.std.specs.declared.cmp.Ordering.TheVariants.{Less, Equal, Greater}
use Rattle.std.proofs.lemmas.Bool.{eq-eqb, eqb-true, ne_eqb, true≢false}
use Rattle.std.proofs.lemmas.Cmp.{eq_by_cmp_equiv, nat_list_cmp_total}
use Rattle.std.proofs.lemmas.List.Elements.{All-head, All-tail}
use Rattle.std.proofs.lemmas.List.Sums.{sum_by-append, sum_by-cons}
use Rattle.std.proofs.lemmas.Map.{lookup-none}
use Rattle.std.proofs.lemmas.Map.Entries.{none_past_head}
use Rattle.std.proofs.lemmas.Map.Keys.{IsDistinct-from_sorted, sorted_tail}
use Rattle.std.proofs.lemmas.Map.Lookups.{exact_bytes}
use Rattle.std.proofs.lemmas.Option.{same_Some, none-some as none_some}
use Rattle.id_steps.proofs.Common.{count_none}
use Rattle.id_steps.proofs.Records.{at_place}
use Rattle.id_steps.proofs.Slots.{each_found}
use Rattle.key_meaning.specs.Checks.{DoLeavesMatch, IsSubvolume}
use Rattle.key_meaning.specs.Forest.{Read, all_subs, forest_in, sub_named, subs_in, subs_of, tree_named, tree_of}
use Rattle.key_meaning.specs.SoundLaws.{IsIn, all_in}
use Rattle.key_meaning.specs.TableLaws.{same_key, value_at-map_over}
use Rattle.key_meaning.specs.Tables.{map_over, with_any}
use Rattle.key_meaning.specs.Tidy.{AreKeysDrawn, AreNamesGood, HasGoodSubvolumes, IsKeyOf}
use Rattle.key_meaning.specs.Visible.{snaps_of}
use Rattle.key_meaning.specs.VisibleLaws.{snaps_of-rises}
use Rattle.forest_ops.specs.Names.{count_in_slot}
use Rattle.plain_forest.specs.Forest.{Tree}
use Rattle.plain_forest.specs.Names.{is_good_subvolume_name}
use Rattle.snap_tree.specs.ChainLaws.{first_least, found_above, others_rise}
use Rattle.snap_tree.specs.MapLaws.{value_at-cons}
use Rattle.snap_tree.specs.Snaps.{Snaps, is_live, live_leaves}
use Rattle.vol_digest.specs.Digests.{slot_of}
use Rattle.vol_types.specs.KeyMaps.{Entries, IsKeyMap, KeyMap}
use Rattle.vol_types.specs.Maps.{IsMap, value_at, with_value}
use Rattle.vol_types.specs.PositionLaws.{pos_total}
use Rattle.vol_types.specs.Positions.{pos_cmp}
use Rattle.vol_types.specs.Ranges.{name_cmp}
use Rattle.vol_types.specs.declared.positions.Btree.TheVariants.{Subvols}
use Rattle.vol_types.specs.declared.positions.Pos.{Pos}
use Rattle.vol_types.specs.declared.values.Snap.{Snap}
use Rattle.vol_types.specs.declared.values.SnapState.{SnapState}
use Rattle.vol_types.specs.declared.values.SnapState.TheVariants.{DeadLeaf, Interior, LiveLeaf}
use Rattle.vol_types.specs.declared.values.Sub.{Sub}
use Rattle.vol_types.specs.declared.values.Value.{Value}

-- how many of some subvolumes have this id
abbrev with_id : ℕ → List Sub → ℕ
with_id id subs = count_by (λ (sub : Sub). sub.id == id) subs

-- how many of some subvolumes have a live leaf, each as often as it has
abbrev of_leaf : List Sub → ℕ × Snap → ℕ
of_leaf subs entry = cond (is_live entry.1.state) (with_id entry.0 subs) 0

-- where each live leaf has one subvolume, these are as many as live leaves
leaves_counted : (subs : List Sub) (snaps : Snaps) → IsMap nat_cmp snaps → ((id : ℕ) (snap : Snap) → value_at nat_cmp id snaps ≡ Some snap → is_live snap.state ≡ true → with_id id subs ≡ 1) → live_leaves snaps ≡ sum_by (of_leaf subs) snaps
leaves_counted subs [] rises each = refl
leaves_counted subs (e ∷ es) rises each =
    let whole : live_leaves (e ∷ es) ≡ cond {A = ℕ} (is_live e.1.state) 1 0 + live_leaves es = sum_by-cons (λ (snap : Snap). cond {A = ℕ} (is_live snap.state) 1 0) e.1 (values_of es) in
    let sums : sum_by (of_leaf subs) (e ∷ es) ≡ of_leaf subs e + sum_by (of_leaf subs) es = sum_by-cons (of_leaf subs) e es in
    let rest : live_leaves es ≡ sum_by (of_leaf subs) es = leaves_counted subs es (others_rise e es rises) later in
    let first : cond {A = ℕ} (is_live e.1.state) 1 0 ≡ of_leaf subs e = by (is_live e.1.state) refl in
    omega (arith, whole, sums, rest, first)
  where
    later : (id : ℕ) (snap : Snap) → value_at nat_cmp id es ≡ Some snap → is_live snap.state ≡ true → with_id id subs ≡ 1
    later id snap is live = each id snap (value_at-cons e es id ∙ ap (λ b. cond b (Some e.1) (value_at nat_cmp id es)) (ne_eqb e.0 id (λ same. let up : e.0 < id = found_above e.0 id es snap (first_least e es rises) is in omega (arith, up, same))) ∙ is) live

    by : (b : Bool) → is_live e.1.state ≡ b → cond {A = ℕ} b 1 0 ≡ cond b (with_id e.0 subs) 0
    by true live = sym (each e.0 e.1 (value_at-cons e es e.0 ∙ ap (λ b. cond b (Some e.1) (value_at nat_cmp e.0 es)) (eq-eqb e.0 e.0 refl)) live)
    by false dead = refl

-- no subvolume has a leaf where there is none
none_of_none : (snaps : Snaps) → sum_by (of_leaf []) snaps ≡ 0
none_of_none [] = refl
none_of_none (e ∷ es) = let sums : sum_by (of_leaf []) (e ∷ es) ≡ of_leaf [] e + sum_by (of_leaf []) es = sum_by-cons (of_leaf []) e es in let rest : sum_by (of_leaf []) es ≡ 0 = none_of_none es in let first : of_leaf [] e ≡ 0 = by (is_live e.1.state) in omega (arith, sums, rest, first)
  where
    by : (b : Bool) → cond {A = ℕ} b (with_id e.0 []) 0 ≡ 0
    by true = refl
    by false = refl

-- whether an entry is a live leaf of this id
abbrev is_leaf_of : ℕ → ℕ × Snap → Bool
is_leaf_of id entry = is_live entry.1.state && (id == entry.0)

-- one subvolume more has so many leaves more
one_more : (sub : Sub) (subs : List Sub) (snaps : Snaps) → sum_by (of_leaf (sub ∷ subs)) snaps ≡ count_by (is_leaf_of sub.id) snaps + sum_by (of_leaf subs) snaps
one_more sub subs [] = refl
one_more sub subs (e ∷ es) =
    let sums : sum_by (of_leaf (sub ∷ subs)) (e ∷ es) ≡ of_leaf (sub ∷ subs) e + sum_by (of_leaf (sub ∷ subs)) es = sum_by-cons (of_leaf (sub ∷ subs)) e es in
    let less : sum_by (of_leaf subs) (e ∷ es) ≡ of_leaf subs e + sum_by (of_leaf subs) es = sum_by-cons (of_leaf subs) e es in
    let leaves : count_by (is_leaf_of sub.id) (e ∷ es) ≡ cond {A = ℕ} (is_leaf_of sub.id e) 1 0 + count_by (is_leaf_of sub.id) es = sum_by-cons (λ d. cond {A = ℕ} (is_leaf_of sub.id d) 1 0) e es in
    let rest : sum_by (of_leaf (sub ∷ subs)) es ≡ count_by (is_leaf_of sub.id) es + sum_by (of_leaf subs) es = one_more sub subs es in
    let first : of_leaf (sub ∷ subs) e ≡ cond {A = ℕ} (is_leaf_of sub.id e) 1 0 + of_leaf subs e = by (is_live e.1.state) in
    omega (arith, sums, less, leaves, rest, first)
  where
    whole : with_id e.0 (sub ∷ subs) ≡ cond {A = ℕ} (sub.id == e.0) 1 0 + with_id e.0 subs
    whole = sum_by-cons (λ (s : Sub). cond {A = ℕ} (s.id == e.0) 1 0) sub subs

    by : (b : Bool) → cond {A = ℕ} b (with_id e.0 (sub ∷ subs)) 0 ≡ cond {A = ℕ} (b && (sub.id == e.0)) 1 0 + cond {A = ℕ} b (with_id e.0 subs) 0
    by true = whole
    by false = refl

-- an id that is no live leaf of some has no leaf among them
no_leaf : (id : ℕ) (snaps : Snaps) → IsMap nat_cmp snaps → ((snap : Snap) → value_at nat_cmp id snaps ≡ Some snap → is_live snap.state ≡ true → ⊥) → count_by (is_leaf_of id) snaps ≡ 0
no_leaf id [] rises none = refl
no_leaf id (e ∷ es) rises none =
    let leaves : count_by (is_leaf_of id) (e ∷ es) ≡ cond {A = ℕ} (is_leaf_of id e) 1 0 + count_by (is_leaf_of id) es = sum_by-cons (λ d. cond {A = ℕ} (is_leaf_of id d) 1 0) e es in
    let rest : count_by (is_leaf_of id) es ≡ 0 = no_leaf id es (others_rise e es rises) later in
    let first : cond {A = ℕ} (is_leaf_of id e) 1 0 ≡ 0 = by (is_live e.1.state) refl (id == e.0) refl in
    omega (arith, leaves, rest, first)
  where
    later : (snap : Snap) → value_at nat_cmp id es ≡ Some snap → is_live snap.state ≡ true → ⊥
    later snap is live = none snap (value_at-cons e es id ∙ ap (λ b. cond b (Some e.1) (value_at nat_cmp id es)) (ne_eqb e.0 id (λ same. let up : e.0 < id = found_above e.0 id es snap (first_least e es rises) is in omega (arith, up, same))) ∙ is) live

    by : (a : Bool) → is_live e.1.state ≡ a → (b : Bool) → (id == e.0) ≡ b → cond {A = ℕ} (a && b) 1 0 ≡ 0
    by true live true same = absurd (none e.1 (value_at-cons e es id ∙ ap (λ b. cond b (Some e.1) (value_at nat_cmp id es)) (eq-eqb e.0 id (sym (eqb-true id e.0 same)))) live)
    by true live false apart = refl
    by false dead b other = refl

-- a live leaf is one
one_leaf : (id : ℕ) (snap : Snap) (snaps : Snaps) → IsMap nat_cmp snaps → value_at nat_cmp id snaps ≡ Some snap → is_live snap.state ≡ true → count_by (is_leaf_of id) snaps ≡ 1
one_leaf id snap [] rises is live = absurd (none_some snap is)
one_leaf id snap (e ∷ es) rises is live =
    let leaves : count_by (is_leaf_of id) (e ∷ es) ≡ cond {A = ℕ} (is_leaf_of id e) 1 0 + count_by (is_leaf_of id) es = sum_by-cons (λ d. cond {A = ℕ} (is_leaf_of id d) 1 0) e es in
    by (e.0 == id) refl leaves (sym (value_at-cons e es id) ∙ is) (λ found. one_leaf id snap es (others_rise e es rises) found live)
  where
    here : (e.0 == id) ≡ true → e.1 ≡ snap → cond {A = ℕ} (is_leaf_of id e) 1 0 ≡ 1
    here at same = λ i. cond {A = ℕ} ((ap (λ (s : Snap). is_live s.state) same ∙ live) i && eq-eqb id e.0 (sym (eqb-true e.0 id at)) i) 1 0

    none_later : (e.0 == id) ≡ true → (other : Snap) → value_at nat_cmp id es ≡ Some other → ⊥
    none_later at other found = let up : e.0 < id = found_above e.0 id es other (first_least e es rises) found in let same : e.0 ≡ id = eqb-true e.0 id at in omega (arith, up, same)

    there : (e.0 == id) ≡ false → cond {A = ℕ} (is_leaf_of id e) 1 0 ≡ 0
    there apart = ap (λ b. cond {A = ℕ} (is_live e.1.state && b) 1 0) (ne_eqb id e.0 (λ same. true≢false (sym (eq-eqb e.0 id (sym same)) ∙ apart))) ∙ either (is_live e.1.state)
      where
        either : (b : Bool) → cond {A = ℕ} (b && false) 1 0 ≡ 0
        either true = refl
        either false = refl

    by : (b : Bool) → (e.0 == id) ≡ b → count_by (is_leaf_of id) (e ∷ es) ≡ cond {A = ℕ} (is_leaf_of id e) 1 0 + count_by (is_leaf_of id) es → cond b (Some e.1) (value_at nat_cmp id es) ≡ Some snap → (value_at nat_cmp id es ≡ Some snap → count_by (is_leaf_of id) es ≡ 1) → count_by (is_leaf_of id) (e ∷ es) ≡ 1
    by true at leaves found past = let one = here at (same_Some e.1 snap found) in let rest : count_by (is_leaf_of id) es ≡ 0 = no_leaf id es (others_rise e es rises) (λ other is _. none_later at other is) in omega (arith, leaves, one, rest)
    by false apart leaves found past = let none = there apart in let rest : count_by (is_leaf_of id) es ≡ 1 = past found in omega (arith, leaves, none, rest)

-- a test that a member passes counts one at least
counted : {X : Type 0} (test : X → Bool) (x : X) (xs : List X) → IsIn x xs → test x ≡ true → 1 ≤ count_by test xs
counted test x [] is passes = absurd is
counted test x (y ∷ xs) is passes = let whole : count_by test (y ∷ xs) ≡ cond {A = ℕ} (test y) 1 0 + count_by test xs = sum_by-cons (λ z. cond {A = ℕ} (test z) 1 0) y xs in
    ⊎_elim (λ (same : x ≡ y). let one : cond {A = ℕ} (test y) 1 0 ≡ 1 = ap (λ b. cond {A = ℕ} b 1 0) (ap test (sym same) ∙ passes) in omega (arith, whole, one))
    (λ (later : IsIn x xs). let rest : 1 ≤ count_by test xs = counted test x xs later passes in omega (arith, whole, rest)) is

-- where each of some subvolumes has a live leaf, they have as many as they are
subs_counted : (snaps : Snaps) (subs : List Sub) → ((sub : Sub) → IsIn sub subs → count_by (is_leaf_of sub.id) snaps ≡ 1) → sum_by (of_leaf subs) snaps ≡ length subs
subs_counted snaps [] each = none_of_none snaps
subs_counted snaps (sub ∷ subs) each =
    let more = one_more sub subs snaps in
    let one = each sub (inl refl) in
    let rest : sum_by (of_leaf subs) snaps ≡ length subs = subs_counted snaps subs (λ other is. each other (inr is)) in
    let long : length (sub ∷ subs) ≡ 1 + length subs = omega arith in
    omega (arith, more, one, rest, long)

live_state : (state : SnapState) → is_live state ≡ true → state ≡ LiveLeaf
live_state LiveLeaf is = refl
live_state Interior is = absurd (true≢false (sym is))
live_state DeadLeaf is = absurd (true≢false (sym is))

-- There are as many live leaves as subvolumes.
pub leaves_are_subs : (keys : KeyMap) → DoLeavesMatch keys → live_leaves (snaps_of keys) ≡ length (all_subs keys)
leaves_are_subs keys matching =
    leaves_counted (all_subs keys) (snaps_of keys) (snaps_of-rises keys) (λ id snap is live. matching.leaves id (record { snap = snap; found = is; live = live_state snap.state live }))
    ∙ subs_counted (snaps_of keys) (all_subs keys) (λ sub among. let leaf = (all_in (IsSubvolume keys) sub (all_subs keys) matching.subvolumes among).leaf in one_leaf sub.id leaf.snap (snaps_of keys) (snaps_of-rises keys) leaf.found (ap is_live leaf.live))

-- where a tree is put at a name that a map lacks, a test of names counts it besides
put_counts : (test : List ℕ → Bool) (name : List ℕ) (tree : Tree) (entries : List (List ℕ × Tree)) → value_at name_cmp name entries ≡ None
    → count_by (λ (e : List ℕ × Tree). test e.0) (with_value name_cmp name tree entries) ≡ cond {A = ℕ} (test name) 1 0 + count_by (λ (e : List ℕ × Tree). test e.0) entries
put_counts test name tree [] none = sum_by-cons (λ (e : List ℕ × Tree). cond {A = ℕ} (test e.0) 1 0) (name, tree) []
put_counts test name tree (d ∷ ds) none = by (name_cmp name d.0) none (put_counts test name tree ds)
  where
    cons : (e : List ℕ × Tree) (es : List (List ℕ × Tree)) → count_by (λ (x : List ℕ × Tree). test x.0) (e ∷ es) ≡ cond {A = ℕ} (test e.0) 1 0 + count_by (λ (x : List ℕ × Tree). test x.0) es
    cons e es = sum_by-cons (λ (x : List ℕ × Tree). cond {A = ℕ} (test x.0) 1 0) e es

    by : (r : Ordering) → cond (is_eq r) (Some d.1) (value_at name_cmp name ds) ≡ None
        → (value_at name_cmp name ds ≡ None → count_by (λ (e : List ℕ × Tree). test e.0) (with_value name_cmp name tree ds) ≡ cond {A = ℕ} (test name) 1 0 + count_by (λ (e : List ℕ × Tree). test e.0) ds)
        → count_by (λ (e : List ℕ × Tree). test e.0) (match_ordering r ((name, tree) ∷ d ∷ ds) ((d.0, tree) ∷ ds) (d ∷ with_value name_cmp name tree ds)) ≡ cond {A = ℕ} (test name) 1 0 + count_by (λ (e : List ℕ × Tree). test e.0) (d ∷ ds)
    by Less lacks later = cons (name, tree) (d ∷ ds)
    by Equal lacks later = absurd (none_some d.1 (sym lacks))
    by Greater lacks later = let rest = later lacks in let new = cons d (with_value name_cmp name tree ds) in let old = cons d ds in omega (arith, rest, new, old)

-- a test that all pass counts all
all_counted : {X : Type 0} (test : X → Bool) (xs : List X) → ((x : X) → IsIn x xs → test x ≡ true) → count_by test xs ≡ length xs
all_counted test [] pass = refl
all_counted test (x ∷ xs) pass =
    let whole : count_by test (x ∷ xs) ≡ cond {A = ℕ} (test x) 1 0 + count_by test xs = sum_by-cons (λ y. cond {A = ℕ} (test y) 1 0) x xs in
    let head : cond {A = ℕ} (test x) 1 0 ≡ 1 = ap (λ b. cond {A = ℕ} b 1 0) (pass x (inl refl)) in
    let rest : count_by test xs ≡ length xs = all_counted test xs (λ y is. pass y (inr is)) in
    let long : length (x ∷ xs) ≡ 1 + length xs = omega arith in
    omega (arith, whole, head, rest, long)

-- a name that no member has isn't among the names
no_name : (name : List ℕ) (subs : List Sub) → ((sub : Sub) → IsIn sub subs → is_eq (name_cmp name sub.name) ≡ false) → list_any (is_at (name_cmp name)) (map (λ (sub : Sub). sub.name) subs) ≡ false
no_name name [] none = refl
no_name name (sub ∷ subs) none = λ i. none sub (inl refl) i || (no_name name subs (λ other is. none other (inr is)) i)

module _ (keys : KeyMap) (read : Read) (found : (sub : Sub) → IsIn sub (all_subs keys) → sub_named keys sub.name ≡ Some sub) where
  abbrev trees_over : List Sub → List (List ℕ × Tree)
  trees_over subs = map_over name_cmp (tree_named keys read) (map (λ (sub : Sub). sub.name) subs)

  -- of the trees of some subvolumes, of which each is one by its id, as many have names that pass a test
  as_many : (test : List ℕ → Bool) (subs : List Sub) → ((sub : Sub) → IsIn sub subs → IsIn sub (all_subs keys)) → ((sub : Sub) → IsIn sub subs → with_id sub.id subs ≤ 1)
      → count_by (λ (e : List ℕ × Tree). test e.0) (trees_over subs) ≡ count_by (λ (sub : Sub). test sub.name) subs
  as_many test [] within once = refl
  as_many test (sub ∷ subs) within once =
      ap (λ (o : Option Tree). count_by (λ (e : List ℕ × Tree). test e.0) (with_any name_cmp sub.name o (trees_over subs))) (ap (option_map (tree_of keys read)) (found sub (within sub (inl refl))))
      ∙ put_counts test sub.name (tree_of keys read sub) (trees_over subs)
      (value_at-map_over nat_list_cmp_total exact_bytes (tree_named keys read) sub.name (map (λ (s : Sub). s.name) subs) ∙ ap (λ b. cond b (tree_named keys read sub.name) None) (no_name sub.name subs apart))
      ∙ ap (λ m. cond {A = ℕ} (test sub.name) 1 0 + m) (as_many test subs (λ other is. within other (inr is)) (λ other is. let most = once other (inr is) in let whole = count other.id in omega (arith, most, whole)))
      ∙ sym (sum_by-cons (λ (s : Sub). cond {A = ℕ} (test s.name) 1 0) sub subs)
    where
      count : (id : ℕ) → with_id id (sub ∷ subs) ≡ cond {A = ℕ} (sub.id == id) 1 0 + with_id id subs
      count id = sum_by-cons (λ (s : Sub). cond {A = ℕ} (s.id == id) 1 0) sub subs

      apart : (other : Sub) → IsIn other subs → is_eq (name_cmp sub.name other.name) ≡ false
      apart other among = by (is_eq (name_cmp sub.name other.name)) refl
        where
          by : (b : Bool) → is_eq (name_cmp sub.name other.name) ≡ b → b ≡ false
          by true at =
              let same : sub ≡ other = same_Some sub other (sym (found sub (within sub (inl refl))) ∙ ap (sub_named keys) (same_key exact_bytes sub.name other.name at) ∙ found other (within other (inr among))) in
              let most = once sub (inl refl) in
              let whole = count sub.id in
              let first : cond {A = ℕ} (sub.id == sub.id) 1 0 ≡ 1 = ap (λ b. cond {A = ℕ} b 1 0) (eq-eqb sub.id sub.id refl) in
              let later : 1 ≤ with_id sub.id subs = counted (λ (s : Sub). s.id == sub.id) other subs among (eq-eqb other.id sub.id (ap (λ (s : Sub). s.id) (sym same))) in
              absurd (omega (arith, most, whole, first, later))
          by false at = refl

module _ (keys : KeyMap) (read : Read) (is : IsKeyMap keys) (matching : DoLeavesMatch keys) (drawn : AreKeysDrawn keys) (good : AreNamesGood keys) where
  -- As many subvolumes of the forest have names that pass a test as of the keys,
  names_counted : (test : List ℕ → Bool) → count_by (λ (e : List ℕ × Tree). test e.0) (forest_in keys read).subvolumes ≡ count_by (λ (sub : Sub). test sub.name) (all_subs keys)
  names_counted test = as_many keys read (each_found keys is drawn good) test (all_subs keys) (λ sub among. among)
      (λ sub among. let one = matching.leaves sub.id (all_in (IsSubvolume keys) sub (all_subs keys) matching.subvolumes among).leaf in omega (arith, one))

  -- so the forest has as many subvolumes as the keys,
  pub forest_is_as_long : length (all_subs keys) ≡ length (forest_in keys read).subvolumes
  forest_is_as_long = sym (all_counted (λ (sub : Sub). true) (all_subs keys) (λ sub among. refl)) ∙ sym (names_counted (λ name. true)) ∙ all_counted (λ (e : List ℕ × Tree). true) (forest_in keys read).subvolumes (λ e among. refl)

  -- and under each slot as many as its entry.
  pub slot_is_as_long : (slot : ℕ) → count_in_slot slot (forest_in keys read).subvolumes ≡ length (subs_in keys slot)
  slot_is_as_long slot = names_counted (λ name. slot_of name == slot) ∙ over keys.subvols (is.rises Subvols) (drawn.each Subvols) good.subvolumes
    where
      over : (entries : Entries) → IsMap pos_cmp entries → All (IsKeyOf keys Subvols) entries → All HasGoodSubvolumes entries
          → count_by (λ (sub : Sub). slot_of sub.name == slot) (flat_map (λ (entry : Pos × Value). subs_of (Some entry.1)) entries) ≡ length (subs_of (value_at pos_cmp (record { inode = 0; offset = slot; snapshot = 0 }) entries))
      over [] rises keyed named = refl
      over (e ∷ es) rises keyed named =
          let whole = sum_by-append (λ (sub : Sub). cond {A = ℕ} (slot_of sub.name == slot) 1 0) (subs_of (Some e.1)) (flat_map (λ (entry : Pos × Value). subs_of (Some entry.1)) es) in
          whole ∙ by (is_at (pos_cmp (record { inode = 0; offset = slot; snapshot = 0 })) e.0) refl (over es (sorted_tail pos_cmp e.0 (keys_of es) rises) (All-tail (IsKeyOf keys Subvols) e es keyed) (All-tail HasGoodSubvolumes e es named))
        where
          key : IsKeyOf keys Subvols e
          key = All-head (IsKeyOf keys Subvols) e es keyed

          under : (sub : Sub) → IsIn sub (subs_of (Some e.1)) → slot_of sub.name ≡ e.0.offset
          under sub among = (all_in (λ (s : Sub). (slot_of s.name ≡ e.0.offset) × (is_good_subvolume_name s.name ≡ true)) sub (subs_of (Some e.1)) (All-head HasGoodSubvolumes e es named) among).0

          offset_at : is_at (pos_cmp (record { inode = 0; offset = slot; snapshot = 0 })) e.0 ≡ (e.0.offset == slot)
          offset_at = at_place e.0 slot (key.place.0, key.place.1)

          by : (b : Bool) → is_at (pos_cmp (record { inode = 0; offset = slot; snapshot = 0 })) e.0 ≡ b
              → count_by (λ (sub : Sub). slot_of sub.name == slot) (flat_map (λ (entry : Pos × Value). subs_of (Some entry.1)) es) ≡ length (subs_of (value_at pos_cmp (record { inode = 0; offset = slot; snapshot = 0 }) es))
              → count_by (λ (sub : Sub). slot_of sub.name == slot) (subs_of (Some e.1)) + count_by (λ (sub : Sub). slot_of sub.name == slot) (flat_map (λ (entry : Pos × Value). subs_of (Some entry.1)) es)
              ≡ length (subs_of (cond b (Some e.1) (value_at pos_cmp (record { inode = 0; offset = slot; snapshot = 0 }) es)))
          by true at later =
              let all : count_by (λ (sub : Sub). slot_of sub.name == slot) (subs_of (Some e.1)) ≡ length (subs_of (Some e.1)) = all_counted (λ (sub : Sub). slot_of sub.name == slot) (subs_of (Some e.1)) (λ sub among. ap (λ m. m == slot) (under sub among) ∙ sym offset_at ∙ at) in
              let none : length (subs_of (value_at pos_cmp (record { inode = 0; offset = slot; snapshot = 0 }) es)) ≡ 0 = ap (λ (o : Option Value). length (subs_of o))
              (lookup-none (is_at (pos_cmp (record { inode = 0; offset = slot; snapshot = 0 }))) es (none_past_head (eq_by_cmp_equiv pos_total) (record { inode = 0; offset = slot; snapshot = 0 }) e es (IsDistinct-from_sorted pos_cmp (keys_of (e ∷ es)) rises) at)) in
              omega (arith, all, none, later)
          by false at later =
              let none : count_by (λ (sub : Sub). slot_of sub.name == slot) (subs_of (Some e.1)) ≡ 0 = count_none (λ (sub : Sub). slot_of sub.name == slot) (subs_of (Some e.1)) (λ sub among. ap (λ m. m == slot) (under sub among) ∙ sym offset_at ∙ at) in
              omega (arith, none, later)
