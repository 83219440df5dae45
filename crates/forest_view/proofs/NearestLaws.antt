-- The nearest ids of a chain show what the chain shows: the first of its ids that has a key at a place has the value that shows.
use Rattle.std.proofs.Common.{◌≡◌, ℕ, Bool, true, false, cond, Option, Some, None, List, [], ◌∷◌, refl, sym, ap, ◌∙◌, subst, arith}
use Rattle.std.specs.Prelude.{◌&&◌, ◌||◌, option_and_then}
use Rattle.std.specs.BTreeMap.{is_at}
use Rattle.std.specs.List.{AllByRecursion}
use Rattle.std.specs.List.Sorted.{IsStrictlySortedBy}
use Rattle.std.specs.Map.{keys_of}
use Rattle.std.specs.Option.{option_or}
use Rattle.std.specs.Ordering.{is_eq, nat_cmp, ordering_then}
use Rattle.std.specs.Cmp.{IsTotalOrder}
use Rattle.std.specs.declared.cmp.Ordering.{Ordering}
use Rattle.std.specs.declared.cmp.Ordering.TheVariants.{Less, Equal, Greater}
use Rattle.std.proofs.lemmas.Bool.{true≢false}
use Rattle.std.proofs.lemmas.Cmp.{eq_by_cmp_equiv, nat_cmp_total, on_total, ranked, then_total, tied_itself}
use Rattle.std.proofs.lemmas.Map.Keys.{sorted_head, sorted_tail}
use Rattle.std.proofs.lemmas.Map.Lookups.{CmpEqualImpliesEq, exact_pairs, exact_unsigned}
use Rattle.std.proofs.lemmas.Option.{none-some as none_some}
use Rattle.forest_ops.specs.Parts.{with_new}
use Rattle.key_meaning.specs.TableLaws.{same_key}
use Rattle.key_meaning.specs.Visible.{first_value, own_value}
use Rattle.snap_tree.specs.Names.{has_id, pair_cmp}
use Rattle.vol_types.specs.KeyMaps.{Entries, IsKeyMap, KeyMap, entries_of}
use Rattle.vol_types.specs.Maps.{IsMap, value_at}
use Rattle.vol_types.specs.PositionLaws.{pos_exact}
use Rattle.vol_types.specs.Positions.{pos_cmp}
use Rattle.vol_types.specs.declared.positions.Btree.{Btree}
use Rattle.vol_types.specs.declared.positions.Pos.{Pos}
use Rattle.vol_types.specs.declared.values.Value.{Value}
use Rattle.forest_view.specs.Nearest.{Nearest, nearest_with, noted}
use Rattle.forest_view.proofs.Adding.{IsMap-with_new, or_none, or_or, value_at-with_new}

-- Pairs are in a total order, which tells any two apart.
pub pair_total : IsTotalOrder pair_cmp
pair_total = then_total (on_total (λ p. p.0) nat_cmp_total) (on_total (λ p. p.1) nat_cmp_total)

pub pair_exact : CmpEqualImpliesEq pair_cmp
pair_exact = exact_pairs nat_cmp nat_cmp exact_unsigned exact_unsigned

-- whether an entry is one of a place in an id of the chain
abbrev is_near : List ℕ → ℕ × ℕ → Pos × Value → Bool
is_near chain place entry = is_at (pair_cmp place) (entry.0.inode, entry.0.offset) && has_id chain entry.0.snapshot

-- the id of the first entry at a place that is one of the chain
abbrev pub first_near : List ℕ → ℕ × ℕ → Entries → Option ℕ
first_near chain place [] = None
first_near chain place (entry ∷ entries) = cond (is_near chain place entry) (Some entry.0.snapshot) (first_near chain place entries)

-- what one more entry adds
one_more : (chain : List ℕ) (place : ℕ × ℕ) (entry : Pos × Value) (rest : Option ℕ) (nearest : Nearest)
    → option_or (value_at pair_cmp place (noted chain entry.0 nearest)) rest ≡ option_or (value_at pair_cmp place nearest) (cond (is_near chain place entry) (Some entry.0.snapshot) rest)
one_more chain place entry rest nearest = by (has_id chain entry.0.snapshot)
  where
    at_place : (t : Bool) → option_or (cond t (Some entry.0.snapshot) None) rest ≡ cond (t && true) (Some entry.0.snapshot) rest
    at_place true = refl
    at_place false = refl

    elsewhere : (t : Bool) → rest ≡ cond (t && false) (Some entry.0.snapshot) rest
    elsewhere true = refl
    elsewhere false = refl

    by : (h : Bool) → option_or (value_at pair_cmp place (cond h (with_new pair_cmp (entry.0.inode, entry.0.offset) entry.0.snapshot nearest) nearest)) rest
        ≡ option_or (value_at pair_cmp place nearest) (cond (is_at (pair_cmp place) (entry.0.inode, entry.0.offset) && h) (Some entry.0.snapshot) rest)
    by true =
        ap (λ o. option_or o rest) (value_at-with_new pair_total pair_exact (entry.0.inode, entry.0.offset) entry.0.snapshot place nearest)
        ∙ or_or (value_at pair_cmp place nearest) (cond (is_at (pair_cmp place) (entry.0.inode, entry.0.offset)) (Some entry.0.snapshot) None) rest
        ∙ ap (option_or (value_at pair_cmp place nearest)) (at_place (is_at (pair_cmp place) (entry.0.inode, entry.0.offset)))
    by false = ap (option_or (value_at pair_cmp place nearest)) (elsewhere (is_at (pair_cmp place) (entry.0.inode, entry.0.offset)))

-- At a place stands the id that was noted first.
pub nearest_at : (chain : List ℕ) (place : ℕ × ℕ) (entries : Entries) (nearest : Nearest) → value_at pair_cmp place (nearest_with chain entries nearest) ≡ option_or (value_at pair_cmp place nearest) (first_near chain place entries)
nearest_at chain place [] nearest = sym (or_none (value_at pair_cmp place nearest))
nearest_at chain place (entry ∷ entries) nearest = nearest_at chain place entries (noted chain entry.0 nearest) ∙ one_more chain place entry (first_near chain place entries) nearest

-- The ids are a map of places.
pub nearest_rises : (chain : List ℕ) (entries : Entries) (nearest : Nearest) → IsMap pair_cmp nearest → IsMap pair_cmp (nearest_with chain entries nearest)
nearest_rises chain [] nearest rises = rises
nearest_rises chain (entry ∷ entries) nearest rises = nearest_rises chain entries (noted chain entry.0 nearest) (by (has_id chain entry.0.snapshot))
  where
    by : (h : Bool) → IsMap pair_cmp (cond h (with_new pair_cmp (entry.0.inode, entry.0.offset) entry.0.snapshot nearest) nearest)
    by true = IsMap-with_new pair_total pair_exact (entry.0.inode, entry.0.offset) entry.0.snapshot nearest rises
    by false = rises

-- what holds of all keys holds of one that is found
all_found : {K X : Type 0} {cmp : K → K → Ordering} (exact : CmpEqualImpliesEq cmp) (P : K → Type 0) (q : K) (value : X) (es : List (K × X)) → AllByRecursion P (keys_of es) → value_at cmp q es ≡ Some value → P q
all_found exact P q value [] all found = absurd (none_some value found)
all_found {cmp = cmp} exact P q value (e ∷ es) all found = by (is_at (cmp q) e.0) refl found (all_found exact P q value es all.1)
  where
    by : (b : Bool) → is_at (cmp q) e.0 ≡ b → cond b (Some e.1) (value_at cmp q es) ≡ Some value → (value_at cmp q es ≡ Some value → P q) → P q
    by true at found later = subst P (sym (same_key exact q e.0 at)) all.0
    by false at found later = later found

-- a test of a position is one of its place and one of its id
parted : (x y z : Ordering) → is_eq (ordering_then x (ordering_then y z)) ≡ (is_eq (ordering_then x y) && is_eq z)
parted Less y z = refl
parted Equal Less z = refl
parted Equal Equal z = refl
parted Equal Greater z = refl
parted Greater y z = refl

-- what is among numbers above another is above it
among_above : (c s : ℕ) (ids : List ℕ) → AllByRecursion (λ y. nat_cmp c y ≡ Less) ids → has_id ids s ≡ true → nat_cmp c s ≡ Less
among_above c s [] above among = absurd (true≢false (sym among))
among_above c s (y ∷ ids) above among = by (is_at (nat_cmp s) y) refl among (among_above c s ids above.1)
  where
    by : (b : Bool) → is_at (nat_cmp s) y ≡ b → (b || has_id ids s) ≡ true → (has_id ids s ≡ true → nat_cmp c s ≡ Less) → nat_cmp c s ≡ Less
    by true at among later = ap (λ n. nat_cmp c n) (same_key exact_unsigned s y at) ∙ above.0
    by false at among later = later among

-- no number is both above and below another
not_both : (a b : ℕ) → nat_cmp a b ≡ Less → nat_cmp b a ≡ Less → ⊥
not_both a b above below = omega (arith, ranked a b Less (sym above), ranked b a Less (sym below))

module _ (inode offset : ℕ) where
  -- where an id has its own key of the place
  abbrev key_at : ℕ → Pos
  key_at id = record { inode = inode; offset = offset; snapshot = id }

  -- a key of the place in this id
  test_at : (id : ℕ) (pos : Pos) → is_at (pos_cmp (key_at id)) pos ≡ (is_at (pair_cmp (inode, offset)) (pos.inode, pos.offset) && is_at (nat_cmp pos.snapshot) id)
  test_at id pos = parted (nat_cmp inode pos.inode) (nat_cmp offset pos.offset) (nat_cmp id pos.snapshot) ∙ ap (λ b. is_at (pair_cmp (inode, offset)) (pos.inode, pos.offset) && b) ((eq_by_cmp_equiv nat_cmp_total).symm id pos.snapshot)

  -- no key comes before one of the same place in a smaller id
  in_order : (id : ℕ) (pos : Pos) → is_at (pair_cmp (inode, offset)) (pos.inode, pos.offset) ≡ true → nat_cmp id pos.snapshot ≡ Less → pos_cmp pos (key_at id) ≡ Less → ⊥
  in_order id pos at above before = not_both id pos.snapshot above (sym (same_places id pos.snapshot) ∙ ap (λ (p : ℕ × ℕ). pos_cmp (record { inode = p.0; offset = p.1; snapshot = pos.snapshot }) (key_at id)) (same_key pair_exact (inode, offset) (pos.inode, pos.offset) at) ∙ before)
    where
      same_places : (id other : ℕ) → pos_cmp (key_at other) (key_at id) ≡ nat_cmp other id
      same_places id other = ap (λ o. ordering_then o (ordering_then (nat_cmp offset offset) (nat_cmp other id))) (tied_itself nat_cmp_total inode) ∙ ap (λ o. ordering_then o (nat_cmp other id)) (tied_itself nat_cmp_total offset)

  -- Where the first id of a chain has a key, that is the nearest one.
  first_is_near : (c : ℕ) (cs : List ℕ) (value : Value) (entries : Entries) → AllByRecursion (λ y. nat_cmp c y ≡ Less) cs → IsMap pos_cmp entries → value_at pos_cmp (key_at c) entries ≡ Some value → first_near (c ∷ cs) (inode, offset) entries ≡ Some c
  first_is_near c cs value [] above rises found = absurd (none_some value found)
  first_is_near c cs value (e ∷ es) above rises found =
      by (is_at (pair_cmp (inode, offset)) (e.0.inode, e.0.offset)) (is_at (nat_cmp e.0.snapshot) c) (has_id cs e.0.snapshot) refl refl refl
      (subst (λ b. cond b (Some e.1) (value_at pos_cmp (key_at c) es) ≡ Some value) (test_at c e.0) found)
      (first_is_near c cs value es above (sorted_tail pos_cmp e.0 (keys_of es) rises))
    where
      by : (t u w : Bool) → is_at (pair_cmp (inode, offset)) (e.0.inode, e.0.offset) ≡ t → is_at (nat_cmp e.0.snapshot) c ≡ u → has_id cs e.0.snapshot ≡ w
          → cond (t && u) (Some e.1) (value_at pos_cmp (key_at c) es) ≡ Some value
          → (value_at pos_cmp (key_at c) es ≡ Some value → first_near (c ∷ cs) (inode, offset) es ≡ Some c)
          → cond (t && (u || w)) (Some e.0.snapshot) (first_near (c ∷ cs) (inode, offset) es) ≡ Some c
      by false u w t_is u_is w_is found later = later found
      by true true w t_is u_is w_is found later = ap Some (same_key exact_unsigned e.0.snapshot c u_is)
      by true false true t_is u_is w_is found later =
          absurd (in_order c e.0 t_is (among_above c e.0.snapshot cs above w_is) (all_found pos_exact (λ (p : Pos). pos_cmp e.0 p ≡ Less) (key_at c) value es (sorted_head pos_cmp e.0 (keys_of es) rises) found))
      by true false false t_is u_is w_is found later = later found

  -- Where the first id of a chain has no key, the nearest one is that of the others.
  first_is_far : (c : ℕ) (cs : List ℕ) (entries : Entries) → value_at pos_cmp (key_at c) entries ≡ None → first_near (c ∷ cs) (inode, offset) entries ≡ first_near cs (inode, offset) entries
  first_is_far c cs [] none = refl
  first_is_far c cs (e ∷ es) none =
      by (is_at (pair_cmp (inode, offset)) (e.0.inode, e.0.offset)) (is_at (nat_cmp e.0.snapshot) c)
      (subst (λ b. cond b (Some e.1) (value_at pos_cmp (key_at c) es) ≡ None) (test_at c e.0) none) (first_is_far c cs es)
    where
      by : (t u : Bool) → cond (t && u) (Some e.1) (value_at pos_cmp (key_at c) es) ≡ None
          → (value_at pos_cmp (key_at c) es ≡ None → first_near (c ∷ cs) (inode, offset) es ≡ first_near cs (inode, offset) es)
          → cond (t && (u || has_id cs e.0.snapshot)) (Some e.0.snapshot) (first_near (c ∷ cs) (inode, offset) es) ≡ cond (t && has_id cs e.0.snapshot) (Some e.0.snapshot) (first_near cs (inode, offset) es)
      by false u none later = later none
      by true true none later = absurd (none_some e.1 (sym none))
      by true false none later = ap (λ o. cond (has_id cs e.0.snapshot) (Some e.0.snapshot) o) (later none)

  -- a chain without ids has none nearest
  none_near : (entries : Entries) → first_near [] (inode, offset) entries ≡ None
  none_near [] = refl
  none_near (e ∷ es) = by (is_at (pair_cmp (inode, offset)) (e.0.inode, e.0.offset)) ∙ none_near es
    where
      by : (t : Bool) → cond (t && false) (Some e.0.snapshot) (first_near [] (inode, offset) es) ≡ first_near [] (inode, offset) es
      by true = refl
      by false = refl

  module _ (keys : KeyMap) (btree : Btree) (is : IsKeyMap keys) where
    -- What the nearest id of a rising chain has is what the chain has first.
    first_shows : (chain : List ℕ) → IsStrictlySortedBy nat_cmp chain → option_and_then (own_value keys btree inode offset) (first_near chain (inode, offset) (entries_of keys btree)) ≡ first_value keys btree inode offset chain
    first_shows [] rises = ap (option_and_then (own_value keys btree inode offset)) (none_near (entries_of keys btree))
    first_shows (c ∷ cs) rises = by (own_value keys btree inode offset c) refl (first_shows cs (sorted_tail nat_cmp c cs rises))
      where
        by : (own : Option Value) → own_value keys btree inode offset c ≡ own
            → option_and_then (own_value keys btree inode offset) (first_near cs (inode, offset) (entries_of keys btree)) ≡ first_value keys btree inode offset cs
            → option_and_then (own_value keys btree inode offset) (first_near (c ∷ cs) (inode, offset) (entries_of keys btree)) ≡ option_or own (first_value keys btree inode offset cs)
        by None none later = ap (option_and_then (own_value keys btree inode offset)) (first_is_far c cs (entries_of keys btree) none) ∙ later
        by (Some value) found later = ap (option_and_then (own_value keys btree inode offset)) (first_is_near c cs value (entries_of keys btree) (sorted_head nat_cmp c cs rises) (is.rises btree) found) ∙ found

    -- So the nearest ids of a chain show what it shows.
    pub nearest_shows : (chain : List ℕ) → IsStrictlySortedBy nat_cmp chain → option_and_then (own_value keys btree inode offset) (value_at pair_cmp (inode, offset) (nearest_with chain (entries_of keys btree) [])) ≡ first_value keys btree inode offset chain
    nearest_shows chain rises = ap (option_and_then (own_value keys btree inode offset)) (nearest_at chain (inode, offset) (entries_of keys btree) []) ∙ first_shows chain rises
