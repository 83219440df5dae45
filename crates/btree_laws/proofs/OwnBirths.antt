-- No two nodes of btrees have one birth where no node in the list of all has the birth of a later one.
use Rattle.std.proofs.Common.{◌≡◌, ℕ, zero, suc, Bool, true, false, cond, ◌||◌, List, [], ◌∷◌, ◌++◌, Option, Some, None, get_or, refl, sym, ap, ◌∙◌}
use Rattle.std.specs.List.{flat_map, list_any}
use Rattle.std.specs.Map.{values_of}
use Rattle.std.specs.BTreeMap.{is_at}
use Rattle.std.specs.Prelude.{option_map, ◌==◌}
use Rattle.std.proofs.lemmas.Bool.{eq-eqb, eqb-true, false≢true}
use Rattle.std.proofs.lemmas.List.Folds.{list_any-append}
use Rattle.std.proofs.lemmas.Option.{none-some, same_Some}
use Rattle.birth_index.specs.Births.{BirthsDiffer, birth_of, levels_of}
use Rattle.birth_index.specs.NameLaws.{one_btree}
use Rattle.birth_index.specs.declared.name.NodeName.{NodeName}
use Rattle.image_view.specs.Trees.{first_twin, has_birth, nodes_of}
use Rattle.tree_nodes.specs.Levels.{Level, Levels, level_of}
use Rattle.tree_nodes.specs.RowLaws.{same_at}
use Rattle.vol_types.specs.Btrees.{btree_code}
use Rattle.vol_types.specs.Maps.{value_at}
use Rattle.vol_types.specs.Positions.{pos_cmp}
use Rattle.vol_types.specs.declared.pointers.NodePtr.{NodePtr}
use Rattle.vol_types.specs.declared.positions.Pos.{Pos}

-- whether one of the nodes has this birth
abbrev has : ℕ → List NodePtr → Bool
has birth nodes = list_any (λ (node : NodePtr). node.birth == birth) nodes

-- No node has the birth of a later one.
abbrev AreApart : List NodePtr → Type 0
AreApart nodes = first_twin nodes ≡ None

apart_first : (node : NodePtr) (nodes : List NodePtr) → AreApart (node ∷ nodes) → (has_birth node nodes ≡ false) × AreApart nodes
apart_first node nodes apart = by (has_birth node nodes) refl apart
  where
    by : (b : Bool) → has_birth node nodes ≡ b → cond b (Some node) (first_twin nodes) ≡ None → (has_birth node nodes ≡ false) × AreApart nodes
    by true is apart = absurd (none-some node (sym apart))
    by false is apart = (is, apart)

has-append : (birth : ℕ) (one other : List NodePtr) → has birth (one ++ other) ≡ (has birth one || has birth other)
has-append birth one other = list_any-append (λ (node : NodePtr). node.birth == birth) one other

or_first : (a b : Bool) → a ≡ true → (a || b) ≡ true
or_first true b is = refl
or_first false b is = absurd (false≢true is)

or_second : (a b : Bool) → b ≡ true → (a || b) ≡ true
or_second true b is = refl
or_second false b is = is

one_of : (a b : Bool) (P : Type 0) → (a || b) ≡ true → (a ≡ true → P) → (b ≡ true → P) → P
one_of true b P is first second = first refl
one_of false b P is first second = second is

-- Both parts of nodes that are apart are apart, and no birth is in both.
apart_second : (one other : List NodePtr) → AreApart (one ++ other) → AreApart other
apart_second [] other apart = apart
apart_second (node ∷ one) other apart = apart_second one other (apart_first node (one ++ other) apart).1

apart_left : (one other : List NodePtr) → AreApart (one ++ other) → AreApart one
apart_left [] other apart = refl
apart_left (node ∷ one) other apart =
    let parts = apart_first node (one ++ other) apart in
    ap (λ (b : Bool). cond b (Some node) (first_twin one)) (none_first (has_birth node one) (has_birth node other) (sym (has-append node.birth one other) ∙ parts.0)) ∙ apart_left one other parts.1
  where
    none_first : (a b : Bool) → (a || b) ≡ false → a ≡ false
    none_first true b is = absurd (false≢true (sym is))
    none_first false b is = refl

not_both : (birth : ℕ) (one other : List NodePtr) → AreApart (one ++ other) → has birth one ≡ true → has birth other ≡ true → ⊥
not_both birth [] other apart first second = false≢true first
not_both birth (node ∷ one) other apart first second =
    let parts = apart_first node (one ++ other) apart in
    one_of (node.birth == birth) (has birth one) ⊥ first
    (λ here.
    let there : has node.birth (one ++ other) ≡ true = has-append node.birth one other ∙ or_second (has node.birth one) (has node.birth other) (ap (λ n. has n other) (eqb-true node.birth birth here) ∙ second) in
    false≢true (sym parts.0 ∙ there))
    (λ later. not_both birth one other parts.1 later second)

module _ {X : Type 0} (f : X → List NodePtr) (d : X) (none : f d ≡ []) where
  -- a birth of one list among all
  has_among : (birth : ℕ) (xs : List X) (place : ℕ) → has birth (f (get_or xs place d)) ≡ true → has birth (flat_map f xs) ≡ true
  has_among birth [] place there = absurd (false≢true (sym (ap (has birth) none) ∙ there))
  has_among birth (x ∷ xs) zero there = has-append birth (f x) (flat_map f xs) ∙ or_first (has birth (f x)) (has birth (flat_map f xs)) there
  has_among birth (x ∷ xs) (suc place) there = has-append birth (f x) (flat_map f xs) ∙ or_second (has birth (f x)) (has birth (flat_map f xs)) (has_among birth xs place there)

  -- Where all are apart, a birth is in one list.
  one_place : (birth : ℕ) (xs : List X) (one other : ℕ) → AreApart (flat_map f xs) → has birth (f (get_or xs one d)) ≡ true → has birth (f (get_or xs other d)) ≡ true → one ≡ other
  one_place birth [] one other apart first second = absurd (false≢true (sym (ap (has birth) none) ∙ first))
  one_place birth (x ∷ xs) zero zero apart first second = refl
  one_place birth (x ∷ xs) zero (suc other) apart first second = absurd (not_both birth (f x) (flat_map f xs) apart first (has_among birth xs other second))
  one_place birth (x ∷ xs) (suc one) zero apart first second = absurd (not_both birth (f x) (flat_map f xs) apart second (has_among birth xs one first))
  one_place birth (x ∷ xs) (suc one) (suc other) apart first second = ap suc (one_place birth xs one other (apart_second (f x) (flat_map f xs) apart) first second)

  -- And each list is apart.
  apart_at : (xs : List X) (place : ℕ) → AreApart (flat_map f xs) → AreApart (f (get_or xs place d))
  apart_at [] place apart = ap first_twin none
  apart_at (x ∷ xs) zero apart = apart_left (f x) (flat_map f xs) apart
  apart_at (x ∷ xs) (suc place) apart = apart_at xs place (apart_second (f x) (flat_map f xs) apart)

-- the birth at a position of a level
abbrev birth_at : Pos → Level → Option ℕ
birth_at at nodes = option_map (λ (node : NodePtr). node.birth) (value_at pos_cmp at nodes)

has_at : (birth : ℕ) (at : Pos) (nodes : Level) → birth_at at nodes ≡ Some birth → has birth (values_of nodes) ≡ true
has_at birth at [] is = absurd (none-some birth is)
has_at birth at (e ∷ es) is = by (is_at (pos_cmp at) e.0) is (has_at birth at es)
  where
    by : (b : Bool) → option_map (λ (node : NodePtr). node.birth) (cond b (Some e.1) (value_at pos_cmp at es)) ≡ Some birth → (birth_at at es ≡ Some birth → has birth (values_of es) ≡ true) → ((e.1.birth == birth) || has birth (values_of es)) ≡ true
    by true is later = or_first (e.1.birth == birth) (has birth (values_of es)) (eq-eqb e.1.birth birth (same_Some e.1.birth birth is))
    by false is later = or_second (e.1.birth == birth) (has birth (values_of es)) (later is)

-- In a level whose nodes are apart a birth stands at one position.
one_end : (birth : ℕ) (one other : Pos) (nodes : Level) → AreApart (values_of nodes) → birth_at one nodes ≡ Some birth → birth_at other nodes ≡ Some birth → one ≡ other
one_end birth one other [] apart first second = absurd (none-some birth first)
one_end birth one other (e ∷ es) apart first second = by (is_at (pos_cmp one) e.0) refl first (is_at (pos_cmp other) e.0) refl second (λ here there. one_end birth one other es parts.1 here there)
  where
    parts : (has_birth e.1 (values_of es) ≡ false) × AreApart (values_of es)
    parts = apart_first e.1 (values_of es) apart

    clash : (at : Pos) → e.1.birth ≡ birth → birth_at at es ≡ Some birth → ⊥
    clash at here there = false≢true (sym parts.0 ∙ ap (λ n. has n (values_of es)) here ∙ has_at birth at es there)

    by : (b : Bool) → is_at (pos_cmp one) e.0 ≡ b → option_map (λ (node : NodePtr). node.birth) (cond b (Some e.1) (value_at pos_cmp one es)) ≡ Some birth
        → (c : Bool) → is_at (pos_cmp other) e.0 ≡ c → option_map (λ (node : NodePtr). node.birth) (cond c (Some e.1) (value_at pos_cmp other es)) ≡ Some birth
        → (birth_at one es ≡ Some birth → birth_at other es ≡ Some birth → one ≡ other) → one ≡ other
    by true at first true also second later = same_at one e.0 at ∙ sym (same_at other e.0 also)
    by true at first false also second later = absurd (clash other (same_Some e.1.birth birth first) second)
    by false at first true also second later = absurd (clash one (same_Some e.1.birth birth second) first)
    by false at first false also second later = later first second

-- No two nodes have one birth where all are apart.
pub births_differ : (nodes : List Levels) → first_twin (nodes_of nodes) ≡ None → BirthsDiffer nodes
births_differ nodes apart one other birth first second =
    let in_level : (name : NodeName) → birth_of nodes name ≡ Some birth → has birth (values_of (level_of (levels_of nodes name.btree) name.level)) ≡ true = λ name there.
    has_at birth name.greatest (level_of (levels_of nodes name.btree) name.level) there in
    let in_btree : (name : NodeName) → birth_of nodes name ≡ Some birth → has birth (flat_map values_of (levels_of nodes name.btree)) ≡ true = λ name there.
    has_among values_of [] refl birth (levels_of nodes name.btree) name.level (in_level name there) in
    let btrees = one_btree one.btree other.btree (one_place (λ (levels : Levels). flat_map values_of levels) [] refl birth nodes (btree_code one.btree) (btree_code other.btree) apart (in_btree one first) (in_btree other second)) in
    let here : AreApart (flat_map values_of (levels_of nodes one.btree)) = apart_at (λ (levels : Levels). flat_map values_of levels) [] refl nodes (btree_code one.btree) apart in
    let second_level : has birth (values_of (level_of (levels_of nodes one.btree) other.level)) ≡ true = ap (λ b. has birth (values_of (level_of (levels_of nodes b) other.level))) btrees ∙ in_level other second in
    let levels = one_place values_of [] refl birth (levels_of nodes one.btree) one.level other.level here (in_level one first) second_level in
    let second_at : birth_at other.greatest (level_of (levels_of nodes one.btree) one.level) ≡ Some birth =
    (λ i. birth_at other.greatest (level_of (levels_of nodes (btrees i)) (levels i))) ∙ second in
    let ends = one_end birth one.greatest other.greatest (level_of (levels_of nodes one.btree) one.level) (apart_at values_of [] refl (levels_of nodes one.btree) one.level here) first second_at in
    λ i. record { btree = btrees i; level = levels i; greatest = ends i }
