-- What holds of each two nodes of btrees holds of each two of the list of all, and the other way round.
use Rattle.std.proofs.Common.{◌≡◌, ◌≢◌, ℕ, zero, suc, List, [], ◌∷◌, ◌++◌, Bool, true, false, cond, Some, refl, sym, ap, subst, ◌∙◌, arith}
use Rattle.std.specs.Prelude.{⊤, is_some}
use Rattle.std.specs.BTreeMap.{is_at}
use Rattle.std.specs.List.{AllByRecursion, flat_map}
use Rattle.std.specs.Map.{keys_of, values_of}
use Rattle.std.proofs.lemmas.Bool.{true≢false}
use Rattle.std.proofs.lemmas.Map.Keys.{sorted_tail}
use Rattle.std.proofs.lemmas.Option.{same_Some}
use Rattle.birth_index.specs.Births.{node_of}
use Rattle.birth_index.specs.NameLaws.{one_btree}
use Rattle.birth_index.specs.declared.name.NodeName.{NodeName}
use Rattle.image_view.specs.Trees.{SetsOf, nodes_of}
use Rattle.tree_nodes.specs.CoverLaws.{above-head}
use Rattle.tree_nodes.specs.Levels.{Level, Levels}
use Rattle.tree_nodes.specs.RowLaws.{same_at}
use Rattle.vol_types.specs.Btrees.{btree_code}
use Rattle.vol_types.specs.Maps.{IsMap, value_at}
use Rattle.vol_types.specs.Positions.{pos_cmp}
use Rattle.vol_types.specs.declared.pointers.NodePtr.{NodePtr}
use Rattle.vol_types.specs.declared.positions.Btree.{Btree}
use Rattle.vol_types.specs.declared.positions.Pos.{Pos}
use Rattle.btree_laws.specs.Standing.{Contents, IsNodeIn, StandAsBtrees}
use Rattle.btree_safety.proofs.AllNodes.{AreMaps, before_apart, behind_one, both_all, btree_at, each_of_level, each_of_levels, each_of_places, first_there, left_all, levels_at, of_level, of_levels, of_places, place_within, places_rise, right_all}

module _ (P : NodePtr → NodePtr → Type 0) where
  -- Each node of the list, and each one behind it.
  abbrev pub EachPair : List NodePtr → Type 0
  EachPair [] = ⊤
  EachPair (x ∷ xs) = AllByRecursion (P x) xs × EachPair xs

  pairs_joined : (one other : List NodePtr) → EachPair one → EachPair other → AllByRecursion (λ x. AllByRecursion (P x) other) one → EachPair (one ++ other)
  pairs_joined [] other own others between = others
  pairs_joined (x ∷ one) other own others between = (both_all (P x) one other own.0 between.0, pairs_joined one other own.1 others between.1)

  pairs_left : (one other : List NodePtr) → EachPair (one ++ other) → EachPair one
  pairs_left [] other pairs = tt
  pairs_left (x ∷ one) other pairs = (left_all (P x) one other pairs.0, pairs_left one other pairs.1)

  pairs_right : (one other : List NodePtr) → EachPair (one ++ other) → EachPair other
  pairs_right [] other pairs = pairs
  pairs_right (x ∷ one) other pairs = pairs_right one other pairs.1

  pairs_between : (one other : List NodePtr) → EachPair (one ++ other) → AllByRecursion (λ x. AllByRecursion (P x) other) one
  pairs_between [] other pairs = tt
  pairs_between (x ∷ one) other pairs = (right_all (P x) one other pairs.0, pairs_between one other pairs.1)

  -- ---- from each two nodes to the list

  pairs_of_level : (nodes : Level) → IsMap pos_cmp nodes → ((at other : Pos) (x y : NodePtr) → at ≢ other → value_at pos_cmp at nodes ≡ Some x → value_at pos_cmp other nodes ≡ Some y → P x y) → EachPair (values_of nodes)
  pairs_of_level [] rises so = tt
  pairs_of_level (e ∷ es) rises so =
      let rest = sorted_tail pos_cmp e.0 (keys_of es) rises in (
        each_of_level (P e.1) es rest (λ at node is. so e.0 at e.1 node (before_apart e.0 at (above-head e es at rises (ap is_some is))) (first_there e es) (behind_one e es at node rises is)),
        pairs_of_level es rest (λ at other x y differ is are. so at other x y differ (behind_one e es at x rises is) (behind_one e es other y rises are)),
      )

  pairs_of_levels : (levels : Levels) → AreMaps levels → ((level upper : ℕ) (at other : Pos) (x y : NodePtr) → ¬ ((level ≡ upper) × (at ≡ other)) → IsNodeIn levels level at x → IsNodeIn levels upper other y → P x y) → EachPair (flat_map values_of levels)
  pairs_of_levels [] rise so = tt
  pairs_of_levels (nodes ∷ levels) rise so =
      let rest : AreMaps levels = λ level. rise (suc level) in
      pairs_joined (values_of nodes) (flat_map values_of levels)
      (pairs_of_level nodes (rise zero) (λ at other x y differ. so zero zero at other x y (λ same. differ same.1)))
      (pairs_of_levels levels rest (λ level upper at other x y differ. so (suc level) (suc upper) at other x y (λ same. differ (let numbers = same.0 in omega (arith, numbers), same.1))))
      (each_of_level (λ x. AllByRecursion (P x) (flat_map values_of levels)) nodes (rise zero) (λ at x is.
      each_of_levels (P x) levels rest (λ level other y are. so zero (suc level) at other x y (λ same. let numbers = same.0 in omega (arith, numbers)) is are)))

  pairs_of_places : (trees : List Levels) → ((place : ℕ) → AreMaps (levels_at trees place))
      → ((place another level upper : ℕ) (at other : Pos) (x y : NodePtr) → ¬ ((place ≡ another) × (level ≡ upper) × (at ≡ other)) → IsNodeIn (levels_at trees place) level at x → IsNodeIn (levels_at trees another) upper other y → P x y) → EachPair (nodes_of trees)
  pairs_of_places [] rise so = tt
  pairs_of_places (levels ∷ trees) rise so =
      let rest : (place : ℕ) → AreMaps (levels_at trees place) = λ place. rise (suc place) in
      pairs_joined (flat_map values_of levels) (nodes_of trees)
      (pairs_of_levels levels (rise zero) (λ level upper at other x y differ. so zero zero level upper at other x y (λ same. differ (same.1, same.2))))
      (pairs_of_places trees rest (λ place another level upper at other x y differ. so (suc place) (suc another) level upper at other x y (λ same. differ (let numbers = same.0 in omega (arith, numbers), same.1, same.2))))
      (each_of_levels (λ x. AllByRecursion (P x) (nodes_of trees)) levels (rise zero) (λ level at x is.
      each_of_places (P x) trees rest (λ place upper other y are. so zero (suc place) level upper at other x y (λ same. let numbers = same.0 in omega (arith, numbers)) is are)))

  -- Two nodes with different names.
  abbrev pub OfNames : List Levels → Type 0
  OfNames trees = (one other : NodeName) (x y : NodePtr) → one ≢ other → node_of trees one ≡ Some x → node_of trees other ≡ Some y → P x y

  pub pairs_of_names : (sets : SetsOf) (roots : List NodePtr) (trees : List Levels) (content : Btree → Contents) → StandAsBtrees sets roots trees content → OfNames trees → EachPair (nodes_of trees)
  pairs_of_names sets roots trees content stand so = pairs_of_places trees (places_rise sets roots trees content stand) (λ place another level upper at other x y differ is are.
      let nine = stand.trees_are in
      let less = place_within trees place level at x is in
      let lower = place_within trees another upper other y are in
      let first = btree_at place (omega (arith, nine, less)) in
      let second = btree_at another (omega (arith, nine, lower)) in
      so (record { btree = first.0; level = level; greatest = at }) (record { btree = second.0; level = upper; greatest = other }) x y
      (λ same. differ (sym first.1 ∙ ap (λ (n : NodeName). btree_code n.btree) same ∙ second.1, ap (λ (n : NodeName). n.level) same, ap (λ (n : NodeName). n.greatest) same))
      (subst (λ n. IsNodeIn (levels_at trees n) level at x) (sym first.1) is)
      (subst (λ n. IsNodeIn (levels_at trees n) upper other y) (sym second.1) are))

  -- ---- from the list to each two nodes

  module _ (back : (x y : NodePtr) → P x y → P y x) where
    level_pair : (nodes : Level) (at other : Pos) (x y : NodePtr) → at ≢ other → EachPair (values_of nodes) → value_at pos_cmp at nodes ≡ Some x → value_at pos_cmp other nodes ≡ Some y → P x y
    level_pair [] at other x y differ pairs is are = absurd (true≢false (sym (ap is_some is)))
    level_pair (e ∷ es) at other x y differ pairs is are = by (is_at (pos_cmp at) e.0) refl is (is_at (pos_cmp other) e.0) refl are (level_pair es at other x y differ pairs.1)
      where
        by : (b : Bool) → is_at (pos_cmp at) e.0 ≡ b → cond b (Some e.1) (value_at pos_cmp at es) ≡ Some x → (c : Bool) → is_at (pos_cmp other) e.0 ≡ c → cond c (Some e.1) (value_at pos_cmp other es) ≡ Some y
            → (value_at pos_cmp at es ≡ Some x → value_at pos_cmp other es ≡ Some y → P x y) → P x y
        by true at_one is true at_other are later = absurd (differ (same_at at e.0 at_one ∙ sym (same_at other e.0 at_other)))
        by true at_one is false at_other are later = subst (λ n. P n y) (same_Some e.1 x is) (of_level (P e.1) es other y pairs.0 are)
        by false at_one is true at_other are later = back y x (subst (λ n. P n x) (same_Some e.1 y are) (of_level (P e.1) es at x pairs.0 is))
        by false at_one is false at_other are later = later is are

    levels_pair : (levels : Levels) (level upper : ℕ) (at other : Pos) (x y : NodePtr) → ¬ ((level ≡ upper) × (at ≡ other)) → EachPair (flat_map values_of levels) → IsNodeIn levels level at x → IsNodeIn levels upper other y → P x y
    levels_pair [] level upper at other x y differ pairs is are = absurd (true≢false (sym (ap is_some is)))
    levels_pair (nodes ∷ levels) zero zero at other x y differ pairs is are = level_pair nodes at other x y (λ same. differ (refl, same)) (pairs_left (values_of nodes) (flat_map values_of levels) pairs) is are
    levels_pair (nodes ∷ levels) zero (suc upper) at other x y differ pairs is are =
        of_levels (P x) levels upper other y (of_level (λ n. AllByRecursion (P n) (flat_map values_of levels)) nodes at x (pairs_between (values_of nodes) (flat_map values_of levels) pairs) is) are
    levels_pair (nodes ∷ levels) (suc level) zero at other x y differ pairs is are =
        back y x (of_levels (P y) levels level at x (of_level (λ n. AllByRecursion (P n) (flat_map values_of levels)) nodes other y (pairs_between (values_of nodes) (flat_map values_of levels) pairs) are) is)
    levels_pair (nodes ∷ levels) (suc level) (suc upper) at other x y differ pairs is are =
        levels_pair levels level upper at other x y (λ same. differ (ap suc same.0, same.1)) (pairs_right (values_of nodes) (flat_map values_of levels) pairs) is are

    places_pair : (trees : List Levels) (place another level upper : ℕ) (at other : Pos) (x y : NodePtr) → ¬ ((place ≡ another) × (level ≡ upper) × (at ≡ other)) → EachPair (nodes_of trees) → IsNodeIn (levels_at trees place) level at x → IsNodeIn (levels_at trees another) upper other y → P x y
    places_pair [] place another level upper at other x y differ pairs is are = absurd (true≢false (sym (ap is_some is)))
    places_pair (levels ∷ trees) zero zero level upper at other x y differ pairs is are = levels_pair levels level upper at other x y (λ same. differ (refl, same.0, same.1)) (pairs_left (flat_map values_of levels) (nodes_of trees) pairs) is are
    places_pair (levels ∷ trees) zero (suc another) level upper at other x y differ pairs is are =
        of_places (P x) trees another upper other y (of_levels (λ n. AllByRecursion (P n) (nodes_of trees)) levels level at x (pairs_between (flat_map values_of levels) (nodes_of trees) pairs) is) are
    places_pair (levels ∷ trees) (suc place) zero level upper at other x y differ pairs is are =
        back y x (of_places (P y) trees place level at x (of_levels (λ n. AllByRecursion (P n) (nodes_of trees)) levels upper other y (pairs_between (flat_map values_of levels) (nodes_of trees) pairs) are) is)
    places_pair (levels ∷ trees) (suc place) (suc another) level upper at other x y differ pairs is are =
        places_pair trees place another level upper at other x y (λ same. differ (ap suc same.0, same.1, same.2)) (pairs_right (flat_map values_of levels) (nodes_of trees) pairs) is are

    pub names_of_pairs : (trees : List Levels) → EachPair (nodes_of trees) → OfNames trees
    names_of_pairs trees pairs one other x y differ is are = places_pair trees (btree_code one.btree) (btree_code other.btree) one.level other.level one.greatest other.greatest x y
        (λ same. differ (λ i. record { btree = one_btree one.btree other.btree same.0 i; level = same.1 i; greatest = same.2 i })) pairs is are
