-- Where nodes are exchanged in a range on each level, a node that ends outside of it is kept.
use Rattle.std.proofs.Common.{◌≡◌, ◌≢◌, ℕ, suc, ◌<◌, length, Some, None, refl, sym, ap, cond, subst, ◌∙◌, arith}
use Rattle.std.specs.Prelude.{is_some}
use Rattle.std.specs.BTreeMap.{is_at}
use Rattle.std.specs.Map.{keys_of}
use Rattle.std.specs.Ordering.{is_eq, is_lt, ordering_reverse}
use Rattle.std.specs.declared.cmp.Ordering.{Ordering}
use Rattle.std.specs.declared.cmp.Ordering.TheVariants.{Equal, Greater, Less}
use Rattle.std.proofs.lemmas.Bool.{true≢false}
use Rattle.std.proofs.lemmas.List.Elements.{All-from_recursion}
use Rattle.std.proofs.lemmas.Map.Entries.{lookup-filter-keys}
use Rattle.tree_nodes.specs.CoverLaws.{before-covered, before_le}
use Rattle.tree_nodes.specs.Levels.{EndsAt, IsRow, IsTree, Level, Levels, least_of, level_of, nodes_before}
use Rattle.tree_nodes.specs.RowLaws.{at_end, same_at}
use Rattle.tree_nodes.specs.TreeLaws.{either, level-there}
use Rattle.vol_types.specs.Maps.{value_at}
use Rattle.vol_types.specs.PositionLaws.{pos_total}
use Rattle.vol_types.specs.Positions.{IsBefore, IsWithin, pos_cmp}
use Rattle.vol_types.specs.Widths.{PosFits}
use Rattle.vol_types.specs.declared.pointers.NodePtr.{NodePtr}
use Rattle.vol_types.specs.declared.positions.Pos.{Pos}
use Rattle.btree_laws.specs.Exchanges.{AreExchanged, IsExchange, IsKept}
use Rattle.btree_laws.specs.Standing.{IsNodeIn}

-- A node of a level that ends outside of the range of an exchange stood there, and began where it begins.
abbrev pub OutsideLaw : Type 0
OutsideLaw = (old new : Level) (first last at : Pos) (node : NodePtr) → IsRow old → IsRow new → IsExchange first last old new → value_at pos_cmp at new ≡ Some node → ¬ IsWithin first last at → (value_at pos_cmp at old ≡ Some node) × (least_of at new ≡ least_of at old)

-- ---- positions

-- A position is before another, or it isn't.
before_or_not : (p q : Pos) (P : Type 0) → (IsBefore p q → P) → (pos_cmp q p ≢ Greater → P) → P
before_or_not p q P before after = by (pos_cmp p q) refl
  where
    by : (r : Ordering) → pos_cmp p q ≡ r → P
    by Less is = before is
    by Equal is = after (λ up. true≢false (ap is_eq (ap ordering_reverse (sym is) ∙ sym (pos_total.antisymm q p) ∙ up)))
    by Greater is = after (λ up. true≢false (ap is_lt (ap ordering_reverse (sym is) ∙ sym (pos_total.antisymm q p) ∙ up)))

-- One before another isn't at or after it.
not_both : (p q : Pos) → IsBefore p q → pos_cmp q p ≢ Greater → ⊥
not_both p q before after = after (pos_total.antisymm q p ∙ ap ordering_reverse before)

-- What isn't in a range is before or after it.
outside_is : (first last p : Pos) (P : Type 0) → ¬ IsWithin first last p → (IsBefore p first → P) → (IsBefore last p → P) → P
outside_is first last p P outside low high = before_or_not p first P low (λ from. before_or_not last p P high (λ to. absurd (outside (from, to))))

-- A node before a position is among those before it.
among : (nodes : Level) (at x : Pos) → EndsAt nodes x → IsBefore x at → EndsAt (nodes_before at nodes) x
among nodes at x ends before =
    ap is_some
    (lookup-filter-keys (is_at (pos_cmp x)) (λ y. is_lt (pos_cmp y at)) (is_lt (pos_cmp x at)) (λ k is. ap (λ y. is_lt (pos_cmp y at)) (sym (same_at x k is))) nodes
    ∙ ap (λ r. cond (is_lt r) (value_at pos_cmp x nodes) None) before)
    ∙ ends

-- ---- nodes outside of the ranges

module _ (law : OutsideLaw) (first last : ℕ → Pos) (old new : Levels) (tree : IsTree old) (other_tree : IsTree new) (exchanged : AreExchanged first last old new) where
  row_in : (level : ℕ) → level < length old → IsRow (level_of old level)
  row_in level less = (tree.each level less).row

  -- In the range of a node that ends outside of the range of its level nothing below is exchanged.
  none_below : (lower : ℕ) (at pos : Pos) → suc lower < length old → suc lower < length new → EndsAt (level_of old (suc lower)) at → ¬ IsWithin (first (suc lower)) (last (suc lower)) at → PosFits pos → IsWithin (least_of at (level_of old (suc lower))) at pos
      → ¬ IsWithin (first lower) (last lower) pos
  none_below lower at pos less more ends outside fits under within = outside_is (first (suc lower)) (last (suc lower)) at ⊥ outside low high
    where
      wide : IsWithin (first (suc lower)) (last (suc lower)) pos
      wide = exchanged.contains lower pos within

      low : IsBefore at (first (suc lower)) → ⊥
      low before = not_both at pos (before_le at (first (suc lower)) pos before wide.0) under.1

      high : IsBefore (last (suc lower)) at → ⊥
      high after =
          let row = row_in (suc lower) less in
          let at_fits : PosFits at = at_end PosFits (level_of old (suc lower)) at row.fits ends in
          let ended = (exchanged.each (suc lower) less more).ended in
          let all = All-from_recursion (λ q. IsBefore q pos) (keys_of (nodes_before at (level_of old (suc lower)))) (before-covered pos at (level_of old (suc lower)) row fits at_fits under.0) in
          not_both (last (suc lower)) pos (at_end (λ q. IsBefore q pos) (nodes_before at (level_of old (suc lower))) (last (suc lower)) all (among (level_of old (suc lower)) at (last (suc lower)) ended after)) wide.1

  -- So a node that ends outside of the range is kept.
  pub outside_kept : (level : ℕ) (at : Pos) (node : NodePtr) → IsNodeIn new level at node → level < length old → ¬ IsWithin (first level) (last level) at → IsKept old new level at node
  outside_kept level at node is less outside =
      let more = level-there new level at (ap is_some is) in
      let exchange = exchanged.each level less more in
      let stood = law (level_of old level) (level_of new level) (first level) (last level) at node (row_in level less) (other_tree.each level more).row exchange is outside in
      record {
        stood = stood.0;
        least = stood.1;
        below = λ lower one pos fits within. by lower one pos fits within stood.0;
      }
    where
      by : (lower : ℕ) → level ≡ suc lower → (pos : Pos) → PosFits pos → IsWithin (least_of at (level_of old level)) at pos → IsNodeIn old level at node → value_at pos_cmp pos (level_of new lower) ≡ value_at pos_cmp pos (level_of old lower)
      by lower one pos fits within stood =
          let more = level-there new level at (ap is_some is) in
          let here : suc lower < length old = omega (arith, one, less) in
          let there : suc lower < length new = omega (arith, one, more) in
          (exchanged.each lower (omega (arith, here)) (omega (arith, there))).elsewhere pos
          (none_below lower at pos here there (subst (λ n. EndsAt (level_of old n) at) one (ap is_some stood)) (subst (λ n. ¬ IsWithin (first n) (last n) at) one outside) fits (subst (λ n. IsWithin (least_of at (level_of old n)) at pos) one within))

-- ---- nodes that are kept, one time after another

-- A node of levels that stay is kept,
pub still_kept : (levels : Levels) (level : ℕ) (at : Pos) (node : NodePtr) → IsNodeIn levels level at node → IsKept levels levels level at node
still_kept levels level at node is = record { stood = is; least = refl; below = λ lower one pos fits within. refl }

-- and one that is kept twice is kept.
pub kept_twice : (old mid new : Levels) (level : ℕ) (at : Pos) (node : NodePtr) → IsKept old mid level at node → IsKept mid new level at node → IsKept old new level at node
kept_twice old mid new level at node first second = record {
  stood = first.stood;
  least = second.least ∙ first.least;
  below = λ lower one pos fits within. second.below lower one pos fits (subst (λ (least : Pos). IsWithin least at pos) (sym first.least) within) ∙ first.below lower one pos fits within;
}

-- ---- one level

-- Where one level is exchanged in a range and the others stay, a node is kept that ends outside of the range, if it is of that level, and none of
-- whose positions is in it, if it is of the level above.
module _ (law : OutsideLaw) (old new : Levels) (level : ℕ) (first last : Pos) (row : IsRow (level_of old level)) (fresh : IsRow (level_of new level)) (exchange : IsExchange first last (level_of old level) (level_of new level))
    (others : (k : ℕ) → k ≢ level → level_of new k ≡ level_of old k) where
  pub kept_beside : (k : ℕ) (at : Pos) (node : NodePtr) → IsNodeIn new k at node → (k ≡ level → ¬ IsWithin first last at) → (k ≡ suc level → (pos : Pos) → IsWithin (least_of at (level_of old k)) at pos → ¬ IsWithin first last pos) → IsKept old new k at node
  kept_beside k at node is outside apart = either k level (IsKept old new k at node)
      (λ same.
      let stood = law (level_of old level) (level_of new level) first last at node row fresh exchange (subst (λ n. IsNodeIn new n at node) same is) (outside same) in
      record {
        stood = subst (λ n. IsNodeIn old n at node) (sym same) stood.0;
        least = subst (λ n. least_of at (level_of new n) ≡ least_of at (level_of old n)) (sym same) stood.1;
        below = λ lower one pos fits within. ap (value_at pos_cmp pos) (others lower (λ equal. omega (arith, same, one, equal)));
      })
      (λ differ. record {
        stood = sym (ap (value_at pos_cmp at) (others k differ)) ∙ is;
        least = ap (least_of at) (others k differ);
        below = λ lower one pos fits within. either lower level (value_at pos_cmp pos (level_of new lower) ≡ value_at pos_cmp pos (level_of old lower))
            (λ here. subst (λ n. value_at pos_cmp pos (level_of new n) ≡ value_at pos_cmp pos (level_of old n)) (sym here) (exchange.elsewhere pos (apart (one ∙ ap suc here) pos within)))
            (λ there. ap (value_at pos_cmp pos) (others lower there));
      })
