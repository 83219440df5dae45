-- Levels of a btree that were changed are those of a btree.
use Rattle.std.proofs.Common.{◌≡◌, ◌≢◌, ℕ, zero, suc, ◌+◌, ◌-◌, ◌<◌, ◌≤◌, Bool, true, false, cond, Some, None, [], ◌∷◌, length, refl, sym, ap, ◌∙◌, subst, arith}
use Rattle.std.specs.Prelude.{◌==◌, All, is_some, slice_set}
use Rattle.std.specs.Int.{IsInRange}
use Rattle.std.specs.List.Sorted.{IsStrictlySortedBy}
use Rattle.std.specs.Map.{values_of}
use Rattle.std.specs.Ordering.{is_eq}
use Rattle.std.proofs.Math.Seq.{get_or-append_seam}
use Rattle.std.proofs.lemmas.Bool.{true≢false, eqb-true, eq-eqb}
use Rattle.std.proofs.lemmas.Cmp.{tied_itself}
use Rattle.std.proofs.lemmas.List.{get_or-set_same, get_or-set_other, get_or_append_left, length-append, length-set}
use Rattle.std.proofs.lemmas.List.Elements.{All-nil, All-cons, All-head}
use Rattle.vol_types.specs.Maps.{with_value}
use Rattle.vol_types.specs.Positions.{pos_cmp, greatest_pos}
use Rattle.vol_types.specs.PositionLaws.{pos_total}
use Rattle.vol_types.specs.Widths.{PosFits}
use Rattle.vol_types.specs.declared.pointers.NodePtr.{NodePtr}
use Rattle.vol_types.specs.declared.positions.Pos.{Pos}
use Rattle.tree_nodes.specs.Levels.{Level, Levels, EndsAt, IsLevel, IsNested, IsNodeOf, IsTree, divided, halved, level_of, under_root, with_node}
use Rattle.tree_nodes.specs.RowLaws.{at_end, ends-only, ends-stay, length-replaced, level-with_value}

-- A node that ends somewhere is of a level that is there.
pub level-there : (levels : Levels) (level : ℕ) (at : Pos) → EndsAt (level_of levels level) at → level < length levels
level-there [] level at ends = absurd (true≢false (sym ends))
level-there (nodes ∷ levels) zero at ends = omega arith
level-there (nodes ∷ levels) (suc level) at ends = omega (arith, level-there levels level at ends)

-- A number is another one or not.
pub either : (n m : ℕ) (P : Type 0) → (n ≡ m → P) → (n ≢ m → P) → P
either n m P same other = by (n == m) refl
  where
    by : (b : Bool) → (n == m) ≡ b → P
    by true is = same (eqb-true n m is)
    by false is = other (λ eq. true≢false (sym (eq-eqb n m eq) ∙ is))

module _ (levels : Levels) (level : ℕ) (nodes : Level) (there : level < length levels) where
  -- The level that was set has its new nodes.
  pub set-here : (k : ℕ) → k ≡ level → level_of (slice_set levels level nodes) k ≡ nodes
  set-here k is = ap (level_of (slice_set levels level nodes)) is ∙ get_or-set_same levels level nodes [] there

  -- Each other level is as it was.
  pub set-other : (k : ℕ) → k ≢ level → level_of (slice_set levels level nodes) k ≡ level_of levels k
  set-other k other = get_or-set_other levels level k nodes [] other

  each-set : ((k : ℕ) → k < length levels → IsLevel k (level_of levels k)) → IsLevel level nodes → (k : ℕ) → k < length (slice_set levels level nodes) → IsLevel k (level_of (slice_set levels level nodes) k)
  each-set each is k lt =
      either k level (IsLevel k (level_of (slice_set levels level nodes) k))
      (λ same. subst (λ n. IsLevel n (level_of (slice_set levels level nodes) k)) (sym same) (subst (IsLevel level) (sym (set-here k same)) is))
      (λ other. subst (IsLevel k) (sym (set-other k other)) (each k (omega (arith, lt, length-set levels level nodes))))

  nested-set : ((k : ℕ) → IsNested (level_of levels (k + 1)) (level_of levels k)) → ((at : Pos) → EndsAt (level_of levels level) at → EndsAt nodes at)
      → ((k : ℕ) → k + 1 ≡ level → (at : Pos) → EndsAt nodes at → EndsAt (level_of levels k) at)
      → (k : ℕ) → IsNested (level_of (slice_set levels level nodes) (k + 1)) (level_of (slice_set levels level nodes) k)
  nested-set nested stay below k at ends =
      let P = EndsAt (level_of (slice_set levels level nodes) k) at in
      either k level P
      (λ same. subst (λ n. EndsAt n at) (sym (set-here k same))
      (stay at (subst (λ i. EndsAt (level_of levels i) at) same (nested k at (subst (λ n. EndsAt n at) (set-other (k + 1) (λ up. omega (arith, same, up))) ends)))))
      (λ other. subst (λ n. EndsAt n at) (sym (set-other k other)) (either (k + 1) level (EndsAt (level_of levels k) at)
      (λ up. below k up at (subst (λ n. EndsAt n at) (set-here (k + 1) up) ends))
      (λ away. nested k at (subst (λ n. EndsAt n at) (set-other (k + 1) away) ends))))

  root-set : length (level_of levels (length levels - 1)) ≡ 1 → (level ≡ length levels - 1 → length nodes ≡ 1) → length (level_of (slice_set levels level nodes) (length (slice_set levels level nodes) - 1)) ≡ 1
  root-set root top =
      ap (λ n. length (level_of (slice_set levels level nodes) (n - 1))) (length-set levels level nodes)
      ∙ either (length levels - 1) level (length (level_of (slice_set levels level nodes) (length levels - 1)) ≡ 1)
      (λ same. ap length (set-here (length levels - 1) same) ∙ top (sym same))
      (λ other. ap length (set-other (length levels - 1) other) ∙ root)

module _ (levels : Levels) (level : ℕ) (greatest : Pos) (tree : IsTree levels) (there : EndsAt (level_of levels level) greatest) where
  nodes : Level
  nodes = level_of levels level

  below : level < length levels
  below = level-there levels level greatest there

  fits : PosFits greatest
  unfolding nodes
  fits = at_end PosFits nodes greatest (tree.each level below).row.fits there

  -- A pointer in the place of one leaves a tree.
  pub tree-with_node : (fresh : NodePtr) → IsNodeOf level fresh → IsTree (with_node level greatest fresh levels)
  unfolding nodes
  tree-with_node fresh node =
      let after = with_value pos_cmp greatest fresh nodes in
      record {
        each = each-set levels level after below tree.each (level-with_value level greatest fresh nodes (tree.each level below) fits node);
        nested = nested-set levels level after below tree.nested (λ q ends. ends-stay greatest q fresh nodes ends)
            (λ k up q ends. tree.nested k q (subst (λ i. EndsAt (level_of levels i) q) (sym up) (ends-only (EndsAt nodes) greatest q fresh nodes there (λ is. is) ends)));
        root = root-set levels level after below tree.root
            (λ top. length-replaced greatest fresh nodes (tree.each level below).row.rises there ∙ ap (λ i. length (level_of levels i)) top ∙ tree.root);
      }

  module _ (at : Pos) (first second : NodePtr) (at_fits : PosFits at) (child : 0 < level → EndsAt (level_of levels (level - 1)) at) (one : IsNodeOf level first) (other : IsNodeOf level second) where
    after : Level
    unfolding nodes
    after = halved greatest at first second nodes

    level-halved : IsLevel level after
    unfolding nodes after
    level-halved = level-with_value level greatest second (with_value pos_cmp at first nodes) (level-with_value level at first nodes (tree.each level below) at_fits one) fits other

    each-divided : (k : ℕ) → k < length (divided level greatest at first second levels) → IsLevel k (level_of (divided level greatest at first second levels) k)
    unfolding nodes after
    each-divided = each-set levels level after below tree.each level-halved

    nested-divided : (k : ℕ) → IsNested (level_of (divided level greatest at first second levels) (k + 1)) (level_of (divided level greatest at first second levels) k)
    unfolding nodes after
    nested-divided =
        nested-set levels level after below tree.nested (λ q ends. ends-stay greatest q second (with_value pos_cmp at first nodes) (ends-stay at q first nodes ends))
        (λ k up q ends.
        let under = λ (p : Pos) (is : EndsAt nodes p). tree.nested k p (subst (λ i. EndsAt (level_of levels i) p) (sym up) is) in
        let same : level - 1 ≡ k = omega (arith, up) in
        let here : EndsAt (level_of levels k) at = subst (λ i. EndsAt (level_of levels i) at) same (child (omega (arith, up))) in
        ends-only (EndsAt (level_of levels k)) greatest q second (with_value pos_cmp at first nodes) (under greatest there) (ends-only (EndsAt (level_of levels k)) at q first nodes here (under q)) ends)

    -- Two nodes in the place of one below the root leave a tree.
    pub tree-divided : level + 1 < length levels → IsTree (divided level greatest at first second levels)
    unfolding nodes after
    tree-divided low = record {
      each = each-divided;
      nested = nested-divided;
      root = root-set levels level after below tree.root (λ top. absurd (omega (arith, top, low)));
    }

-- a level of one node, which covers all positions
abbrev top_of : NodePtr → Level
top_of root = (greatest_pos, root) ∷ []

module _ (levels : Levels) (root : NodePtr) (some : 0 < length levels) (node : IsNodeOf (length levels) root) where
  lower : (k : ℕ) → k < length levels → level_of (under_root root levels) k ≡ level_of levels k
  lower k lt = get_or_append_left levels (top_of root ∷ []) [] k lt

  upper : (k : ℕ) → k ≡ length levels → level_of (under_root root levels) k ≡ top_of root
  upper k is = ap (level_of (under_root root levels)) is ∙ get_or-append_seam levels (top_of root) [] []

  longer : length (under_root root levels) ≡ length levels + 1
  longer = length-append levels (top_of root ∷ [])

  level-top : IsLevel (length levels) (top_of root)
  unfolding IsStrictlySortedBy
  level-top = record {
    row = record { rises = (tt, tt); fits = All-cons PosFits greatest_pos [] (record { inode = omega arith; offset = omega arith; snapshot = omega arith }) (All-nil PosFits) };
    ends = ap (λ r. is_some (cond (is_eq r) (Some root) None)) (tied_itself pos_total greatest_pos);
    each = All-cons (IsNodeOf (length levels)) root [] node (All-nil (IsNodeOf (length levels)));
  }

  -- Levels under a root are those of a btree, where each is nested in the one below.
  pub tree-rooted : ((k : ℕ) → k < length levels → IsLevel k (level_of levels k)) → ((k : ℕ) → IsNested (level_of levels (k + 1)) (level_of levels k)) → IsTree (under_root root levels)
  tree-rooted each nested = record {
    each = λ k lt. either k (length levels) (IsLevel k (level_of (under_root root levels) k))
        (λ same. subst (IsLevel k) (sym (upper k same)) (subst (λ n. IsLevel n (top_of root)) (sym same) level-top))
        (λ other. let below : k < length levels = omega (arith, lt, longer, other) in subst (IsLevel k) (sym (lower k below)) (each k below));
    nested = λ k at ends. either (k + 1) (length levels) (EndsAt (level_of (under_root root levels) k) at)
        (λ same. let below : k < length levels = omega (arith, same) in
        subst (λ n. EndsAt n at) (sym (lower k below)) (at_end (EndsAt (level_of levels k)) (top_of root) at (All-cons (EndsAt (level_of levels k)) greatest_pos [] (each k below).ends (All-nil (EndsAt (level_of levels k)))) (subst (λ n. EndsAt n at) (upper (k + 1) same) ends)))
        (λ other. let below : k + 1 < length levels = omega (arith, level-there (under_root root levels) (k + 1) at ends, longer, other) in
        subst (λ n. EndsAt n at) (sym (lower k (omega (arith, below)))) (nested k at (subst (λ n. EndsAt n at) (lower (k + 1) below) ends)));
    root = ap (λ n. length (level_of (under_root root levels) (n - 1))) longer ∙ ap length (upper (length levels + 1 - 1) (omega arith));
  }

-- Two nodes in the place of the root, under a new one, leave a tree.
pub tree-grown : (levels : Levels) (at : Pos) (first second root : NodePtr) → IsTree levels → PosFits at → (1 < length levels → EndsAt (level_of levels (length levels - 2)) at) → IsNodeOf (length levels - 1) first → IsNodeOf (length levels - 1) second → IsNodeOf (length levels) root
    → IsTree (under_root root (divided (length levels - 1) greatest_pos at first second levels))
tree-grown levels at first second root tree fits child one other top =
    let level = length levels - 1 in
    let some : 0 < length levels = has_levels levels tree.root in
    let there = (tree.each (length levels - 1) (omega (arith, some))).ends in
    let lower = λ (up : 0 < length levels - 1). let same : length levels - 2 ≡ length levels - 1 - 1 = omega arith in subst (λ i. EndsAt (level_of levels i) at) same (child (omega (arith, up))) in
    let count : length (divided (length levels - 1) greatest_pos at first second levels) ≡ length levels = length-set levels (length levels - 1) (halved greatest_pos at first second (level_of levels (length levels - 1))) in
    tree-rooted (divided (length levels - 1) greatest_pos at first second levels) root (omega (arith, some, count)) (subst (λ n. IsNodeOf n root) (sym count) top)
    (each-divided levels (length levels - 1) greatest_pos tree there at first second fits lower one other) (nested-divided levels (length levels - 1) greatest_pos tree there at first second fits lower one other)
  where
    has_levels : (levels : Levels) → length (level_of levels (length levels - 1)) ≡ 1 → 0 < length levels
    has_levels [] one = omega (arith, one)
    has_levels (nodes ∷ levels) one = omega arith

few_above : (n : ℕ) (top : Level) → length top ≡ 1 → All (IsNodeOf n) (values_of top) → n ≤ 7
few_above n [] one each = absurd (omega (arith, one))
few_above n (e ∷ es) one each = let first = All-head (IsNodeOf n) e.1 (values_of es) each in omega (arith, first.numbered, first.in_range.level)

-- A btree has 1 to 8 levels.
pub tree-height : (levels : Levels) → IsTree levels → IsInRange 1 8 (length levels)
tree-height [] tree = absurd (omega (arith, tree.root))
tree-height (nodes ∷ levels) tree =
    let top = few_above (length (nodes ∷ levels) - 1) (level_of (nodes ∷ levels) (length (nodes ∷ levels) - 1)) tree.root (tree.each (length (nodes ∷ levels) - 1) (omega arith)).each in
    (omega arith, omega (arith, top))
