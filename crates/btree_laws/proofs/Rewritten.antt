-- A node that is rewritten whole, with those above it, leaves a btree that stands, with the same keys.
use Rattle.std.proofs.Common.{◌≡◌, ℕ, suc, ◌+◌, ◌-◌, ◌<◌, ◌≤◌, inl, inr, ⊎_elim, Bool, true, false, cond, Some, None, [], ◌∷◌, length, refl, sym, ap, subst, ◌∙◌, arith}
use Rattle.std.specs.Prelude.{◌⊎◌, is_some, nat_lt}
use Rattle.std.specs.BTreeMap.{is_at}
use Rattle.std.specs.Ordering.{is_eq, match_ordering}
use Rattle.std.proofs.lemmas.Bool.{ltb-false, ltb-true, true≢false}
use Rattle.std.proofs.lemmas.Cmp.{tied_itself}
use Rattle.std.proofs.lemmas.Option.{same_Some}
use Rattle.image_view.specs.Trees.{SetsOf}
use Rattle.tree_nodes.specs.ChildLaws.{parent-covers}
use Rattle.tree_nodes.specs.Levels.{Covers, EndsAt, IsLevel, IsNested, IsRow, IsTree, Level, Levels, least_of, level_of, node_at}
use Rattle.tree_nodes.specs.RangeLaws.{least-replaced}
use Rattle.tree_nodes.specs.RowLaws.{at_end, ends-stay, length-replaced, level-with_value}
use Rattle.tree_nodes.specs.TreeLaws.{level-there}
use Rattle.vol_types.specs.MapLaws.{value_at-with_value}
use Rattle.vol_types.specs.Maps.{value_at, with_value}
use Rattle.vol_types.specs.PositionLaws.{pos_total}
use Rattle.vol_types.specs.Positions.{IsWithin, greatest_pos, pos_cmp}
use Rattle.vol_types.specs.Widths.{PosFits}
use Rattle.vol_types.specs.declared.pointers.NodePtr.{NodePtr}
use Rattle.vol_types.specs.declared.positions.Btree.{Btree}
use Rattle.vol_types.specs.declared.positions.Pos.{Pos}
use Rattle.btree_laws.specs.Exchanges.{IsKept, IsNodeRewritten, IsRewritten, Stays}
use Rattle.btree_laws.specs.Standing.{Contents, IsNodeIn, IsUnderRoot, StandsAsBtree, StandsAsNode, leaf_entries}
use Rattle.btree_laws.proofs.Exchanged.{same_keys}
use Rattle.btree_laws.proofs.Kept.{changed}
use Rattle.btree_laws.proofs.Levels.{IsCovering, at_or_not, covers_once, found_covers, some_covers}
use Rattle.btree_laws.proofs.NineBtrees.{leaf_row}

-- ---- one level

module _ (pos : Pos) (fresh : NodePtr) (old new : Level) (row : IsRow old) (is : IsNodeRewritten pos fresh old new) where
  -- Each position but that of the rewritten node has the node that it had.
  other_value : (q : Pos) → is_at (pos_cmp is.at) q ≡ false → value_at pos_cmp q new ≡ value_at pos_cmp q old
  other_value q apart =
      ap (value_at pos_cmp q) is.new_is ∙ value_at-with_value pos_total is.at fresh q old ∙ ap (λ b. cond b (Some fresh) (value_at pos_cmp q old)) apart

  own_value : value_at pos_cmp is.at new ≡ Some fresh
  own_value = ap (value_at pos_cmp is.at) is.new_is ∙ value_at-with_value pos_total is.at fresh is.at old ∙ ap (λ r. cond (is_eq r) (Some fresh) (value_at pos_cmp is.at old)) (tied_itself pos_total is.at)

  -- Each node begins where it began.
  same_least : (q : Pos) → least_of q new ≡ least_of q old
  same_least q = ap (least_of q) is.new_is ∙ least-replaced q is.at fresh old row.rises is.covers.there

  -- Nodes end where nodes ended.
  ends_were : (q : Pos) → EndsAt new q → EndsAt old q
  ends_were q ends = at_or_not is.at q (EndsAt old q) (λ same. subst (EndsAt old) same is.covers.there) (λ apart. ap is_some (sym (other_value q apart)) ∙ ends)

  ends_are : (q : Pos) → EndsAt old q → EndsAt new q
  ends_are q ends = subst (λ nodes. EndsAt nodes q) (sym is.new_is) (ends-stay is.at q fresh old ends)

  same_length : length new ≡ length old
  same_length = ap length is.new_is ∙ length-replaced is.at fresh old row.rises is.covers.there

-- ---- all levels

module _ (from : ℕ) (pos : Pos) (fits : PosFits pos) (fresh : ℕ → NodePtr) (old new : Levels) (tree : IsTree old) (rewritten : IsRewritten from pos fresh old new) where
  -- Each level stays or has one node rewritten.
  either_level : (level : ℕ) (P : Type 0) → (level_of new level ≡ level_of old level → level < from → P) → (from ≤ level → P) → P
  either_level level P below above = by (nat_lt level from) refl
    where
      by : (b : Bool) → nat_lt level from ≡ b → P
      by true is = let less = ltb-true level from is in below (rewritten.below level less) less
      by false is = above (ltb-false level from is)

  row_in : (level : ℕ) → level < length old → IsRow (level_of old level)
  row_in level less = (tree.each level less).row

  level_stays : (level : ℕ) → level < length old → IsLevel level (level_of new level)
  level_stays level less =
      either_level level (IsLevel level (level_of new level))
      (λ same low. subst (IsLevel level) (sym same) (tree.each level less))
      (λ high.
      let is = rewritten.each level high less in
      subst (IsLevel level) (sym is.new_is)
      (level-with_value level is.at (fresh level) (level_of old level) (tree.each level less) (at_end PosFits (level_of old level) is.at (row_in level less).fits is.covers.there) (rewritten.nodes level high less)))

  ends_before : (level : ℕ) (q : Pos) → level < length old → EndsAt (level_of new level) q → EndsAt (level_of old level) q
  ends_before level q less ends =
      either_level level (EndsAt (level_of old level) q) (λ same low. subst (λ nodes. EndsAt nodes q) same ends)
      (λ high. ends_were pos (fresh level) (level_of old level) (level_of new level) (row_in level less) (rewritten.each level high less) q ends)

  ends_after : (level : ℕ) (q : Pos) → level < length old → EndsAt (level_of old level) q → EndsAt (level_of new level) q
  ends_after level q less ends =
      either_level level (EndsAt (level_of new level) q) (λ same low. subst (λ nodes. EndsAt nodes q) (sym same) ends)
      (λ high. ends_are pos (fresh level) (level_of old level) (level_of new level) (row_in level less) (rewritten.each level high less) q ends)

  length_stays : (level : ℕ) → level < length old → length (level_of new level) ≡ length (level_of old level)
  length_stays level less =
      either_level level (length (level_of new level) ≡ length (level_of old level)) (λ same low. ap length same)
      (λ high. same_length pos (fresh level) (level_of old level) (level_of new level) (row_in level less) (rewritten.each level high less))

  some_level : 0 < length old
  some_level = by old tree.root
    where
      by : (ls : Levels) → length (level_of ls (length ls - 1)) ≡ 1 → 0 < length ls
      by [] one = absurd (omega (arith, one))
      by (nodes ∷ ls) one = omega arith

  -- The levels are those of a btree.
  pub tree_stays : IsTree new
  tree_stays = record {
    each = λ level less. let height = rewritten.height in level_stays level (omega (arith, height, less));
    nested = λ level at ends.
        let there = level-there new (level + 1) at ends in
        let height = rewritten.height in
        ends_after level at (omega (arith, height, there)) (tree.nested level at (ends_before (level + 1) at (omega (arith, height, there)) ends));
    root = ap (λ n. length (level_of new (n - 1))) rewritten.height ∙ (let some = some_level in length_stays (length old - 1) (omega (arith, some))) ∙ tree.root;
  }

  -- The node of a level that covers the position lies under that of the level above.
  under_upper : (lower : ℕ) (at up : Pos) → suc lower < length old → Covers (level_of old lower) at pos → Covers (level_of old (suc lower)) up pos → Covers (level_of old (suc lower)) up at
  under_upper lower at up less inner outer =
      let below : lower < length old = omega (arith, less) in
      let one_up : lower + 1 ≡ suc lower = omega arith in
      let nested : IsNested (level_of old (suc lower)) (level_of old lower) = subst (λ n. IsNested (level_of old n) (level_of old lower)) one_up (tree.nested lower) in
      let row = row_in lower below in
      let at_fits : PosFits at = at_end PosFits (level_of old lower) at row.fits inner.there in
      let above = row_in (suc lower) less in
      let high = covering_end (level_of old (suc lower)) at above (tree.each (suc lower) less).ends at_fits in
      let all = parent-covers (level_of old (suc lower)) (level_of old lower) above row nested high.at at pos fits high.covers inner in
      subst (λ q. Covers (level_of old (suc lower)) q at) (covers_once (level_of old (suc lower)) high.at up pos above fits all outer) high.covers
    where
      covering_end : (nodes : Level) (q : Pos) → IsRow nodes → EndsAt nodes greatest_pos → PosFits q → IsCovering nodes q
      covering_end nodes q row ends q_fits = some_covers nodes q row ends q_fits

  -- A node that isn't rewritten is kept.
  pub others_kept : (level : ℕ) (at : Pos) (node : NodePtr) → IsNodeIn new level at node → (level < from) ⊎ (¬ Covers (level_of old level) at pos) → IsKept old new level at node
  others_kept level at node is away =
      let there = level-there new level at (ap is_some is) in
      let height = rewritten.height in
      let less : level < length old = omega (arith, height, there) in
      record { stood = stood less; least = begins less; below = λ lower one q q_fits within. lower_same lower one less q q_fits within }
    where
      ends_old : level < length old → EndsAt (level_of old level) at
      ends_old less = ends_before level at less (ap is_some is)

      -- It isn't the rewritten node of its level.
      apart : (less : level < length old) (high : from ≤ level) → is_at (pos_cmp (rewritten.each level high less).at) at ≡ false
      apart less high =
          at_or_not (rewritten.each level high less).at at (is_at (pos_cmp (rewritten.each level high less).at) at ≡ false)
          (λ same. absurd (not_away less high same)) (λ none. none)
        where
          not_away : (less : level < length old) (high : from ≤ level) → (rewritten.each level high less).at ≡ at → ⊥
          not_away less high same = ⊎_elim (λ low. omega (arith, low, high)) (λ none. none (subst (λ q. Covers (level_of old level) q pos) same (rewritten.each level high less).covers)) away

      stood : level < length old → IsNodeIn old level at node
      stood less =
          either_level level (IsNodeIn old level at node) (λ same low. subst (λ nodes. value_at pos_cmp at nodes ≡ Some node) same is)
          (λ high. sym (other_value pos (fresh level) (level_of old level) (level_of new level) (row_in level less) (rewritten.each level high less) at (apart less high)) ∙ is)

      begins : level < length old → least_of at (level_of new level) ≡ least_of at (level_of old level)
      begins less =
          either_level level (least_of at (level_of new level) ≡ least_of at (level_of old level)) (λ same low. ap (least_of at) same)
          (λ high. same_least pos (fresh level) (level_of old level) (level_of new level) (row_in level less) (rewritten.each level high less) at)

      lower_same : (lower : ℕ) → level ≡ suc lower → level < length old → (q : Pos) → PosFits q → IsWithin (least_of at (level_of old level)) at q → value_at pos_cmp q (level_of new lower) ≡ value_at pos_cmp q (level_of old lower)
      lower_same lower one less q q_fits within =
          either_level lower (value_at pos_cmp q (level_of new lower) ≡ value_at pos_cmp q (level_of old lower)) (λ same low. ap (value_at pos_cmp q) same)
          (λ high.
          let below : lower < length old = omega (arith, one, less) in
          let rewrite = rewritten.each lower high below in
          other_value pos (fresh lower) (level_of old lower) (level_of new lower) (row_in lower below) rewrite q
          (at_or_not rewrite.at q (is_at (pos_cmp rewrite.at) q ≡ false) (λ same. absurd (crossed high below same)) (λ none. none)))
        where
          crossed : (high : from ≤ lower) (below : lower < length old) → (rewritten.each lower high below).at ≡ q → ⊥
          crossed high below same =
              let up : from ≤ level = omega (arith, one, high) in
              let upper = rewritten.each level up less in
              let here : suc lower < length old = omega (arith, one, less) in
              let lies : Covers (level_of old level) upper.at q =
              subst (λ x. Covers (level_of old level) upper.at x) same
              (subst (λ n. Covers (level_of old n) upper.at (rewritten.each lower high below).at) (sym one)
              (under_upper lower (rewritten.each lower high below).at upper.at here (rewritten.each lower high below).covers (subst (λ n. Covers (level_of old n) upper.at pos) one upper.covers))) in
              let own : Covers (level_of old level) at q = record { there = ends_old less; within = within } in
              let same_end : upper.at ≡ at = covers_once (level_of old level) upper.at at q (row_in level less) q_fits lies own in
              ⊎_elim (λ low. omega (arith, low, up)) (λ none. none (subst (λ x. Covers (level_of old level) x pos) same_end upper.covers)) away

-- ---- the btree

module _ (one other : SetsOf) (btree : Btree) (root : NodePtr) (old new : Levels) (before after : Contents) (from : ℕ) (pos : Pos) (fresh : ℕ → NodePtr) (stands : StandsAsBtree one btree root old before) (within : from < length old) (fits : PosFits pos) (rewritten : IsRewritten from pos fresh old new)
    (stay : (level : ℕ) (at : Pos) (node : NodePtr) → IsNodeIn old level at node → (level < from) ⊎ (¬ Covers (level_of old level) at pos) → Stays one other before after node)
    (news : (level : ℕ) (at : Pos) → from ≤ level → level < length old → Covers (level_of old level) at pos → StandsAsNode other btree new after level at (fresh level)) where
  -- The last level is the rewritten root.
  top_is : IsUnderRoot (fresh (length old - 1)) new
  top_is =
      let less : length old - 1 < length old = omega (arith, within) in
      let high : from ≤ length old - 1 = omega (arith, within) in
      let is = rewritten.each (length old - 1) high less in
      ap (λ n. level_of new (n - 1)) rewritten.height ∙ is.new_is ∙ ap (with_value pos_cmp is.at (fresh (length old - 1))) stands.top
      ∙ only is.at (subst (λ nodes. EndsAt nodes is.at) stands.top is.covers.there)
    where
      only : (at : Pos) → EndsAt ((greatest_pos, root) ∷ []) at → with_value pos_cmp at (fresh (length old - 1)) ((greatest_pos, root) ∷ []) ≡ (greatest_pos, fresh (length old - 1)) ∷ []
      only at ends =
          at_or_not at greatest_pos (with_value pos_cmp at (fresh (length old - 1)) ((greatest_pos, root) ∷ []) ≡ (greatest_pos, fresh (length old - 1)) ∷ [])
          (λ same. ap (λ r. match_ordering r ((at, fresh (length old - 1)) ∷ (greatest_pos, root) ∷ []) ((greatest_pos, fresh (length old - 1)) ∷ []) ((greatest_pos, root) ∷ with_value pos_cmp at (fresh (length old - 1)) [])) (ap (λ q. pos_cmp q greatest_pos) same ∙ tied_itself pos_total greatest_pos))
          (λ apart. absurd (true≢false (sym ends ∙ ap (λ b. is_some (cond b (Some root) None)) apart)))

  -- Each node is the rewritten one of its level, or kept.
  each_node : (level : ℕ) (at : Pos) (node : NodePtr) → IsNodeIn new level at node → StandsAsNode other btree new after level at node ⊎ (IsKept old new level at node × Stays one other before after node)
  each_node level at node is = by_level (nat_lt level from) refl
    where
      height : length new ≡ length old
      height = rewritten.height

      less : level < length old
      less = let there = level-there new level at (ap is_some is) in let same = rewritten.height in omega (arith, same, there)

      kept : (level < from) ⊎ (¬ Covers (level_of old level) at pos) → IsKept old new level at node × Stays one other before after node
      kept away =
          let own = others_kept from pos fits fresh old new stands.tree rewritten level at node is away in
          (own, stay level at node own.stood away)

      by_level : (b : Bool) → nat_lt level from ≡ b → StandsAsNode other btree new after level at node ⊎ (IsKept old new level at node × Stays one other before after node)
      by_level true low = inr (kept (inl (ltb-true level from low)))
      by_level false past =
          let high = ltb-false level from past in
          let is_new = rewritten.each level high less in
          at_or_not is_new.at at (StandsAsNode other btree new after level at node ⊎ (IsKept old new level at node × Stays one other before after node))
          (λ same.
          let own = news level is_new.at high less is_new.covers in
          let node_is : fresh level ≡ node =
          same_Some (fresh level) node (sym (own_value pos (fresh level) (level_of old level) (level_of new level) (stands.tree.each level less).row is_new) ∙ ap (λ q. value_at pos_cmp q (level_of new level)) same ∙ is) in
          inl (subst (λ (n : Pos × NodePtr). StandsAsNode other btree new after level n.0 n.1) (λ i. (same i, node_is i)) own))
          (λ apart. inr (kept (inr (λ covers. true≢false (sym (at_same is_new.at at (covers_once (level_of old level) is_new.at at pos (stands.tree.each level less).row fits is_new.covers covers)) ∙ apart)))))
        where
          at_same : (p q : Pos) → p ≡ q → is_at (pos_cmp p) q ≡ true
          at_same p q same = ap (λ x. is_eq (pos_cmp p x)) (sym same) ∙ ap is_eq (tied_itself pos_total p)

  -- So the btree stands.
  pub rewritten_stands : StandsAsBtree other btree (fresh (length old - 1)) new after
  rewritten_stands = changed one other btree root old new before after stands (tree_stays from pos fits fresh old new stands.tree rewritten) (fresh (length old - 1)) top_is each_node

  -- With the same keys where a leaf has those of the one that it takes the place of.
  pub keys_stay : ((at : Pos) (node : NodePtr) → from ≡ 0 → IsNodeIn old 0 at node → Covers (level_of old 0) at pos → (after (fresh 0)).entries ≡ (before node).entries) → leaf_entries after new ≡ leaf_entries before old
  keys_stay same = same_keys one other btree root (fresh (length old - 1)) old new before after stands rewritten_stands at_each
    where
      some : 0 < length old
      some = omega (arith, within)

      row : IsRow (level_of old 0)
      row = leaf_row one btree root old before stands

      new_row : IsRow (level_of new 0)
      new_row = leaf_row other btree (fresh (length old - 1)) new after rewritten_stands

      least_same : (at : Pos) → least_of at (level_of new 0) ≡ least_of at (level_of old 0)
      least_same at =
          either_level from pos fits fresh old new stands.tree rewritten 0 (least_of at (level_of new 0) ≡ least_of at (level_of old 0)) (λ equal low. ap (least_of at) equal)
          (λ high. same_least pos (fresh 0) (level_of old 0) (level_of new 0) row (rewritten.each 0 high some) at)

      at_each : (q : Pos) (leaf node : Pos × NodePtr) → PosFits q → node_at q (level_of old 0) ≡ Some leaf → node_at q (level_of new 0) ≡ Some node → value_at pos_cmp q (after node.1).entries ≡ value_at pos_cmp q (before leaf.1).entries
      at_each q leaf node q_fits was now =
          let old_one = found_covers (level_of old 0) q leaf row q_fits was in
          let new_one = found_covers (level_of new 0) q node new_row q_fits now in
          let moved : Covers (level_of old 0) node.0 q = record { there = ends_before from pos fits fresh old new stands.tree rewritten 0 node.0 some new_one.1.there; within = subst (λ least. IsWithin least node.0 q) (least_same node.0) new_one.1.within } in
          let end : node.0 ≡ leaf.0 = covers_once (level_of old 0) node.0 leaf.0 q row q_fits moved old_one.1 in
          by (nat_lt 0 from) refl end old_one.0 new_one.0
        where
          kept_value : IsNodeIn old 0 leaf.0 leaf.1 → node.1 ≡ leaf.1 → (0 < from) ⊎ (¬ Covers (level_of old 0) leaf.0 pos) → value_at pos_cmp q (after node.1).entries ≡ value_at pos_cmp q (before leaf.1).entries
          kept_value old_there pointer away =
              ap (λ n. value_at pos_cmp q (after n).entries) pointer ∙ ap (λ content. value_at pos_cmp q content.entries) (stay 0 leaf.0 leaf.1 old_there away).content

          by : (b : Bool) → nat_lt 0 from ≡ b → node.0 ≡ leaf.0 → IsNodeIn old 0 leaf.0 leaf.1 → IsNodeIn new 0 node.0 node.1 → value_at pos_cmp q (after node.1).entries ≡ value_at pos_cmp q (before leaf.1).entries
          by true low end old_there new_there =
              let less = ltb-true 0 from low in
              let pointer : node.1 ≡ leaf.1 = same_Some node.1 leaf.1 (sym new_there ∙ ap (λ x. value_at pos_cmp x (level_of new 0)) end ∙ ap (value_at pos_cmp leaf.0) (rewritten.below 0 less) ∙ old_there) in
              kept_value old_there pointer (inl less)
          by false past end old_there new_there =
              let high = ltb-false 0 from past in
              let is_new = rewritten.each 0 high some in
              at_or_not is_new.at leaf.0 (value_at pos_cmp q (after node.1).entries ≡ value_at pos_cmp q (before leaf.1).entries)
              (λ equal.
              let pointer : node.1 ≡ fresh 0 = same_Some node.1 (fresh 0) (sym new_there ∙ ap (λ x. value_at pos_cmp x (level_of new 0)) (end ∙ sym equal) ∙ own_value pos (fresh 0) (level_of old 0) (level_of new 0) row is_new) in
              let zero_is : from ≡ 0 = omega (arith, high) in
              ap (λ n. value_at pos_cmp q (after n).entries) pointer
              ∙ ap (value_at pos_cmp q) (same leaf.0 leaf.1 zero_is old_there (subst (λ x. Covers (level_of old 0) x pos) equal is_new.covers)))
              (λ apart.
              let pointer : node.1 ≡ leaf.1 = same_Some node.1 leaf.1 (sym new_there ∙ ap (λ x. value_at pos_cmp x (level_of new 0)) end ∙ other_value pos (fresh 0) (level_of old 0) (level_of new 0) row is_new leaf.0 apart ∙ old_there) in
              kept_value old_there pointer (inr (λ covers. true≢false (sym (at_same is_new.at leaf.0 (covers_once (level_of old 0) is_new.at leaf.0 pos row fits is_new.covers covers)) ∙ apart))))
            where
              at_same : (p x : Pos) → p ≡ x → is_at (pos_cmp p) x ≡ true
              at_same p x equal = ap (λ y. is_eq (pos_cmp p y)) (sym equal) ∙ ap is_eq (tied_itself pos_total p)
