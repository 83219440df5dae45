-- What the nodes of the other levels hold after a change, and what the halves of a node do.
use Rattle.std.proofs.Common.{◌≡◌, ◌≢◌, ℕ, ◌+◌, ◌-◌, ◌<◌, Bool, true, false, cond, ◌&&◌, [], ◌∷◌, length, map, refl, sym, ap, ◌∙◌, subst, arith}
use Rattle.std.specs.Prelude.{◌==◌, All, IsSome, Option, Some, None, slice_set, unwrap_or}
use Rattle.std.specs.List.{filter}
use Rattle.std.specs.Map.{keys_of}
use Rattle.std.specs.Ordering.{is_le, is_lt}
use Rattle.std.specs.declared.cmp.Ordering.{Ordering}
use Rattle.std.specs.declared.cmp.Ordering.TheVariants.{Less, Equal, Greater}
use Rattle.std.proofs.lemmas.Bool.{true≢false}
use Rattle.std.proofs.lemmas.Option.{same_Some}
use Rattle.std.proofs.lemmas.List.Elements.{All-head, All-tail}
use Rattle.vol_types.specs.Maps.{value_at}
use Rattle.vol_types.specs.PositionLaws.{pos_total, pos_exact, is_within-iff}
use Rattle.vol_types.specs.Positions.{pos_cmp, IsBefore, greatest_pos, is_within}
use Rattle.vol_types.specs.Widths.{PosFits}
use Rattle.vol_types.specs.declared.keys.Update.{Update}
use Rattle.vol_types.specs.declared.pointers.NodePtr.{NodePtr}
use Rattle.vol_types.specs.declared.positions.Btree.{Btree}
use Rattle.vol_types.specs.declared.positions.Pos.{Pos}
use Rattle.tree_nodes.specs.ChildLaws.{parent-covers}
use Rattle.tree_nodes.specs.CoverLaws.{covered-once}
use Rattle.vol_types.specs.FollowerLaws.{follows-test, not_greatest}
use Rattle.tree_nodes.specs.Levels.{Level, Levels, Covers, EndsAt, IsRow, IsTree, children_of, divided, halved, least_of, level_of, with_node}
use Rattle.tree_nodes.specs.RangeLaws.{least-first_half, least-other, least-replaced, least-second_half}
use Rattle.tree_nodes.specs.RowLaws.{at_end}
use Rattle.tree_nodes.specs.TreeLaws.{either, level-there, set-here, set-other}
use Rattle.interior.specs.Contents.{content_of, entries_past, entries_up_to, entry_of, node_update, rewrite_updates, split_updates, updates_within}

-- nodes that pass two tests one after the other pass the one that is both
kept_twice : (p q both : Pos → Bool) → ((x : Pos) → PosFits x → both x ≡ (p x && q x)) → (nodes : Level) → All PosFits (keys_of nodes) → filter (λ e. both e.0) nodes ≡ filter (λ e. q e.0) (filter (λ e. p e.0) nodes)
kept_twice p q both same [] fits = refl
kept_twice p q both same (e ∷ es) fits =
    ap (λ b. cond b (e ∷ filter (λ x. both x.0) es) (filter (λ x. both x.0) es)) (same e.0 (All-head PosFits e.0 (keys_of es) fits))
    ∙ ap (λ xs. cond (p e.0 && q e.0) (e ∷ xs) xs) (kept_twice p q both same es (All-tail PosFits e.0 (keys_of es) fits)) ∙ by (p e.0) (filter (λ x. p x.0) es)
  where
    by : (b : Bool) (kept : Level) → cond (b && q e.0) (e ∷ filter (λ x. q x.0) kept) (filter (λ x. q x.0) kept) ≡ filter (λ x. q x.0) (cond b (e ∷ kept) kept)
    by true kept = refl
    by false kept = refl

-- the entries of the nodes that pass a test are the entries that pass it
entries_kept : (p : Pos → Bool) (nodes : Level) → map entry_of (filter (λ e. p e.0) nodes) ≡ filter (λ e. p e.0) (map entry_of nodes)
entries_kept p [] = refl
entries_kept p (e ∷ es) = by (p e.0) (entries_kept p es)
  where
    by : (b : Bool) → map entry_of (filter (λ e. p e.0) es) ≡ filter (λ e. p e.0) (map entry_of es) → map entry_of (cond b (e ∷ filter (λ e. p e.0) es) (filter (λ e. p e.0) es)) ≡ cond b (entry_of e ∷ filter (λ e. p e.0) (map entry_of es)) (filter (λ e. p e.0) (map entry_of es))
    by true later = ap (λ xs. entry_of e ∷ xs) later
    by false later = later

-- a test that a stricter one implies adds nothing to it
shorter : (low high up : Bool) → (up ≡ true → high ≡ true) → (low && up) ≡ ((low && high) && up)
shorter true true up so = refl
shorter true false true so = absurd (true≢false (sym (so refl)))
shorter true false false so = refl
shorter false high up so = refl

-- the same where the lower end moves up
later : (new low high past : Bool) → new ≡ past → (past ≡ true → low ≡ true) → (new && high) ≡ ((low && high) && past)
later new low high past is so = ap (λ b. b && high) is ∙ by low high past so
  where
    by : (low high past : Bool) → (past ≡ true → low ≡ true) → (past && high) ≡ ((low && high) && past)
    by true true true so = refl
    by true true false so = refl
    by true false true so = refl
    by true false false so = refl
    by false high true so = absurd (true≢false (sym (so refl)))
    by false high false so = refl

-- what isn't after a position that is before another isn't after that
le_before : (x at greatest : Pos) → IsBefore at greatest → is_le (pos_cmp x at) ≡ true → is_le (pos_cmp x greatest) ≡ true
le_before x at greatest before le = by (pos_cmp x at) refl
  where
    by : (r : Ordering) → pos_cmp x at ≡ r → is_le (pos_cmp x greatest) ≡ true
    by Less is = ap is_le (pos_total.trans x at greatest is before)
    by Equal is = ap (λ q. is_le (pos_cmp q greatest)) (pos_exact x at is) ∙ ap is_le before
    by Greater is = absurd (true≢false (sym le ∙ ap is_le is))

-- what is after a position is after one that isn't after it
before_lt : (least at x : Pos) → pos_cmp least at ≢ Greater → is_lt (pos_cmp at x) ≡ true → is_le (pos_cmp least x) ≡ true
before_lt least at x low lt = by (pos_cmp at x) refl
  where
    from : IsBefore at x → (r : Ordering) → pos_cmp least at ≡ r → is_le (pos_cmp least x) ≡ true
    from before Less is = ap is_le (pos_total.trans least at x is before)
    from before Equal is = ap (λ q. is_le (pos_cmp q x)) (pos_exact least at is) ∙ ap is_le before
    from before Greater is = absurd (low is)

    by : (r : Ordering) → pos_cmp at x ≡ r → is_le (pos_cmp least x) ≡ true
    by Less is = from is (pos_cmp least at) refl
    by Equal is = absurd (true≢false (sym lt ∙ ap is_lt is))
    by Greater is = absurd (true≢false (sym lt ∙ ap is_lt is))

module _ (levels : Levels) (level : ℕ) (nodes : Level) (there : level < length levels) (other : ℕ) (above : 0 < other) (away : other ≢ level + 1) (at : Pos) where
  -- the level below is as it was
  below-same : level_of (slice_set levels level nodes) (other - 1) ≡ level_of levels (other - 1)
  below-same = set-other levels level nodes there (other - 1) (λ is. away (omega (arith, above, is)))

  -- what a node of another level holds is what it held, where its range is the same
  elsewhere : (other ≡ level → least_of at nodes ≡ least_of at (level_of levels level)) → content_of (slice_set levels level nodes) other at ≡ content_of levels other at
  elsewhere same =
      ap (λ xs. map entry_of (children_of at (level_of (slice_set levels level nodes) other) xs)) below-same
      ∙ either other level (map entry_of (children_of at (level_of (slice_set levels level nodes) other) (level_of levels (other - 1))) ≡ content_of levels other at)
      (λ is. ap (λ m. map entry_of (filter (λ c. is_within m at c.0) (level_of levels (other - 1)))) (ap (least_of at) (set-here levels level nodes there other is) ∙ same is ∙ ap (λ n. least_of at (level_of levels n)) (sym is)))
      (λ isnt. ap (λ xs. map entry_of (children_of at xs (level_of levels (other - 1)))) (set-other levels level nodes there other isnt))

-- a pointer in the place of one changes only what the node above holds
pub others-replaced : (levels : Levels) (level other : ℕ) (greatest at : Pos) (fresh : NodePtr) → IsTree levels → EndsAt (level_of levels level) greatest → 0 < other → other ≢ level + 1 → content_of (with_node level greatest fresh levels) other at ≡ content_of levels other at
others-replaced levels level other greatest at fresh tree ends above away =
    let there = level-there levels level greatest ends in
    elsewhere levels level _ there other above away at (λ is. least-replaced at greatest fresh (level_of levels level) (tree.each level there).row.rises ends)

-- what is there has a value
value_of : (o : Option NodePtr) → IsSome o → (node : NodePtr) × (o ≡ Some node)
value_of None some = absurd (true≢false (sym some))
value_of (Some node) some = (node, refl)

-- a position that one node covers is in the range of no other
outside : (nodes : Level) (parent q pos : Pos) → IsRow nodes → PosFits pos → Covers nodes parent pos → EndsAt nodes q → q ≢ parent → is_within (least_of q nodes) q pos ≡ false
outside nodes parent q pos row fits covers ends apart = by (is_within (least_of q nodes) q pos) refl
  where
    by : (b : Bool) → is_within (least_of q nodes) q pos ≡ b → is_within (least_of q nodes) q pos ≡ false
    by true is =
        let one = value_of (value_at pos_cmp q nodes) ends in
        let other = value_of (value_at pos_cmp parent nodes) covers.there in
        let here = covered-once pos q one.0 nodes row fits one.1 ((is_within-iff (least_of q nodes) q pos).0 is) in
        let there = covered-once pos parent other.0 nodes row fits other.1 covers.within in
        absurd (apart (ap (λ (n : Pos × NodePtr). n.0) (same_Some (q, one.0) (parent, other.0) (sym here ∙ there))))
    by false is = is

-- one update in the range of a node, or out of it
one_within : (b : Bool) (t : Update → Bool) (update : Update) → t update ≡ true → filter t (cond b [] (update ∷ [])) ≡ cond b [] (update ∷ [])
one_within true t update is = refl
one_within false t update is = ap (λ b. cond b (update ∷ []) []) is

none_within : (b : Bool) (t : Update → Bool) (update : Update) → t update ≡ false → filter t (cond b [] (update ∷ [])) ≡ []
none_within true t update is = refl
none_within false t update is = ap (λ b. cond b (update ∷ []) []) is

two_outside : (b : Bool) (t : Update → Bool) (one two : Update) → t one ≡ false → t two ≡ false → filter t (cond b [] (one ∷ two ∷ [])) ≡ []
two_outside true t one two first second = refl
two_outside false t one two first second = ap (λ b. cond b (one ∷ filter t (two ∷ [])) (filter t (two ∷ []))) first ∙ ap (λ b. cond b (two ∷ []) []) second

module _ (levels : Levels) (level : ℕ) (greatest parent : Pos) (fresh : NodePtr) (btree : Btree) (tree : IsTree levels) (covers : Covers (level_of levels (level + 1)) parent greatest) where
  upper : IsRow (level_of levels (level + 1))
  upper = (tree.each (level + 1) (level-there levels (level + 1) parent covers.there)).row

  -- the update of a pointer is in the range of the node above
  pub rewrite-within : updates_within parent (level_of levels (level + 1)) (rewrite_updates btree levels level greatest fresh) ≡ rewrite_updates btree levels level greatest fresh
  rewrite-within =
      one_within (level + 1 == length levels) (λ u. is_within (least_of parent (level_of levels (level + 1))) parent u.pos) (node_update btree (level + 1) greatest fresh)
      ((is_within-iff (least_of parent (level_of levels (level + 1))) parent greatest).1 covers.within)

  -- and of no other
  pub rewrite-away : (q : Pos) → PosFits greatest → EndsAt (level_of levels (level + 1)) q → q ≢ parent → updates_within q (level_of levels (level + 1)) (rewrite_updates btree levels level greatest fresh) ≡ []
  rewrite-away q fits ends apart =
      none_within (level + 1 == length levels) (λ u. is_within (least_of q (level_of levels (level + 1))) q u.pos) (node_update btree (level + 1) greatest fresh)
      (outside (level_of levels (level + 1)) parent q greatest upper fits covers ends apart)

module _ (levels : Levels) (level : ℕ) (greatest at : Pos) (first second : NodePtr) (tree : IsTree levels) (fits : PosFits at) (covers : Covers (level_of levels level) greatest at) (before : IsBefore at greatest) where
  there : level < length levels
  there = level-there levels level greatest covers.there

  -- a division changes only what the node above holds, beside the node itself
  pub others-divided : (other : ℕ) (q : Pos) → 0 < other → other ≢ level + 1 → EndsAt (level_of levels other) q → (other ≡ level → q ≢ greatest) → content_of (divided level greatest at first second levels) other q ≡ content_of levels other q
  others-divided other q above away ends apart =
      elsewhere levels level (halved greatest at first second (level_of levels level)) there other above away q
      (λ is. least-other greatest at first second (level_of levels level) (tree.each level there).row fits covers before q (subst (λ n. EndsAt (level_of levels n) q) is ends) (apart is))

  -- what a node of the level held before and holds after the division, by the range that it has
  held : 0 < level → (q : Pos) → content_of (divided level greatest at first second levels) level q ≡ map entry_of (filter (λ c. is_within (least_of q (halved greatest at first second (level_of levels level))) q c.0) (level_of levels (level - 1)))
  held above q =
      ap (λ xs. map entry_of (children_of q (level_of (divided level greatest at first second levels) level) xs)) (below-same levels level (halved greatest at first second (level_of levels level)) there level above (λ is. omega (arith, is)) at)
      ∙ ap (λ xs. map entry_of (children_of q xs (level_of levels (level - 1)))) (set-here levels level (halved greatest at first second (level_of levels level)) there level refl)

  below_fits : 0 < level → All PosFits (keys_of (level_of levels (level - 1)))
  below_fits above = (tree.each (level - 1) (omega (arith, there))).row.fits

  -- the first half has what the node held up to the position
  pub first_half : 0 < level → content_of (divided level greatest at first second levels) level at ≡ entries_up_to at (content_of levels level greatest)
  first_half above =
      held above at
      ∙ ap (λ m. map entry_of (filter (λ c. is_within m at c.0) (level_of levels (level - 1)))) (least-first_half greatest at first second (level_of levels level) (tree.each level there).row fits covers before)
      ∙ ap (map entry_of) (kept_twice (λ x. is_within (least_of greatest (level_of levels level)) greatest x) (λ x. is_le (pos_cmp x at)) (λ x. is_within (least_of greatest (level_of levels level)) at x)
      (λ x x_fits. shorter (is_le (pos_cmp (least_of greatest (level_of levels level)) x)) (is_le (pos_cmp x greatest)) (is_le (pos_cmp x at)) (le_before x at greatest before)) (level_of levels (level - 1)) (below_fits above))
      ∙ entries_kept (λ x. is_le (pos_cmp x at)) (children_of greatest (level_of levels level) (level_of levels (level - 1)))

  -- the second half has what the node held after the position
  pub second_half : 0 < level → content_of (divided level greatest at first second levels) level greatest ≡ entries_past at (content_of levels level greatest)
  second_half above =
      let next = least-second_half greatest at first second (level_of levels level) (tree.each level there).row fits covers before in
      let isnt = not_greatest at greatest fits (at_end PosFits (level_of levels level) greatest (tree.each level there).row.fits covers.there) before in
      held above greatest
      ∙ ap (map entry_of) (kept_twice (λ x. is_within (least_of greatest (level_of levels level)) greatest x) (λ x. is_lt (pos_cmp at x)) (λ x. is_within (least_of greatest (halved greatest at first second (level_of levels level))) greatest x)
      (λ x x_fits. later (is_le (pos_cmp (least_of greatest (halved greatest at first second (level_of levels level))) x)) (is_le (pos_cmp (least_of greatest (level_of levels level)) x)) (is_le (pos_cmp x greatest)) (is_lt (pos_cmp at x))
      (ap (λ o. is_le (pos_cmp (unwrap_or o greatest_pos) x)) (sym next) ∙ follows-test at x fits x_fits isnt) (before_lt (least_of greatest (level_of levels level)) at x covers.within.0)) (level_of levels (level - 1)) (below_fits above))
      ∙ entries_kept (λ x. is_lt (pos_cmp at x)) (children_of greatest (level_of levels level) (level_of levels (level - 1)))

  -- both updates of a division are in the range of the node above
  pub both-within : (btree : Btree) (parent : Pos) → Covers (level_of levels (level + 1)) parent greatest → updates_within parent (level_of levels (level + 1)) (split_updates btree levels level greatest at first second) ≡ split_updates btree levels level greatest at first second
  both-within btree parent outer =
      let inner = parent-covers (level_of levels (level + 1)) (level_of levels level) (tree.each (level + 1) (level-there levels (level + 1) parent outer.there)).row (tree.each level there).row (tree.nested level) parent greatest at fits outer covers in
      let in_at = (is_within-iff (least_of parent (level_of levels (level + 1))) parent at).1 inner.within in
      let in_end = (is_within-iff (least_of parent (level_of levels (level + 1))) parent greatest).1 outer.within in
      by (level + 1 == length levels) in_at in_end
    where
      by : (b : Bool) → is_within (least_of parent (level_of levels (level + 1))) parent at ≡ true → is_within (least_of parent (level_of levels (level + 1))) parent greatest ≡ true
          → updates_within parent (level_of levels (level + 1)) (cond b [] (node_update btree (level + 1) at first ∷ node_update btree (level + 1) greatest second ∷ [])) ≡ cond b [] (node_update btree (level + 1) at first ∷ node_update btree (level + 1) greatest second ∷ [])
      by true in_at in_end = refl
      by false in_at in_end =
          ap (λ b. cond b (node_update btree (level + 1) at first ∷ updates_within parent (level_of levels (level + 1)) (node_update btree (level + 1) greatest second ∷ [])) (updates_within parent (level_of levels (level + 1)) (node_update btree (level + 1) greatest second ∷ []))) in_at
          ∙ ap (λ b. node_update btree (level + 1) at first ∷ cond b (node_update btree (level + 1) greatest second ∷ []) []) in_end

  -- and in that of no other
  pub both-away : (btree : Btree) (parent q : Pos) → Covers (level_of levels (level + 1)) parent greatest → EndsAt (level_of levels (level + 1)) q → q ≢ parent → updates_within q (level_of levels (level + 1)) (split_updates btree levels level greatest at first second) ≡ []
  both-away btree parent q outer ends apart =
      let row = (tree.each (level + 1) (level-there levels (level + 1) parent outer.there)).row in
      let lower = (tree.each level there).row in
      let inner = parent-covers (level_of levels (level + 1)) (level_of levels level) row lower (tree.nested level) parent greatest at fits outer covers in
      two_outside (level + 1 == length levels) (λ u. is_within (least_of q (level_of levels (level + 1))) q u.pos) (node_update btree (level + 1) at first) (node_update btree (level + 1) greatest second)
      (outside (level_of levels (level + 1)) parent q at row fits inner ends apart)
      (outside (level_of levels (level + 1)) parent q greatest row (at_end PosFits (level_of levels level) greatest lower.fits covers.there) outer ends apart)
