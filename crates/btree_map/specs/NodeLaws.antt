-- Btrees whose nodes were changed are btrees.
use Rattle.std.proofs.Common.{◌≡◌, ◌≢◌, ◌-◌, ◌+◌, ℕ, ◌<◌, Bool, true, false, cond, ◌||◌, Option, None, Some, List, [], ◌∷◌, length, refl, sym, ap, ◌∙◌, subst, arith}
use Rattle.std.specs.Prelude.{◌==◌, Err, IsSome, Ok, OnErr, OnOk, Result, is_some, slice_index_or, slice_set}
use Rattle.std.specs.Map.{keys_of}
use Rattle.std.specs.BTreeMap.{is_at}
use Rattle.std.specs.BTreeSet.{insert_key}
use Rattle.std.specs.Ordering.{is_eq, match_ordering}
use Rattle.std.specs.declared.cmp.Ordering.{Ordering}
use Rattle.std.specs.declared.cmp.Ordering.TheVariants.{Less, Equal, Greater}
use Rattle.std.proofs.lemmas.Bool.{false≢true, true≢false, eqb-true, eq-eqb}
use Rattle.std.proofs.lemmas.List.{get_or_append_left, get_or-set_same, get_or-set_other, length-set, set-get_or, set-set}
use Rattle.std.proofs.lemmas.Map.{lookup-none}
use Rattle.std.proofs.lemmas.Map.Entries.{none_below_head}
use Rattle.std.proofs.lemmas.Map.Keys.{sorted_tail}
use Rattle.std.proofs.lemmas.Option.{same_Some}
use Rattle.birth_index.specs.ExchangeLaws.{exchanges-head, exchanges-later}
use Rattle.birth_index.specs.Exchanges.{AreExchanges}
use Rattle.birth_index.specs.declared.name.Exchange.{Exchange}
use Rattle.btree_map.specs.FreshLaws.{code-lt}
use Rattle.btree_map.specs.StandLaws.{same_btree}
use Rattle.btree_map.specs.Trees.{IsBtree, IsTrees, Trees, cut_in, cut_of, cuts_divided, cuts_joined, levels_in, no_cut, with_divided, with_exchanged, with_levels, with_root}
use Rattle.node_mem.specs.MergeLaws.{keys_of-insert_entry}
use Rattle.tree_keys.specs.CutLaws.{IsCut-cut, is_end-cut}
use Rattle.tree_keys.specs.Cuts.{Cut, cut_at, is_end, joined_at}
use Rattle.tree_keys.specs.JoinAtLaws.{joined-cut}
use Rattle.tree_keys.specs.LeafLaws.{is_end-keys}
use Rattle.tree_keys.specs.OrderLaws.{at_itself, before_from_before_le, le_greatest, same_from_at}
use Rattle.tree_nodes.specs.CoverLaws.{covered-once, node_at-end}
use Rattle.tree_nodes.specs.Levels.{Covers, EndsAt, IsNodeOf, IsRow, IsTree, Level, Levels, divided, halved, level_of, with_node}
use Rattle.tree_nodes.specs.RowLaws.{at_end, ends-stay}
use Rattle.tree_nodes.specs.TreeLaws.{level-there, set-here, set-other, tree-divided, tree-grown, tree-height, tree-with_node}
use Rattle.vol_types.specs.Btrees.{btree_code}
use Rattle.vol_types.specs.MapLaws.{IsMap-with_value}
use Rattle.vol_types.specs.Maps.{IsMap, value_at, with_value}
use Rattle.vol_types.specs.PositionLaws.{pos_total}
use Rattle.vol_types.specs.Positions.{IsBefore, greatest_pos, pos_cmp}
use Rattle.vol_types.specs.Widths.{PosFits}
use Rattle.vol_types.specs.declared.pointers.NodePtr.{NodePtr}
use Rattle.vol_types.specs.declared.positions.Btree.{Btree}
use Rattle.vol_types.specs.declared.positions.Pos.{Pos}

-- No position is before itself.
less_itself : (p : Pos) → IsBefore p p → ⊥
less_itself p less = false≢true (sym (ap is_eq less) ∙ at_itself p)

-- Another node where one ends leaves the ends.
pub ends-replaced : (at : Pos) (node : NodePtr) (nodes : Level) → IsMap pos_cmp nodes → EndsAt nodes at → keys_of (with_value pos_cmp at node nodes) ≡ keys_of nodes
ends-replaced at node [] rises ends = absurd (true≢false (sym ends))
ends-replaced at node (e ∷ es) rises ends = by (pos_cmp at e.0) refl (ends-replaced at node es (sorted_tail pos_cmp e.0 (keys_of es) rises))
  where
    by : (r : Ordering) → pos_cmp at e.0 ≡ r → (EndsAt es at → keys_of (with_value pos_cmp at node es) ≡ keys_of es) → keys_of (match_ordering r ((at, node) ∷ e ∷ es) ((e.0, node) ∷ es) (e ∷ with_value pos_cmp at node es)) ≡ keys_of (e ∷ es)
    by Less is later = absurd (true≢false (sym ends ∙ ap is_some (lookup-none (is_at (pos_cmp at)) (e ∷ es) (none_below_head pos_total at e es rises is))))
    by Equal is later = refl
    by Greater is later = ap (λ (ks : List Pos). e.0 ∷ ks) (later (subst (λ r. IsSome (cond (is_eq r) (Some e.1) (value_at pos_cmp at es))) is ends))

-- The keys and the nodes of one btree may be others that make a btree.
pub trees-with_btree : (trees : Trees) (btree : Btree) (keys : List Cut) (levels : Levels) → IsTrees trees → length keys ≡ 9 → ((b : Btree) → btree_code b ≢ btree_code btree → cut_of keys b ≡ cut_in trees b) → IsBtree btree (cut_of keys btree) levels
    → IsTrees (record { keys = keys; nodes = slice_set trees.nodes (btree_code btree) levels })
trees-with_btree trees btree keys levels is count others here = record {
  key_count = count;
  node_count = length-set trees.nodes (btree_code btree) levels ∙ is.node_count;
  each = λ b. by b (btree_code b == btree_code btree) refl;
}
  where
    there : btree_code btree < length trees.nodes
    there = subst (λ n. btree_code btree < n) (sym is.node_count) (code-lt btree)

    by : (b : Btree) (t : Bool) → (btree_code b == btree_code btree) ≡ t → IsBtree b (cut_of keys b) (slice_index_or (slice_set trees.nodes (btree_code btree) levels) (btree_code b) [])
    by b true eq =
        let one = same_btree b btree (eqb-true (btree_code b) (btree_code btree) eq) in
        let set : slice_index_or (slice_set trees.nodes (btree_code btree) levels) (btree_code btree) [] ≡ levels = get_or-set_same trees.nodes (btree_code btree) levels [] there in
        subst (λ (x : Btree). IsBtree x (cut_of keys x) (slice_index_or (slice_set trees.nodes (btree_code btree) levels) (btree_code x) [])) (sym one) (subst (IsBtree btree (cut_of keys btree)) (sym set) here)
    by b false eq =
        let other = λ (e : btree_code b ≡ btree_code btree). true≢false (sym (eq-eqb (btree_code b) (btree_code btree) e) ∙ eq) in
        let same : slice_index_or (slice_set trees.nodes (btree_code btree) levels) (btree_code b) [] ≡ levels_in trees b = get_or-set_other trees.nodes (btree_code btree) (btree_code b) levels [] other in
        subst (λ (c : Cut). IsBtree b c (slice_index_or (slice_set trees.nodes (btree_code btree) levels) (btree_code b) [])) (sym (others b other)) (subst (IsBtree b (cut_in trees b)) (sym same) (is.each b))

-- Nodes that make a tree over the same leaves may take the place of those of a btree.
pub trees-with_levels : (trees : Trees) (btree : Btree) (levels : Levels) → IsTrees trees → IsTree levels → keys_of (level_of levels 0) ≡ keys_of (level_of (levels_in trees btree) 0) → IsTrees (with_levels btree levels trees)
trees-with_levels trees btree levels is tree same = trees-with_btree trees btree trees.keys levels is is.key_count (λ b other. refl) (record {
  keys = (is.each btree).keys;
  nodes = tree;
  leaves = (is.each btree).leaves ∙ sym same;
  stand = (is.each btree).stand;
})

-- Another pointer in the place of a node's leaves btrees.
pub trees-with_node : (trees : Trees) (btree : Btree) (level : ℕ) (at : Pos) (fresh : NodePtr) → IsTrees trees → EndsAt (level_of (levels_in trees btree) level) at → IsNodeOf level fresh
    → IsTrees (with_levels btree (with_node level at fresh (levels_in trees btree)) trees)
trees-with_node trees btree level at fresh is ends node =
    let levels = levels_in trees btree in
    let tree = (is.each btree).nodes in
    trees-with_levels trees btree (with_node level at fresh levels) is (tree-with_node levels level at tree ends fresh node) (by (0 == level) refl)
  where
    there : level < length (levels_in trees btree)
    there = level-there (levels_in trees btree) level at ends

    by : (t : Bool) → (0 == level) ≡ t → keys_of (level_of (with_node level at fresh (levels_in trees btree)) 0) ≡ keys_of (level_of (levels_in trees btree) 0)
    by true eq =
        let zero_is = eqb-true 0 level eq in
        ap keys_of (set-here (levels_in trees btree) level (with_value pos_cmp at fresh (level_of (levels_in trees btree) level)) there 0 zero_is)
        ∙ ends-replaced at fresh (level_of (levels_in trees btree) level) ((is.each btree).nodes.each level there).row.rises ends ∙ ap (λ n. keys_of (level_of (levels_in trees btree) n)) (sym zero_is)
    by false eq = ap keys_of (set-other (levels_in trees btree) level (with_value pos_cmp at fresh (level_of (levels_in trees btree) level)) there 0 (λ e. true≢false (sym (eq-eqb 0 level e) ∙ eq)))

-- Other pointers in the place of those of several nodes leave btrees.
pub trees-exchanged : (changes : List Exchange) (trees : Trees) → IsTrees trees → AreExchanges trees.nodes changes → IsTrees (with_exchanged changes trees)
trees-exchanged [] trees is are = is
trees-exchanged (change ∷ changes) trees is are =
    let name = change.name in
    let first = exchanges-head trees.nodes change changes are in
    trees-exchanged changes (with_levels name.btree (with_node name.level name.greatest change.pointer (levels_in trees name.btree)) trees)
    (trees-with_node trees name.btree name.level name.greatest change.pointer is first.there first.node) (exchanges-later trees.nodes change changes are)

module _ (trees : Trees) (btree : Btree) (level : ℕ) (at : Pos) (levels : Levels) (is : IsTrees trees) (tree : IsTree levels) (fits : PosFits at) (apart : level ≡ 0 → is_end at (cut_in trees btree).ends ≡ false)
    (leaves : level ≡ 0 → (cut_at at (cut_in trees btree)).ends ≡ keys_of (level_of levels 0)) (upper : level ≢ 0 → keys_of (level_of levels 0) ≡ keys_of (level_of (levels_in trees btree) 0)) where
  -- the keys of the btree, cut at the position
  abbrev cut : Cut
  cut = cut_at at (cut_in trees btree)

  there_cut : btree_code btree < length trees.keys
  there_cut = subst (λ n. btree_code btree < n) (sym is.key_count) (code-lt btree)

  -- Nodes of which one was divided may take the place of those of a btree, where the keys of a leaf are cut too.
  trees-with_divided : IsTrees (with_divided btree level at levels trees)
  trees-with_divided = by (level == 0) refl
    where
      by : (t : Bool) → (level == 0) ≡ t → IsTrees (record { keys = cond t (slice_set trees.keys (btree_code btree) cut) trees.keys; nodes = slice_set trees.nodes (btree_code btree) levels })
      by true eq =
          let leaf = eqb-true level 0 eq in
          let set : cut_of (slice_set trees.keys (btree_code btree) cut) btree ≡ cut = get_or-set_same trees.keys (btree_code btree) cut no_cut there_cut in
          trees-with_btree trees btree (slice_set trees.keys (btree_code btree) cut) levels is (length-set trees.keys (btree_code btree) cut ∙ is.key_count)
          (λ b other. get_or-set_other trees.keys (btree_code btree) (btree_code b) cut no_cut other)
          (subst (λ (c : Cut). IsBtree btree c levels) (sym set) (record {
            keys = IsCut-cut (cut_in trees btree) (is.each btree).keys at fits (apart leaf);
            nodes = tree;
            leaves = leaves leaf;
            stand = (is.each btree).stand;
          }))
      by false eq = trees-with_levels trees btree levels is tree (upper (λ e. true≢false (sym (eq-eqb level 0 e) ∙ eq)))

-- No node ends at a position before the end of the one that covers it.
isnt_end : (nodes : Level) (greatest at : Pos) → IsRow nodes → PosFits at → Covers nodes greatest at → IsBefore at greatest → is_end at (keys_of nodes) ≡ false
isnt_end nodes greatest at row fits covers before = is_end-keys at nodes ∙ by (value_at pos_cmp at nodes) refl (value_at pos_cmp greatest nodes) refl covers.there
  where
    by : (o : Option NodePtr) → value_at pos_cmp at nodes ≡ o → (g : Option NodePtr) → value_at pos_cmp greatest nodes ≡ g → IsSome g → is_some (value_at pos_cmp at nodes) ≡ false
    by None none g is some = ap is_some none
    by (Some node) found None is some = absurd (true≢false (sym some))
    by (Some node) found (Some other) is some =
        let same = same_Some (at, node) (greatest, other) (sym (node_at-end at node nodes row.rises found) ∙ covered-once at greatest other nodes row fits is covers.within) in
        absurd (less_itself at (subst (IsBefore at) (sym (ap (λ (e : Pos × NodePtr). e.0) same)) before))

-- The leaves of a btree, of which one was divided, end where its keys do that were cut there.
ends-halved : (keys : Cut) (nodes : Level) (greatest at : Pos) (first second : NodePtr) → keys.ends ≡ keys_of nodes → IsMap pos_cmp nodes → EndsAt nodes greatest → (cut_at at keys).ends ≡ keys_of (halved greatest at first second nodes)
ends-halved keys nodes greatest at first second leaves rises ends =
    ap (λ es. insert_key pos_cmp es at) leaves ∙ sym (keys_of-insert_entry pos_cmp at first nodes)
    ∙ sym (ends-replaced greatest second (with_value pos_cmp at first nodes) (IsMap-with_value pos_total at first nodes rises) (ends-stay at greatest first nodes ends))

module _ (trees : Trees) (btree : Btree) (level : ℕ) (greatest at : Pos) (is : IsTrees trees) (there : level < length (levels_in trees btree)) (covers : Covers (level_of (levels_in trees btree) level) greatest at) (before : IsBefore at greatest) (fits : PosFits at) where
  -- the nodes of the level
  abbrev nodes : Level
  nodes = level_of (levels_in trees btree) level

  row : IsRow nodes
  row = ((is.each btree).nodes.each level there).row

  ends_of_leaves : level ≡ 0 → (cut_in trees btree).ends ≡ keys_of nodes
  ends_of_leaves leaf = (is.each btree).leaves ∙ ap (λ n. keys_of (level_of (levels_in trees btree) n)) (sym leaf)

  -- A position before the end of the leaf that covers it isn't an end of the keys.
  pub apart-divided : level ≡ 0 → is_end at (cut_in trees btree).ends ≡ false
  apart-divided leaf = ap (is_end at) (ends_of_leaves leaf) ∙ isnt_end nodes greatest at row fits covers before

  -- And it is before the greatest one.
  pub before-greatest : IsBefore at greatest_pos
  before-greatest = before_from_before_le at greatest greatest_pos before (le_greatest greatest (at_end PosFits nodes greatest row.fits covers.there))

  -- Two nodes in the place of one leave btrees.
  pub trees-divided : (first second : NodePtr) → level + 1 < length (levels_in trees btree) → (0 < level → EndsAt (level_of (levels_in trees btree) (level - 1)) at) → IsNodeOf level first → IsNodeOf level second
      → IsTrees (with_divided btree level at (divided level greatest at first second (levels_in trees btree)) trees)
  trees-divided first second below child one other =
      let levels = levels_in trees btree in
      let halves = halved greatest at first second (level_of levels level) in
      trees-with_divided trees btree level at (divided level greatest at first second levels) is (tree-divided levels level greatest (is.each btree).nodes covers.there at first second fits child one other below) fits apart-divided
      (λ leaf. ends-halved (cut_in trees btree) nodes greatest at first second (ends_of_leaves leaf) row.rises covers.there ∙ ap keys_of (sym (set-here levels level halves there 0 (sym leaf))))
      (λ upper. ap keys_of (set-other levels level halves there 0 (λ same. upper (sym same))))

-- A level of one node, which covers all positions, doesn't end before the greatest one.
single_end : (at : Pos) (nodes : Level) → IsBefore at greatest_pos → length nodes ≡ 1 → EndsAt nodes greatest_pos → is_end at (keys_of nodes) ≡ false
single_end at [] before single there = refl
single_end at (e ∷ d ∷ es) before single there = absurd (omega (arith, single))
single_end at (e ∷ []) before single there = by (is_at (pos_cmp greatest_pos) e.0) refl there
  where
    by : (b : Bool) → is_at (pos_cmp greatest_pos) e.0 ≡ b → IsSome (cond b (Some e.1) None) → (is_at (pos_cmp at) e.0 || false) ≡ false
    by true here found = ap (λ (p : Pos). is_at (pos_cmp at) p || false) (sym (same_from_at greatest_pos e.0 here)) ∙ ap (λ r. is_eq r || false) before
    by false here found = absurd (true≢false (sym found))

module _ (trees : Trees) (btree : Btree) (at : Pos) (is : IsTrees trees) (before : IsBefore at greatest_pos) where
  -- the level of the root
  abbrev top : ℕ
  top = length (levels_in trees btree) - 1

  -- the root, alone
  abbrev alone : Level
  alone = level_of (levels_in trees btree) top

  some_level : 0 < length (levels_in trees btree)
  some_level = let few = tree-height (levels_in trees btree) (is.each btree).nodes in omega (arith, few.0)

  there_top : top < length (levels_in trees btree)
  there_top = omega (arith, some_level)

  ends_of_root : top ≡ 0 → (cut_in trees btree).ends ≡ keys_of alone
  ends_of_root leaf = (is.each btree).leaves ∙ ap (λ n. keys_of (level_of (levels_in trees btree) n)) (sym leaf)

  apart_top : top ≡ 0 → is_end at (cut_in trees btree).ends ≡ false
  apart_top leaf = ap (is_end at) (ends_of_root leaf) ∙ single_end at alone before (is.each btree).nodes.root ((is.each btree).nodes.each top there_top).ends

  -- A position before the greatest one isn't an end of the keys of a root that is a leaf.
  pub apart-rooted : length (levels_in trees btree) ≡ 1 → is_end at (cut_in trees btree).ends ≡ false
  apart-rooted one = apart_top (omega (arith, one))

  -- Two nodes in the place of a root, under a new one, leave btrees.
  pub trees-rooted : (first second root : NodePtr) → PosFits at → (1 < length (levels_in trees btree) → EndsAt (level_of (levels_in trees btree) (length (levels_in trees btree) - 2)) at)
      → IsNodeOf (length (levels_in trees btree) - 1) first → IsNodeOf (length (levels_in trees btree) - 1) second → IsNodeOf (length (levels_in trees btree)) root
      → IsTrees (with_divided btree (length (levels_in trees btree) - 1) at (with_root root at first second (levels_in trees btree)) trees)
  trees-rooted first second root fits child one other above =
      let levels = levels_in trees btree in
      let halves = halved greatest_pos at first second (level_of levels (length levels - 1)) in
      let level = (is.each btree).nodes.each top there_top in
      let lower : level_of (with_root root at first second levels) 0 ≡ level_of (slice_set levels top halves) 0 =
      get_or_append_left (slice_set levels top halves) (((greatest_pos, root) ∷ []) ∷ []) [] 0 (subst (λ n. 0 < n) (sym (length-set levels top halves)) some_level) in
      trees-with_divided trees btree top at (with_root root at first second levels) is (tree-grown levels at first second root (is.each btree).nodes fits child one other above) fits apart_top
      (λ leaf. ends-halved (cut_in trees btree) alone greatest_pos at first second (ends_of_root leaf) level.row.rises level.ends ∙ ap keys_of (sym (lower ∙ set-here levels top halves there_top 0 (sym leaf))))
      (λ upper. ap keys_of (lower ∙ set-other levels top halves there_top 0 (λ same. upper (sym same))))

module _ (cuts : List Cut) (code level : ℕ) (at : Pos) (there : code < length cuts) where
  -- the keys of the btree
  abbrev old : Cut
  old = slice_index_or cuts code no_cut

  -- Where a leaf was cut, one ends there.
  pub ends-cut : level ≡ 0 → is_end at (slice_index_or (cuts_divided code level at cuts) code no_cut).ends ≡ true
  ends-cut leaf =
      ap (λ (t : Bool). is_end at (slice_index_or (cond t (slice_set cuts code (cut_at at old)) cuts) code no_cut).ends) (eq-eqb level 0 leaf)
      ∙ ap (λ (c : Cut). is_end at c.ends) (get_or-set_same cuts code (cut_at at old) no_cut there)
      ∙ is_end-cut at at old.ends ∙ ap (λ b. b || is_end at old.ends) (at_itself at)

  -- Where it is joined again, the keys are as before.
  pub cuts-undone : (level ≡ 0 → is_end at (slice_index_or cuts code no_cut).ends ≡ false) → cuts_joined code level at (cuts_divided code level at cuts) ≡ cuts
  cuts-undone apart = by (level == 0) refl
    where
      by : (t : Bool) → (level == 0) ≡ t → cond t (slice_set (cond t (slice_set cuts code (cut_at at old)) cuts) code (joined_at at (slice_index_or (cond t (slice_set cuts code (cut_at at old)) cuts) code no_cut))) (cond t (slice_set cuts code (cut_at at old)) cuts) ≡ cuts
      by true eq =
          ap (λ (c : Cut). slice_set (slice_set cuts code (cut_at at old)) code (joined_at at c)) (get_or-set_same cuts code (cut_at at old) no_cut there)
          ∙ ap (slice_set (slice_set cuts code (cut_at at old)) code) (joined-cut old at (apart (eqb-true level 0 eq)))
          ∙ set-set cuts code (cut_at at old) old ∙ set-get_or cuts code no_cut
      by false eq = refl

-- And btrees are left where both were changed or all is as it was.
pub trees-changed-or : {T E : Type 0} (result : Result T E) (trees after : Trees) (keys : List Cut) (levels : List Levels) → IsTrees trees → OnOk result (keys ≡ after.keys) → OnOk result (levels ≡ after.nodes) → OnErr result (keys ≡ trees.keys) → OnErr result (levels ≡ trees.nodes)
    → IsTrees after → IsTrees (record { keys = keys; nodes = levels })
trees-changed-or (Ok value) trees after keys levels is made set kept stay done = subst IsTrees (λ i. record { keys = sym made i; nodes = sym set i }) done
trees-changed-or (Err error) trees after keys levels is made set kept stay done = subst IsTrees (λ i. record { keys = sym kept i; nodes = sym stay i }) is
