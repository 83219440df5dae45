-- The first leaf that would be too large is one of the leaves, and what it holds is known step by step.
use Rattle.std.proofs.Common.{◌≡◌, ℕ, ◌+◌, ◌<◌, ◌≤◌, ⊎_elim, Bool, true, false, cond, Option, Some, None, List, [], ◌∷◌, ◌++◌, take, get_or, length, map, refl, sym, ap, ◌∙◌, subst, arith}
use Rattle.std.specs.Prelude.{◌&&◌, ◌||◌, ◌≢◌, IsSome, is_some, option_map, unwrap_or}
use Rattle.std.specs.BTreeMap.{is_at}
use Rattle.std.specs.List.{filter}
use Rattle.std.proofs.lemmas.Bool.{true≢false, ltb-true}
use Rattle.std.proofs.lemmas.List.{take_more}
use Rattle.birth_index.specs.Births.{BirthsDiffer, birth_of, node_of}
use Rattle.birth_index.specs.declared.name.NodeName.{NodeName}
use Rattle.btree_map.specs.Sizes.{all_btrees, change_of, changes_in, leaf_birth, sizes_in, sizes_of_updates}
use Rattle.btree_map.specs.Trees.{IsTrees, Trees, cut_in, levels_in}
use Rattle.btree_map.specs.declared.sizes.NodeSize.{NodeSize}
use Rattle.dirty_nodes.specs.Splits.{IsLargeLeaf, first_large, is_large}
use Rattle.node_mem.specs.CountLaws.{set_length-le}
use Rattle.node_mem.specs.MergeLaws.{with_keys-append}
use Rattle.node_mem.specs.Nodes.{IsNode, Node, size_of, with_keys}
use Rattle.tree_keys.specs.Counts.{leaf_size}
use Rattle.tree_keys.specs.Cuts.{Cut, IsCut, end_of, is_end, leaf_entries, start_of, with_entries}
use Rattle.tree_keys.specs.LeafLaws.{IsCut-put_at, is_end-keys, leaf_entries-put_at, leaf_entries-untouched, leaf_test}
use Rattle.tree_keys.specs.OrderLaws.{at_itself, same_from_at}
use Rattle.tree_keys.specs.Sizes.{sizes_after, touches}
use Rattle.tree_keys.specs.declared.sizing.LeafSize.{LeafSize}
use Rattle.tree_nodes.specs.Levels.{level_of}
use Rattle.vol_types.specs.KeyMaps.{Entries, is_update_of}
use Rattle.vol_types.specs.Limits.{node_limit}
use Rattle.vol_types.specs.Maps.{put_at}
use Rattle.vol_types.specs.Positions.{is_within, pos_cmp}
use Rattle.vol_types.specs.Ranges.{IsKeyValue}
use Rattle.vol_types.specs.Widths.{PosFits}
use Rattle.vol_types.specs.declared.keys.Key.{Key}
use Rattle.vol_types.specs.declared.keys.Update.{Update}
use Rattle.vol_types.specs.declared.pointers.NodePtr.{NodePtr}
use Rattle.vol_types.specs.declared.positions.Btree.{Btree}
use Rattle.vol_types.specs.declared.positions.Pos.{Pos}
use Rattle.dirty_nodes.proofs.Members.{FromOne, IsIn, first_in, from_filter, from_flat, from_map}

-- what is larger than nodes may be has two positions at least
pub large_has_two : (node : Node) → IsNode node → node_limit < size_of node.entries → 2 ≤ length node.entries
large_has_two node is large = omega (arith, large, set_length-le node.entries is.in_range)

end_in : (end : Pos) (ends : List Pos) → IsIn end ends → is_end end ends ≡ true
end_in end [] is = absurd is
end_in end (e ∷ es) is = ⊎_elim (λ (same : end ≡ e). ap (λ (p : Pos). is_at (pos_cmp end) p || is_end end es) (sym same) ∙ ap (λ b. b || is_end end es) (at_itself end)) (λ (later : IsIn end es). ap (λ b. is_at (pos_cmp end) e || b) (end_in end es later) ∙ or_true (is_at (pos_cmp end) e)) is
  where
    or_true : (b : Bool) → (b || true) ≡ true
    or_true true = refl
    or_true false = refl

-- The first leaf that would be too large has a name.
pub record HasLargeLeaf (trees : Trees) (updates : List Update) (large : NodeSize) : Type 0 where
  pub name : NodeName
  pub born : birth_of trees.nodes name ≡ Some large.birth
  pub is : IsLargeLeaf trees updates large name

module _ (trees : Trees) (updates : List Update) (sound : IsTrees trees) where
  leaf_born : (btree : Btree) (end : Pos) → is_end end (cut_in trees btree).ends ≡ true → birth_of trees.nodes (record { btree = btree; level = 0; greatest = end }) ≡ Some (leaf_birth trees btree end)
  leaf_born btree end is =
      by (birth_of trees.nodes (record { btree = btree; level = 0; greatest = end }))
      (there (node_of trees.nodes (record { btree = btree; level = 0; greatest = end }))
      (sym (is_end-keys end (level_of (levels_in trees btree) 0)) ∙ ap (is_end end) (sym (sound.each btree).leaves) ∙ is))
    where
      there : (o : Option NodePtr) → is_some o ≡ true → IsSome (option_map (λ (n : NodePtr). n.birth) o)
      there None some = some
      there (Some node) some = refl

      by : (o : Option ℕ) → IsSome o → o ≡ Some (unwrap_or o 0)
      by None some = absurd (true≢false (sym some))
      by (Some birth) some = refl

  large_at : (large : NodeSize) (btree : Btree) (end : Pos) → is_large large ≡ true → IsIn end (cut_in trees btree).ends
      → large ≡ record { birth = leaf_birth trees btree end; size = leaf_size end (with_entries (cut_in trees btree) (with_keys (changes_in btree updates) (cut_in trees btree).entries)) }
      → HasLargeLeaf trees updates large
  large_at large btree end test is same =
      let has : is_end end (cut_in trees btree).ends ≡ true = end_in end (cut_in trees btree).ends is in
      let born : birth_of trees.nodes (record { btree = btree; level = 0; greatest = end }) ≡ Some large.birth = leaf_born btree end has ∙ ap (λ (s : NodeSize). Some s.birth) (sym same) in
      record {
        name = record { btree = btree; level = 0; greatest = end };
        born = born;
        is = record { birth = born; there = has; size = ap (λ (s : NodeSize). s.size) (sym same); over = ltb-true node_limit large.size test };
      }

  pub large_leaf : (large : NodeSize) → first_large trees updates ≡ Some large → HasLargeLeaf trees updates large
  large_leaf large first = in_btree (from_flat (sizes_in trees updates) large all_btrees passed.0)
    where
      passed : IsIn large (sizes_of_updates trees updates) × (is_large large ≡ true)
      passed = from_filter is_large large (sizes_of_updates trees updates) (first_in large (filter is_large (sizes_of_updates trees updates)) first)

      in_btree : FromOne (sizes_in trees updates) large all_btrees → HasLargeLeaf trees updates large
      in_btree r =
          let m = from_map (λ (leaf : LeafSize). record { birth = leaf_birth trees r.one leaf.end; size = leaf.size }) large (sizes_after (changes_in r.one updates) (cut_in trees r.one)) r.gives in
          let cut : Cut = cut_in trees r.one in
          let n = from_map (λ (end : Pos). record { end = end; size = leaf_size end (with_entries cut (with_keys (changes_in r.one updates) cut.entries)) }) m.one (filter (λ (end : Pos). touches end (changes_in r.one updates) cut.ends) cut.ends) m.there in
          large_at large r.one n.one passed.1 (from_filter (λ (end : Pos). touches end (changes_in r.one updates) cut.ends) n.one cut.ends n.there).0
          (m.made ∙ ap (λ (leaf : LeafSize). record { birth = leaf_birth trees r.one leaf.end; size = leaf.size }) n.made)

-- a name that has its birth is its name
pub large_named : (trees : Trees) (updates : List Update) (large : NodeSize) (name : NodeName) (node : NodePtr) → IsTrees trees → first_large trees updates ≡ Some large → BirthsDiffer trees.nodes
    → node_of trees.nodes name ≡ Some node → node.birth ≡ large.birth → IsLargeLeaf trees updates large name
large_named trees updates large name node sound first differ is born =
    let h : HasLargeLeaf trees updates large = large_leaf trees updates sound large first in
    subst (IsLargeLeaf trees updates large) (differ h.name name large.birth h.born (ap (option_map (λ (n : NodePtr). n.birth)) is ∙ ap Some born)) h.is

-- and a node has it
pub large_there : (trees : Trees) (updates : List Update) (large : NodeSize) → IsTrees trees → first_large trees updates ≡ Some large → ((name : NodeName) → birth_of trees.nodes name ≢ Some large.birth) → ⊥
large_there trees updates large sound first none = let h : HasLargeLeaf trees updates large = large_leaf trees updates sound large first in none h.name h.born

changes_more : (btree : Btree) (updates : List Update) (place : ℕ) (update : Update) → place < length updates → update ≡ get_or updates place update → (b : Bool) → is_update_of btree update ≡ b
    → (entries : Entries) → with_keys (changes_in btree (take (place + 1) updates)) entries ≡ cond b (put_at pos_cmp update.pos update.value (with_keys (changes_in btree (take place updates)) entries)) (with_keys (changes_in btree (take place updates)) entries)
changes_more btree updates place update lt is b test entries =
    ap (λ (us : List Update). with_keys (changes_in btree us) entries) (take_more updates place update lt ∙ ap (λ (u : Update). take place updates ++ u ∷ []) (sym is))
    ∙ ap (λ (ks : List Key). with_keys ks entries) (pushed (take place updates)) ∙ by b
  where
    pushed : (us : List Update) → changes_in btree (us ++ update ∷ []) ≡ changes_in btree us ++ cond b (change_of update ∷ []) []
    pushed [] = ap (λ (c : Bool). map change_of (cond c (update ∷ []) [])) test ∙ one b
      where
        one : (c : Bool) → map change_of (cond c (update ∷ []) []) ≡ cond c (change_of update ∷ []) []
        one true = refl
        one false = refl
    pushed (u ∷ us) = more (is_update_of btree u) (pushed us)
      where
        more : (c : Bool) → changes_in btree (us ++ update ∷ []) ≡ changes_in btree us ++ cond b (change_of update ∷ []) []
            → map change_of (cond c (u ∷ filter (is_update_of btree) (us ++ update ∷ [])) (filter (is_update_of btree) (us ++ update ∷ []))) ≡ map change_of (cond c (u ∷ filter (is_update_of btree) us) (filter (is_update_of btree) us)) ++ cond b (change_of update ∷ []) []
        more true later = ap (λ (ks : List Key). change_of u ∷ ks) later
        more false later = later

    by : (c : Bool) → with_keys (changes_in btree (take place updates) ++ cond c (change_of update ∷ []) []) entries
        ≡ cond c (put_at pos_cmp update.pos update.value (with_keys (changes_in btree (take place updates)) entries)) (with_keys (changes_in btree (take place updates)) entries)
    by true = with_keys-append (changes_in btree (take place updates)) (change_of update ∷ []) entries
    by false = with_keys-append (changes_in btree (take place updates)) [] entries

-- The leaf is that of a btree after the first updates.
pub record IsLeafAfter (cut : Cut) (btree : Btree) (updates : List Update) (end : Pos) (place : ℕ) (leaf : Node) : Type 0 where
  pub leaf_is : leaf ≡ record { least = start_of end cut.ends; greatest = end; entries = leaf_entries end (with_entries cut (with_keys (changes_in btree (take place updates)) cut.entries)) }
  pub cut_is : IsCut (with_entries cut (with_keys (changes_in btree (take place updates)) cut.entries))

module _ (cut : Cut) (btree : Btree) (updates : List Update) (end : Pos) (place : ℕ) (leaf : Node) (update : Update) (has : is_end end cut.ends ≡ true) (lt : place < length updates) (is : update ≡ get_or updates place update)
    (fits : PosFits update.pos) (range : IsKeyValue update.value) (so_far : IsLeafAfter cut btree updates end place leaf) where
  at_end_is : (b : Bool) → is_within leaf.least leaf.greatest update.pos ≡ b → is_at (pos_cmp end) (end_of update.pos cut.ends) ≡ b
  at_end_is b test = sym (leaf_test update.pos end cut.ends so_far.cut_is.ends fits has) ∙ ap (λ (n : Node). is_within n.least n.greatest update.pos) (sym so_far.leaf_is) ∙ test

  put_cut : is_update_of btree update ≡ true → IsCut (with_entries cut (with_keys (changes_in btree (take (place + 1) updates)) cut.entries))
  put_cut of = subst (λ (es : Entries). IsCut (with_entries cut es)) (sym (changes_more btree updates place update lt is true of cut.entries)) (IsCut-put_at (with_entries cut (with_keys (changes_in btree (take place updates)) cut.entries)) so_far.cut_is update.pos fits update.value range)

  -- one that is of the leaf
  pub leaf_put : is_update_of btree update ≡ true → is_within leaf.least leaf.greatest update.pos ≡ true → (new : Node) → new ≡ record { least = leaf.least; greatest = leaf.greatest; entries = put_at pos_cmp update.pos update.value leaf.entries } → IsLeafAfter cut btree updates end (place + 1) new
  leaf_put of within new made = record {
    leaf_is =
        made ∙ ap (λ (n : Node). record { least = n.least; greatest = n.greatest; entries = put_at pos_cmp update.pos update.value n.entries }) so_far.leaf_is
        ∙ ap (λ (es : Entries). record { least = start_of end cut.ends; greatest = end; entries = es })
        (sym (leaf_entries-put_at (with_entries cut (with_keys (changes_in btree (take place updates)) cut.entries)) so_far.cut_is update.pos fits update.value end has (sym (same_from_at end (end_of update.pos cut.ends) (at_end_is true within))))
        ∙ ap (λ (es : Entries). leaf_entries end (with_entries cut es)) (sym (changes_more btree updates place update lt is true of cut.entries)));
    cut_is = put_cut of;
  }

  -- and one that isn't
  pub leaf_passed : (is_update_of btree update && is_within leaf.least leaf.greatest update.pos) ≡ false → IsLeafAfter cut btree updates end (place + 1) leaf
  leaf_passed not = by (is_update_of btree update) refl not
    where
      by : (b : Bool) → is_update_of btree update ≡ b → (b && is_within leaf.least leaf.greatest update.pos) ≡ false → IsLeafAfter cut btree updates end (place + 1) leaf
      by false of test =
          let same = changes_more btree updates place update lt is false of cut.entries in
          record {
            leaf_is = so_far.leaf_is ∙ ap (λ (es : Entries). record { least = start_of end cut.ends; greatest = end; entries = leaf_entries end (with_entries cut es) }) (sym same);
            cut_is = subst (λ (es : Entries). IsCut (with_entries cut es)) (sym same) so_far.cut_is;
          }
      by true of test = record {
        leaf_is =
            so_far.leaf_is
            ∙ ap (λ (es : Entries). record { least = start_of end cut.ends; greatest = end; entries = es })
            (sym (leaf_entries-untouched (with_entries cut (with_keys (changes_in btree (take place updates)) cut.entries)) so_far.cut_is update.pos fits update.value end has (at_end_is false test))
            ∙ ap (λ (es : Entries). leaf_entries end (with_entries cut es)) (sym (changes_more btree updates place update lt is true of cut.entries)));
        cut_is = put_cut of;
      }

-- before all updates
pub leaf_none : (cut : Cut) (btree : Btree) (updates : List Update) (end : Pos) (leaf : Node) → IsCut cut → leaf ≡ record { least = start_of end cut.ends; greatest = end; entries = leaf_entries end cut } → IsLeafAfter cut btree updates end 0 leaf
leaf_none cut btree updates end leaf is same = record { leaf_is = same; cut_is = is }
