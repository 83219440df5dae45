-- The nodes that are dirty or have a dirty node under them stay exactly the marked ones.
use Rattle.std.proofs.Common.{◌≡◌, ℕ, zero, suc, ◌+◌, ◌<◌, ◌≤◌, inl, inr, ⊎_elim, Option, Some, None, List, [], ◌∷◌, drop, length, refl, sym, ap, ◌∙◌, subst, arith}
use Rattle.std.specs.Prelude.{All, IsSome, is_some, option_map}
use Rattle.std.specs.List.{flat_map}
use Rattle.std.specs.Option.{option_to_list}
use Rattle.std.specs.Ordering.{is_le, nat_cmp}
use Rattle.std.proofs.lemmas.Bool.{true≢false, cases_eq, cases_lt}
use Rattle.std.proofs.lemmas.List.{get_or_past}
use Rattle.std.proofs.lemmas.Option.{same_Some, none-some as none_some}
use Rattle.birth_index.specs.Births.{BirthsDiffer, birth_of, levels_of}
use Rattle.birth_index.specs.declared.name.NodeName.{NodeName}
use Rattle.dirty_nodes.specs.Dirty.{AreMarked, IsOverDirty, birth_at, birth_in, changed_node, changed_nodes, path_of, paths_of, with_pins}
use Rattle.tree_nodes.specs.ChildLaws.{parent-covers}
use Rattle.tree_nodes.specs.CoverLaws.{covered-once, first-value, node_at-covers, node_at-some}
use Rattle.tree_nodes.specs.Levels.{IsNested, IsRow, IsTree, Level, Levels, level_of, node_at}
use Rattle.tree_nodes.specs.RowLaws.{at_end}
use Rattle.vol_types.specs.Maps.{value_at}
use Rattle.vol_types.specs.Positions.{pos_cmp}
use Rattle.vol_types.specs.Widths.{PosFits}
use Rattle.vol_types.specs.declared.keys.Update.{Update}
use Rattle.vol_types.specs.declared.pointers.NodePtr.{NodePtr}
use Rattle.vol_types.specs.declared.positions.Btree.{Btree}
use Rattle.vol_types.specs.declared.positions.Pos.{Pos}
use Rattle.dirty_nodes.proofs.Members.{FromOne, IsIn, all_in, from_flat, from_option, in_flat, in_option}
use Rattle.dirty_nodes.proofs.Pinning.{pinned-cases, pinned-new, pinned-stays}

-- a level from one on is one of those that are left
at_level : (levels : Levels) (first upper : ℕ) → first ≤ upper → upper < length levels → IsIn (level_of levels upper) (drop first levels)
at_level [] first upper le lt = absurd (omega (arith, lt))
at_level (e ∷ es) zero zero le lt = inl refl
at_level (e ∷ es) zero (suc upper) le lt = inr (at_level es zero upper (omega arith) (omega (arith, lt)))
at_level (e ∷ es) (suc first) zero le lt = absurd (omega (arith, le))
at_level (e ∷ es) (suc first) (suc upper) le lt = at_level es first upper (omega (arith, le)) (omega (arith, lt))

-- The nodes are those of a level from one on.
record HasLevel (levels : Levels) (first : ℕ) (nodes : Level) : Type 0 where
  upper : ℕ
  le : first ≤ upper
  lt : upper < length levels
  is : level_of levels upper ≡ nodes

level_from : (levels : Levels) (first : ℕ) (nodes : Level) → IsIn nodes (drop first levels) → HasLevel levels first nodes
level_from [] zero nodes is = absurd is
level_from [] (suc first) nodes is = absurd is
level_from (e ∷ es) zero nodes is =
    ⊎_elim (λ (same : nodes ≡ e). record { upper = zero; le = omega arith; lt = omega arith; is = sym same })
    (λ (later : IsIn nodes es). let r : HasLevel es zero nodes = level_from es zero nodes later in record { upper = suc r.upper; le = omega arith; lt = omega (arith, r.lt); is = r.is }) is
level_from (e ∷ es) (suc first) nodes is =
    let r : HasLevel es first nodes = level_from es first nodes is in record { upper = suc r.upper; le = omega (arith, r.le); lt = omega (arith, r.lt); is = r.is }

module _ (levels : Levels) (tree : IsTree levels) (level : ℕ) (lt : suc level < length levels) where
  nested : IsNested (level_of levels (suc level)) (level_of levels level)
  nested = let e : level + 1 ≡ suc level = omega arith in subst (λ (n : ℕ). IsNested (level_of levels n) (level_of levels level)) e (tree.nested level)

  above_row : IsRow (level_of levels (suc level))
  above_row = (tree.each (suc level) lt).row

  below_row : IsRow (level_of levels level)
  below_row = (tree.each level (omega (arith, lt))).row

  module _ (pos : Pos) (fits : PosFits pos) (node : Pos × NodePtr) (is : node_at pos (level_of levels level) ≡ Some node) where
    end_fits : PosFits node.0
    end_fits = at_end PosFits (level_of levels level) node.0 below_row.fits (ap is_some (first-value (λ n. is_le (pos_cmp pos n.0)) (level_of levels level) node below_row.rises is))

    -- the node above is that of the end of the node below
    end-above : node_at pos (level_of levels (suc level)) ≡ node_at node.0 (level_of levels (suc level))
    end-above = by (node_at node.0 (level_of levels (suc level))) refl (node_at-some node.0 (level_of levels (suc level)) (tree.each (suc level) lt).ends end_fits)
      where
        by : (o : Option (Pos × NodePtr)) → node_at node.0 (level_of levels (suc level)) ≡ o → IsSome o → node_at pos (level_of levels (suc level)) ≡ node_at node.0 (level_of levels (suc level))
        by None at some = absurd (true≢false (sym some))
        by (Some parent) at some =
            covered-once pos parent.0 parent.1 (level_of levels (suc level)) above_row fits
            (first-value (λ n. is_le (pos_cmp node.0 n.0)) (level_of levels (suc level)) parent above_row.rises at)
            (parent-covers (level_of levels (suc level)) (level_of levels level) above_row below_row nested parent.0 node.0 pos fits
            (node_at-covers node.0 (level_of levels (suc level)) parent above_row end_fits at) (node_at-covers pos (level_of levels level) node below_row fits is)).within
            ∙ sym at

  one-above : (p q : Pos) → PosFits p → PosFits q → node_at p (level_of levels level) ≡ node_at q (level_of levels level) → node_at p (level_of levels (suc level)) ≡ node_at q (level_of levels (suc level))
  one-above p q p_fits q_fits same = by (node_at p (level_of levels level)) refl (node_at-some p (level_of levels level) (tree.each level (omega (arith, lt))).ends p_fits)
    where
      by : (o : Option (Pos × NodePtr)) → node_at p (level_of levels level) ≡ o → IsSome o → node_at p (level_of levels (suc level)) ≡ node_at q (level_of levels (suc level))
      by None at some = absurd (true≢false (sym some))
      by (Some node) at some = end-above p p_fits node at ∙ sym (end-above q q_fits node (sym same ∙ at))

-- Two positions in one node of a level are in one node of each level above.
same-above : (levels : Levels) → IsTree levels → (lower : ℕ) (p q : Pos) → PosFits p → PosFits q → node_at p (level_of levels lower) ≡ node_at q (level_of levels lower)
    → (upper : ℕ) → lower ≤ upper → upper < length levels → node_at p (level_of levels upper) ≡ node_at q (level_of levels upper)
same-above levels tree lower p q p_fits q_fits same zero le lt =
    let e : lower ≡ zero = omega (arith, le) in subst (λ (n : ℕ). node_at p (level_of levels n) ≡ node_at q (level_of levels n)) e same
same-above levels tree lower p q p_fits q_fits same (suc upper) le lt =
    ⊎_elim (λ (e : lower ≡ suc upper). subst (λ (n : ℕ). node_at p (level_of levels n) ≡ node_at q (level_of levels n)) e same)
    (λ (apart : lower ≡ suc upper → ⊥). one-above levels tree upper lt p q p_fits q_fits (same-above levels tree lower p q p_fits q_fits same upper (omega (arith, le, apart)) (omega (arith, lt))))
    (cases_eq lower (suc upper))

-- A node of a level of a btree covers the position and has the birth.
pub record IsFound (nodes : List Levels) (btree : Btree) (level : ℕ) (pos : Pos) (birth : ℕ) : Type 0 where
  pub node : Pos × NodePtr
  pub there : level < length (levels_of nodes btree)
  pub at : node_at pos (level_of (levels_of nodes btree) level) ≡ Some node
  pub value : value_at pos_cmp node.0 (level_of (levels_of nodes btree) level) ≡ Some node.1
  pub born : node.1.birth ≡ birth

module _ (nodes : List Levels) (trees : (btree : Btree) → IsTree (levels_of nodes btree)) where
  pub found : (btree : Btree) (level : ℕ) (pos : Pos) (birth : ℕ) → birth_at nodes btree level pos ≡ Some birth → IsFound nodes btree level pos birth
  found btree level pos birth is = by (node_at pos (level_of (levels_of nodes btree) level)) refl is
    where
      there : IsSome (node_at pos (level_of (levels_of nodes btree) level)) → level < length (levels_of nodes btree)
      there some = ⊎_elim (λ lt. lt) (λ ge. absurd (true≢false (sym some ∙ ap (λ (es : Level). is_some (node_at pos es)) (get_or_past (levels_of nodes btree) level [] ge)))) (cases_lt level (length (levels_of nodes btree)))

      by : (o : Option (Pos × NodePtr)) → node_at pos (level_of (levels_of nodes btree) level) ≡ o → option_map (λ (n : Pos × NodePtr). n.1.birth) o ≡ Some birth → IsFound nodes btree level pos birth
      by None at is = absurd (none_some birth is)
      by (Some node) at is = record {
        node = node;
        there = there (ap is_some at);
        at = at;
        value = first-value (λ n. is_le (pos_cmp pos n.0)) (level_of (levels_of nodes btree) level) node ((trees btree).each level (there (ap is_some at))).row.rises at;
        born = same_Some node.1.birth birth is;
      }

pub name_is : (nodes : List Levels) (btree : Btree) (level : ℕ) (pos : Pos) (birth : ℕ) → (f : IsFound nodes btree level pos birth) → birth_of nodes (record { btree = btree; level = level; greatest = f.node.0 }) ≡ Some birth
name_is nodes btree level pos birth f = ap (option_map (λ (n : NodePtr). n.birth)) f.value ∙ ap Some f.born

-- What has one birth is one node, of one level of one btree.
record IsOneNode (nodes : List Levels) (one other : Btree) (low lower : ℕ) (p q : Pos) : Type 0 where
  btree : one ≡ other
  level : low ≡ lower
  node : node_at p (level_of (levels_of nodes one) low) ≡ node_at q (level_of (levels_of nodes one) low)

one_node : (nodes : List Levels) → BirthsDiffer nodes → (one other : Btree) (low lower : ℕ) (p q : Pos) (birth : ℕ) → IsFound nodes one low p birth → IsFound nodes other lower q birth → IsOneNode nodes one other low lower p q
one_node nodes differ one other low lower p q birth f g =
    let a : NodeName = record { btree = one; level = low; greatest = f.node.0 } in
    let b : NodeName = record { btree = other; level = lower; greatest = g.node.0 } in
    let same : a ≡ b = differ a b birth (name_is nodes one low p birth f) (name_is nodes other lower q birth g) in
    let ends : f.node.0 ≡ g.node.0 = ap (λ (n : NodeName). n.greatest) same in
    let pointers : f.node.1 ≡ g.node.1 = same_Some f.node.1 g.node.1 (sym f.value ∙ ap (λ (n : NodeName). value_at pos_cmp n.greatest (level_of (levels_of nodes n.btree) n.level)) same ∙ g.value) in
    let alike : f.node ≡ g.node = λ i. (ends i, pointers i) in
    record {
      btree = ap (λ (n : NodeName). n.btree) same;
      level = ap (λ (n : NodeName). n.level) same;
      node = f.at ∙ ap Some alike ∙ sym g.at ∙ sym (ap (λ (n : NodeName). node_at q (level_of (levels_of nodes n.btree) n.level)) same);
    }

-- A node is over the same dirty one, where both stand as they did and this one is pinned.
pub still_over : (nodes after : List Levels) (pins new : List (ℕ × ℕ)) (birth : ℕ) → (o : IsOverDirty nodes pins birth)
    → birth_at after o.btree o.upper o.pos ≡ Some birth → birth_at after o.btree o.lower o.pos ≡ Some o.dirty → IsSome (value_at nat_cmp o.dirty new) → IsOverDirty after new birth
still_over nodes after pins new birth o over under pinned =
    record { btree = o.btree; pos = o.pos; upper = o.upper; lower = o.lower; dirty = o.dirty; fits = o.fits; order = o.order; over = over; under = under; pinned = pinned }

module _ (nodes : List Levels) (seq : ℕ) (updates : List Update) (pins marks : List (ℕ × ℕ)) (trees : (btree : Btree) → IsTree (levels_of nodes btree)) (fits : All (λ (u : Update). PosFits u.pos) updates) where
  -- a node that updates mark is over one that they make dirty
  path_over : (birth : ℕ) → IsIn birth (paths_of nodes updates) → IsOverDirty nodes (with_pins seq (changed_nodes nodes updates) pins) birth
  path_over birth is = over (from_flat (path_of nodes) birth updates is)
    where
      over : FromOne (path_of nodes) birth updates → IsOverDirty nodes (with_pins seq (changed_nodes nodes updates) pins) birth
      over r = at_one (from_flat (λ (level : Level). option_to_list (birth_in r.one.pos level)) birth (drop r.one.level (levels_of nodes r.one.btree)) r.gives)
        where
          at_one : FromOne (λ (level : Level). option_to_list (birth_in r.one.pos level)) birth (drop r.one.level (levels_of nodes r.one.btree)) → IsOverDirty nodes (with_pins seq (changed_nodes nodes updates) pins) birth
          at_one s =
              let h : HasLevel (levels_of nodes r.one.btree) r.one.level s.one = level_from (levels_of nodes r.one.btree) r.one.level s.one s.there in
              let pos_fits : PosFits r.one.pos = all_in (λ (u : Update). PosFits u.pos) r.one updates fits r.there in
              let some : IsSome (node_at r.one.pos (level_of (levels_of nodes r.one.btree) r.one.level)) =
              node_at-some r.one.pos (level_of (levels_of nodes r.one.btree) r.one.level) ((trees r.one.btree).each r.one.level (omega (arith, h.le, h.lt))).ends pos_fits in
              let upper : birth_at nodes r.one.btree h.upper r.one.pos ≡ Some birth = ap (birth_in r.one.pos) h.is ∙ from_option (birth_in r.one.pos s.one) birth s.gives in
              by h.upper h.le pos_fits upper (node_at r.one.pos (level_of (levels_of nodes r.one.btree) r.one.level)) refl some
            where
              by : (upper : ℕ) → r.one.level ≤ upper → PosFits r.one.pos → birth_at nodes r.one.btree upper r.one.pos ≡ Some birth
                  → (o : Option (Pos × NodePtr)) → node_at r.one.pos (level_of (levels_of nodes r.one.btree) r.one.level) ≡ o → IsSome o → IsOverDirty nodes (with_pins seq (changed_nodes nodes updates) pins) birth
              by upper le pos_fits over None at some = absurd (true≢false (sym some))
              by upper le pos_fits over (Some node) at some =
                  let under : birth_at nodes r.one.btree r.one.level r.one.pos ≡ Some node.1.birth = ap (option_map (λ (n : Pos × NodePtr). n.1.birth)) at in
                  record {
                    btree = r.one.btree;
                    pos = r.one.pos;
                    upper = upper;
                    lower = r.one.level;
                    dirty = node.1.birth;
                    fits = pos_fits;
                    order = le;
                    over = over;
                    under = under;
                    pinned =
                        pinned-new seq (changed_nodes nodes updates) pins node.1.birth
                        (in_flat (changed_node nodes) r.one node.1.birth updates r.there (in_option (birth_at nodes r.one.btree r.one.level r.one.pos) node.1.birth under));
                  }

  -- what is over a node that updates make dirty, they mark
  over_path : BirthsDiffer nodes → (birth : ℕ) → (o : IsOverDirty nodes (with_pins seq (changed_nodes nodes updates) pins) birth) → IsIn o.dirty (changed_nodes nodes updates) → IsIn birth (paths_of nodes updates)
  over_path differ birth o is = marked (from_flat (changed_node nodes) o.dirty updates is)
    where
      marked : FromOne (changed_node nodes) o.dirty updates → IsIn birth (paths_of nodes updates)
      marked r =
          let u : Update = r.one in
          let one : IsOneNode nodes o.btree u.btree o.lower u.level o.pos u.pos =
          one_node nodes differ o.btree u.btree o.lower u.level o.pos u.pos o.dirty (found nodes trees o.btree o.lower o.pos o.dirty o.under)
          (found nodes trees u.btree u.level u.pos o.dirty (from_option (birth_at nodes u.btree u.level u.pos) o.dirty r.gives)) in
          let there : o.upper < length (levels_of nodes o.btree) = (found nodes trees o.btree o.upper o.pos birth o.over).there in
          let above : node_at o.pos (level_of (levels_of nodes o.btree) o.upper) ≡ node_at u.pos (level_of (levels_of nodes o.btree) o.upper) =
          same-above (levels_of nodes o.btree) (trees o.btree) o.lower o.pos u.pos o.fits (all_in (λ (v : Update). PosFits v.pos) u updates fits r.there) one.node o.upper o.order there in
          let born : birth_in u.pos (level_of (levels_of nodes o.btree) o.upper) ≡ Some birth = ap (option_map (λ (n : Pos × NodePtr). n.1.birth)) (sym above) ∙ o.over in
          let level : u.level ≤ o.upper = omega (arith, one.level, o.order) in
          in_flat (path_of nodes) u birth updates r.there
          (subst (λ (b : Btree). IsIn birth (flat_map (λ (l : Level). option_to_list (birth_in u.pos l)) (drop u.level (levels_of nodes b)))) one.btree
          (in_flat (λ (l : Level). option_to_list (birth_in u.pos l)) (level_of (levels_of nodes o.btree) o.upper) birth (drop u.level (levels_of nodes o.btree)) (at_level (levels_of nodes o.btree) u.level o.upper level there)
          (in_option (birth_in u.pos (level_of (levels_of nodes o.btree) o.upper)) birth born)))

  -- After updates the marked nodes are those over dirty ones, as before.
  pub marked-after : BirthsDiffer nodes → AreMarked nodes pins marks → AreMarked nodes (with_pins seq (changed_nodes nodes updates) pins) (with_pins seq (paths_of nodes updates) marks)
  marked-after differ marked birth = (
    λ some. ⊎_elim (λ (before : IsSome (value_at nat_cmp birth marks)). still ((marked birth).0 before)) (λ (new : IsIn birth (paths_of nodes updates)). path_over birth new)
        (pinned-cases seq (paths_of nodes updates) marks birth some),
    λ o. ⊎_elim
        (λ (before : IsSome (value_at nat_cmp o.dirty pins)). pinned-stays seq (paths_of nodes updates) marks birth
        ((marked birth).1 (still_over nodes nodes (with_pins seq (changed_nodes nodes updates) pins) pins birth o o.over o.under before)))
        (λ (new : IsIn o.dirty (changed_nodes nodes updates)). pinned-new seq (paths_of nodes updates) marks birth (over_path differ birth o new)) (pinned-cases seq (changed_nodes nodes updates) pins o.dirty o.pinned),
  )
    where
      still : IsOverDirty nodes pins birth → IsOverDirty nodes (with_pins seq (changed_nodes nodes updates) pins) birth
      still o =
          still_over nodes nodes pins (with_pins seq (changed_nodes nodes updates) pins) birth o o.over o.under (pinned-stays seq (changed_nodes nodes updates) pins o.dirty o.pinned)

-- Where no node is dirty none is marked.
pub marked-none : (nodes : List Levels) → AreMarked nodes [] []
marked-none nodes birth = (λ some. absurd (true≢false (sym some)), λ o. absurd (true≢false (sym o.pinned)))
