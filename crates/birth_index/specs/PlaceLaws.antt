-- Where a node may be divided no other node of its level ends.
use Rattle.std.proofs.Common.{◌≡◌, ℕ, ◌<◌, Bool, true, false, cond, Option, Some, None, List, [], ◌∷◌, length, refl, sym, ap, ◌∙◌, subst, ⊎_elim, arith}
use Rattle.std.specs.Prelude.{IsSome, is_some}
use Rattle.std.specs.BTreeMap.{is_at}
use Rattle.std.specs.Ordering.{is_eq, is_lt}
use Rattle.std.proofs.lemmas.Bool.{true≢false, cases_lt}
use Rattle.std.proofs.lemmas.Cmp.{tied_itself}
use Rattle.std.proofs.lemmas.List.{get_or_past}
use Rattle.std.proofs.lemmas.Option.{same_Some}
use Rattle.birth_index.specs.Births.{levels_of}
use Rattle.tree_nodes.specs.CoverLaws.{covered-once, node_at-end}
use Rattle.tree_nodes.specs.Levels.{Covers, EndsAt, IsRow, Level, Levels, level_of}
use Rattle.tree_nodes.specs.RowLaws.{same_at}
use Rattle.vol_types.specs.Btrees.{btree_code}
use Rattle.vol_types.specs.Maps.{value_at}
use Rattle.vol_types.specs.PositionLaws.{pos_total}
use Rattle.vol_types.specs.Positions.{IsBefore, pos_cmp}
use Rattle.vol_types.specs.Widths.{PosFits}
use Rattle.vol_types.specs.declared.pointers.NodePtr.{NodePtr}
use Rattle.vol_types.specs.declared.positions.Btree.{Btree}
use Rattle.vol_types.specs.declared.positions.Pos.{Pos}

not_itself : (at : Pos) → IsBefore at at → ⊥
not_itself at before = true≢false (ap is_lt (sym before ∙ tied_itself pos_total at))

-- No node ends at a position that another covers, before that one's end.
pub not_there : (nodes : Level) (greatest at : Pos) → IsRow nodes → PosFits at → Covers nodes greatest at → IsBefore at greatest → value_at pos_cmp at nodes ≡ None
not_there nodes greatest at row fits covers before = by (value_at pos_cmp at nodes) refl (value_at pos_cmp greatest nodes) refl
  where
    by : (o : Option NodePtr) → value_at pos_cmp at nodes ≡ o → (p : Option NodePtr) → value_at pos_cmp greatest nodes ≡ p → o ≡ None
    by None here p there = refl
    by (Some node) here None there = absurd (true≢false (sym covers.there ∙ ap is_some there))
    by (Some node) here (Some other) there =
        let one = sym (node_at-end at node nodes row.rises here) ∙ covered-once at greatest other nodes row fits there covers.within in
        let same = ap (λ (n : Pos × NodePtr). n.0) (same_Some (at, node) (greatest, other) one) in
        absurd (not_itself at (subst (λ (p : Pos). IsBefore at p) (sym same) before))

-- No node ends before the end of one that is alone.
pub none_before_one : (nodes : Level) (greatest at : Pos) → length nodes ≡ 1 → EndsAt nodes greatest → IsBefore at greatest → value_at pos_cmp at nodes ≡ None
none_before_one [] greatest at one ends before = absurd (omega (arith, one))
none_before_one (e ∷ d ∷ es) greatest at one ends before = absurd (omega (arith, one))
none_before_one (e ∷ []) greatest at one ends before = by (is_at (pos_cmp greatest) e.0) refl ends
  where
    by : (b : Bool) → is_at (pos_cmp greatest) e.0 ≡ b → IsSome (cond b (Some e.1) None) → cond (is_at (pos_cmp at) e.0) (Some e.1) None ≡ None
    by true is some = ap (λ r. cond (is_eq r) (Some e.1) None) (ap (pos_cmp at) (sym (same_at greatest e.0 is)) ∙ before)
    by false is some = absurd (true≢false (sym some))

-- A btree with a node is one that is there.
pub btree-there : (nodes : List Levels) (btree : Btree) (level : ℕ) (at : Pos) → EndsAt (level_of (levels_of nodes btree) level) at → btree_code btree < length nodes
btree-there nodes btree level at ends =
    ⊎_elim (λ lt. lt)
    (λ ge. absurd (true≢false (sym ends ∙ ap (λ (ls : Levels). is_some (value_at pos_cmp at (level_of ls level))) (get_or_past nodes (btree_code btree) [] ge) ∙ ap (λ (es : Level). is_some (value_at pos_cmp at es)) (get_or_past [] level [] (omega arith)))))
    (cases_lt (btree_code btree) (length nodes))
