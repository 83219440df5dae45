-- The children of a node cover its range without a gap, and a look among them finds what a look in their level finds.
use Rattle.std.proofs.Common.{◌≡◌, ◌≢◌, ℕ, zero, suc, ◌+◌, ◌-◌, ◌<◌, Bool, true, false, cond, not, ◌&&◌, Option, Some, None, [], ◌∷◌, ◌++◌, length, append_assoc, refl, sym, ap, ◌∙◌, subst, arith}
use Rattle.std.specs.Prelude.{All, IsSome, is_some, IfSome, option_map, slice_get, unwrap_or}
use Rattle.std.specs.BTreeMap.{is_at}
use Rattle.std.specs.List.{AllByRecursion, filter}
use Rattle.std.specs.Map.{keys_of}
use Rattle.std.specs.Ordering.{is_le, is_lt}
use Rattle.std.specs.declared.cmp.Ordering.{Ordering}
use Rattle.std.specs.declared.cmp.Ordering.TheVariants.{Less, Equal, Greater}
use Rattle.std.proofs.lemmas.Bool.{true≢false}
use Rattle.std.proofs.lemmas.Cmp.{tied_itself}
use Rattle.std.proofs.lemmas.Map.Keys.{sorted_head, sorted_tail}
use Rattle.std.proofs.lemmas.Option.{same_Some}
use Rattle.std.proofs.lemmas.List.Elements.{All-head, All-tail, All-from_recursion}
use Rattle.vol_types.specs.MapLaws.{IsMap-parts}
use Rattle.vol_types.specs.Maps.{IsMap, value_at}
use Rattle.vol_types.specs.PositionLaws.{pos_total, pos_exact, is_within-iff}
use Rattle.vol_types.specs.Positions.{pos_cmp, IsBefore, IsWithin, greatest_pos, is_within, least_pos, next_pos}
use Rattle.vol_types.specs.Widths.{PosFits}
use Rattle.vol_types.specs.declared.pointers.NodePtr.{NodePtr}
use Rattle.vol_types.specs.declared.positions.Pos.{Pos}
use Rattle.tree_nodes.specs.CoverLaws.{IsFitBefore, above-head, before-covered, before-fits, before-node, before_le, first_passes, last-step, least-le, least-same, lt_less, turned}
use Rattle.vol_types.specs.FollowerLaws.{follows-test, has_follower, least-first, not_greatest}
use Rattle.tree_nodes.specs.Levels.{Level, Covers, EndsAt, IsNested, IsRow, Tile, children_of, first_of, follower_of, last_of, least_of, node_at, nodes_before, nodes_from}
use Rattle.tree_nodes.specs.RowLaws.{at_end, each_end, kept-ends, same_at}

-- the position at which a node ends
abbrev end_of : Pos × NodePtr → Pos
end_of node = node.0

module _ (p : Pos → Bool) (at : Pos) (here : p at ≡ true) (none_after : (x : Pos) → IsBefore at x → p x ≡ false) where
  none_kept : (nodes : Level) → AllByRecursion (IsBefore at) (keys_of nodes) → filter (λ e. p e.0) nodes ≡ []
  none_kept [] above = refl
  none_kept (e ∷ es) above = ap (λ b. cond b (e ∷ filter (λ e. p e.0) es) (filter (λ e. p e.0) es)) (none_after e.0 above.0) ∙ none_kept es above.1

  -- where a test passes no position after one at which a node ends, that node is the last that passes
  last-kept : (nodes : Level) → IsMap pos_cmp nodes → EndsAt nodes at → option_map end_of (last_of (filter (λ e. p e.0) nodes)) ≡ Some at
  last-kept [] rises ends = absurd (true≢false (sym ends))
  last-kept (e ∷ es) rises ends = by (is_at (pos_cmp at) e.0) refl ends (last-kept es (sorted_tail pos_cmp e.0 (keys_of es) rises))
    where
      longer : (kept : Level) (b : Bool) → option_map end_of (last_of kept) ≡ Some at → option_map end_of (last_of (cond b (e ∷ kept) kept)) ≡ Some at
      longer kept true is = ap (option_map end_of) (last-step e kept) ∙ some (last_of kept) is
        where
          some : (o : Option (Pos × NodePtr)) → option_map end_of o ≡ Some at → option_map end_of (Some (unwrap_or o e)) ≡ Some at
          some None none = absurd (true≢false (sym (ap is_some none)))
          some (Some l) it = it
      longer kept false is = is

      by : (b : Bool) → is_at (pos_cmp at) e.0 ≡ b → IsSome (cond b (Some e.1) (value_at pos_cmp at es)) → (EndsAt es at → option_map end_of (last_of (filter (λ e. p e.0) es)) ≡ Some at)
          → option_map end_of (last_of (cond (p e.0) (e ∷ filter (λ e. p e.0) es) (filter (λ e. p e.0) es))) ≡ Some at
      by true is some later =
          let same : at ≡ e.0 = same_at at e.0 is in
          let none : filter (λ e. p e.0) es ≡ [] = none_kept es (subst (λ q. AllByRecursion (IsBefore q) (keys_of es)) (sym same) (sorted_head pos_cmp e.0 (keys_of es) rises)) in
          ap (λ b. option_map end_of (last_of (cond b (e ∷ filter (λ e. p e.0) es) (filter (λ e. p e.0) es)))) (ap p (sym same) ∙ here) ∙ ap (λ xs. option_map end_of (last_of (e ∷ xs))) none ∙ ap Some (sym same)
      by false is some later = longer (filter (λ e. p e.0) es) (p e.0) (later some)

-- a position that isn't after another is at most it
le_from : (r : Ordering) → r ≢ Greater → is_le r ≡ true
le_from Less isnt = refl
le_from Equal isnt = refl
le_from Greater isnt = absurd (isnt refl)

module _ (least at pos : Pos) (within : IsWithin least at pos) where
  -- a look among the nodes of a range finds what a look among all of them finds, where a node ends at its end
  pub node_at-within : (nodes : Level) → IsMap pos_cmp nodes → EndsAt nodes at → node_at pos (filter (λ e. is_within least at e.0) nodes) ≡ node_at pos nodes
  node_at-within [] rises ends = refl
  node_at-within (e ∷ es) rises ends = by (is_le (pos_cmp pos e.0)) refl (node_at-within es (sorted_tail pos_cmp e.0 (keys_of es) rises))
    where
      skipped : (kept : Level) (b : Bool) → is_le (pos_cmp pos e.0) ≡ false → node_at pos (cond b (e ∷ kept) kept) ≡ node_at pos kept
      skipped kept true is = ap (λ c. first_of (cond c (e ∷ nodes_from pos kept) (nodes_from pos kept))) is
      skipped kept false is = refl

      -- where the first node isn't before the position, it is in the range
      up : (o : Bool) → is_at (pos_cmp at) e.0 ≡ o → IsSome (cond o (Some e.1) (value_at pos_cmp at es)) → is_le (pos_cmp e.0 at) ≡ true
      up true is some = ap (λ q. is_le (pos_cmp e.0 q)) (same_at at e.0 is) ∙ ap is_le (tied_itself pos_total e.0)
      up false is some = ap is_le (above-head e es at rises some)

      down : is_le (pos_cmp pos e.0) ≡ true → is_le (pos_cmp least e.0) ≡ true
      down le = turned least e.0 ∙ ap not (none (is_lt (pos_cmp e.0 least)) refl)
        where
          lt : (r : Ordering) → is_lt r ≡ true → r ≡ Less
          lt Less is = refl
          lt Equal is = absurd (true≢false (sym is))
          lt Greater is = absurd (true≢false (sym is))

          none : (b : Bool) → is_lt (pos_cmp e.0 least) ≡ b → is_lt (pos_cmp e.0 least) ≡ false
          none true is = absurd (true≢false (sym le ∙ turned pos e.0 ∙ ap (λ r. not (is_lt r)) (before_le e.0 least pos (lt (pos_cmp e.0 least) is) within.0)))
          none false is = is

      past : is_le (pos_cmp pos e.0) ≡ false → (o : Bool) → is_at (pos_cmp at) e.0 ≡ o → IsSome (cond o (Some e.1) (value_at pos_cmp at es)) → EndsAt es at
      past after true is some = absurd (true≢false (sym (le_from (pos_cmp pos at) within.1) ∙ ap (λ q. is_le (pos_cmp pos q)) (same_at at e.0 is) ∙ after))
      past after false is some = some

      by : (b : Bool) → is_le (pos_cmp pos e.0) ≡ b → (EndsAt es at → node_at pos (filter (λ e. is_within least at e.0) es) ≡ node_at pos es)
          → node_at pos (cond (is_within least at e.0) (e ∷ filter (λ e. is_within least at e.0) es) (filter (λ e. is_within least at e.0) es)) ≡ node_at pos (e ∷ es)
      by true is later =
          let kept = filter (λ e. is_within least at e.0) es in
          ap (λ b. node_at pos (cond b (e ∷ kept) kept)) (ap (λ b. b && is_le (pos_cmp e.0 at)) (down is) ∙ up (is_at (pos_cmp at) e.0) refl ends)
          ∙ ap (λ c. first_of (cond c (e ∷ nodes_from pos kept) (nodes_from pos kept))) is ∙ ap (λ c. first_of (cond c (e ∷ nodes_from pos es) (nodes_from pos es))) (sym is)
      by false is later =
          skipped (filter (λ e. is_within least at e.0) es) (is_within least at e.0) is ∙ later (past is (is_at (pos_cmp at) e.0) refl ends) ∙ ap (λ c. first_of (cond c (e ∷ nodes_from pos es) (nodes_from pos es))) (sym is)

-- what holds of all positions of a level holds of each that is left by a test
kept_has : (P : Pos → Type 0) (t : Pos × NodePtr → Bool) (nodes : Level) (k : ℕ) (x : Pos × NodePtr) → All P (keys_of nodes) → slice_get (filter t nodes) k ≡ Some x → P x.0
kept_has P t [] k x all is = absurd (true≢false (sym (ap is_some is)))
kept_has P t (e ∷ es) k x all is = by (t e) k is (λ j. kept_has P t es j x (All-tail P e.0 (keys_of es) all))
  where
    by : (b : Bool) (k : ℕ) → slice_get (cond b (e ∷ filter t es) (filter t es)) k ≡ Some x → ((j : ℕ) → slice_get (filter t es) j ≡ Some x → P x.0) → P x.0
    by true zero found later = subst P (ap end_of (same_Some e x found)) (All-head P e.0 (keys_of es) all)
    by true (suc j) found later = later j found
    by false k found later = later k found

-- the last of a list that was pushed to
last_pushed : (front : Level) (e : Pos × NodePtr) → last_of (front ++ e ∷ []) ≡ Some e
last_pushed [] e = refl
last_pushed (d ∷ front) e = last-step d (front ++ e ∷ []) ∙ ap (λ o. Some (unwrap_or o d)) (last_pushed front e)

module _ (p : Pos → Bool) (between : (x y z : Pos) → p x ≡ true → p z ≡ true → IsBefore x y → IsBefore y z → p y ≡ true) where
  -- of two nodes that pass, the first one of those that follow the other
  second-follows : (front : Level) (e other : Pos × NodePtr) (es : Level) → IsMap pos_cmp (front ++ e ∷ es) → p e.0 ≡ true → first_of (filter (λ n. p n.0) es) ≡ Some other → last_of (nodes_before other.0 (front ++ e ∷ es)) ≡ Some e
  second-follows front e other [] rises passes is = absurd (true≢false (sym (ap is_some is)))
  second-follows front e other (d ∷ ds) rises passes is = by (p d.0) refl is
    where
      whole : (front ++ e ∷ []) ++ d ∷ ds ≡ front ++ e ∷ d ∷ ds
      whole = append_assoc front (e ∷ []) (d ∷ ds)

      follows : IsMap pos_cmp (e ∷ d ∷ ds)
      follows = (IsMap-parts pos_cmp front (e ∷ d ∷ ds) rises).1

      by : (b : Bool) → p d.0 ≡ b → first_of (cond b (d ∷ filter (λ n. p n.0) ds) (filter (λ n. p n.0) ds)) ≡ Some other → last_of (nodes_before other.0 (front ++ e ∷ d ∷ ds)) ≡ Some e
      by true here found =
          ap (λ q. last_of (nodes_before q (front ++ e ∷ d ∷ ds))) (sym (ap end_of (same_Some d other found))) ∙ ap (λ xs. last_of (nodes_before d.0 xs)) (sym whole)
          ∙ ap last_of (before-node (front ++ e ∷ []) d ds (subst (IsMap pos_cmp) (sym whole) rises)) ∙ last_pushed front e
      by false here found =
          let after : IsBefore d.0 other.0 = kept_has (IsBefore d.0) (λ n. p n.0) ds 0 other (All-from_recursion (IsBefore d.0) (keys_of ds) (sorted_head pos_cmp d.0 (keys_of ds) (sorted_tail pos_cmp e.0 (keys_of (d ∷ ds)) follows))) found in
          absurd (true≢false (sym (between e.0 d.0 other.0 passes (first_passes (λ n. p n.0) ds other found) (sorted_head pos_cmp e.0 (keys_of (d ∷ ds)) follows).0 after) ∙ here))

  -- of two neighbours among those that pass, the first one is the node before the other
  neighbours : (front nodes : Level) → IsMap pos_cmp (front ++ nodes) → (k : ℕ) (one other : Pos × NodePtr) → slice_get (filter (λ n. p n.0) nodes) k ≡ Some one → slice_get (filter (λ n. p n.0) nodes) (suc k) ≡ Some other
      → last_of (nodes_before other.0 (front ++ nodes)) ≡ Some one
  neighbours front [] rises k one other first second = absurd (true≢false (sym (ap is_some first)))
  neighbours front (e ∷ es) rises k one other first second =
      by (p e.0) refl k first second
      (λ j left right. ap (λ xs. last_of (nodes_before other.0 xs)) (sym (append_assoc front (e ∷ []) es)) ∙ neighbours (front ++ e ∷ []) es (subst (IsMap pos_cmp) (sym (append_assoc front (e ∷ []) es)) rises) j one other left right)
    where
      by : (b : Bool) → p e.0 ≡ b → (k : ℕ) → slice_get (cond b (e ∷ filter (λ n. p n.0) es) (filter (λ n. p n.0) es)) k ≡ Some one → slice_get (cond b (e ∷ filter (λ n. p n.0) es) (filter (λ n. p n.0) es)) (suc k) ≡ Some other
          → ((j : ℕ) → slice_get (filter (λ n. p n.0) es) j ≡ Some one → slice_get (filter (λ n. p n.0) es) (suc j) ≡ Some other → last_of (nodes_before other.0 (front ++ e ∷ es)) ≡ Some one) → last_of (nodes_before other.0 (front ++ e ∷ es)) ≡ Some one
      by true here zero left right later = second-follows front e other es rises here right ∙ left
      by true here (suc j) left right later = later j left right
      by false here k left right later = later k left right

-- two tests that agree at positions with their widths leave the same nodes
same_kept : (p q : Pos → Bool) → ((x : Pos) → PosFits x → p x ≡ q x) → (nodes : Level) → All PosFits (keys_of nodes) → filter (λ e. p e.0) nodes ≡ filter (λ e. q e.0) nodes
same_kept p q same [] fits = refl
same_kept p q same (e ∷ es) fits =
    ap (λ b. cond b (e ∷ filter (λ x. p x.0) es) (filter (λ x. p x.0) es)) (same e.0 (All-head PosFits e.0 (keys_of es) fits))
    ∙ ap (λ rest. cond (q e.0) (e ∷ rest) rest) (same_kept p q same es (All-tail PosFits e.0 (keys_of es) fits))

-- no node ends before the least position
none_first : (nodes : Level) → All PosFits (keys_of nodes) → nodes_before least_pos nodes ≡ []
none_first [] fits = refl
none_first (e ∷ es) fits =
    ap (λ b. cond b (e ∷ nodes_before least_pos es) (nodes_before least_pos es)) (not_true (is_lt (pos_cmp e.0 least_pos)) (sym (turned least_pos e.0) ∙ least-first e.0 (All-head PosFits e.0 (keys_of es) fits)))
    ∙ none_first es (All-tail PosFits e.0 (keys_of es) fits)
  where
    not_true : (b : Bool) → not b ≡ true → b ≡ false
    not_true true is = sym is
    not_true false is = refl

not_not : (b c : Bool) → not b ≡ c → b ≡ not c
not_not true c is = ap not is
not_not false c is = ap not is

-- what follows a node by its position
followed : (o : Option (Pos × NodePtr)) (q : Pos) → option_map end_of o ≡ Some q → follower_of o ≡ unwrap_or (next_pos q) greatest_pos
followed None q is = absurd (true≢false (sym (ap is_some is)))
followed (Some l) q is = ap (λ x. unwrap_or (next_pos x) greatest_pos) (same_Some l.0 q is)

-- what is left of nodes by a range doesn't end before it
from_range : (least at : Pos) (nodes : Level) → nodes_from least (filter (λ e. is_within least at e.0) nodes) ≡ filter (λ e. is_within least at e.0) nodes
from_range least at [] = refl
from_range least at (e ∷ es) = by (is_le (pos_cmp least e.0)) refl (is_le (pos_cmp e.0 at)) (from_range least at es)
  where
    by : (b : Bool) → is_le (pos_cmp least e.0) ≡ b → (c : Bool) → nodes_from least (filter (λ e. is_within least at e.0) es) ≡ filter (λ e. is_within least at e.0) es
        → nodes_from least (cond (b && c) (e ∷ filter (λ e. is_within least at e.0) es) (filter (λ e. is_within least at e.0) es)) ≡ cond (b && c) (e ∷ filter (λ e. is_within least at e.0) es) (filter (λ e. is_within least at e.0) es)
    by true is true later =
        ap (λ d. cond d (e ∷ nodes_from least (filter (λ e. is_within least at e.0) es)) (nodes_from least (filter (λ e. is_within least at e.0) es))) is ∙ ap (λ xs. e ∷ xs) later
    by true is false later = later
    by false is c later = later

module _ (above below : Level) (above_row : IsRow above) (below_row : IsRow below) (nested : IsNested above below) (at : Pos) (there : EndsAt above at) where
  at_fits : PosFits at
  at_fits = at_end PosFits above at above_row.fits there

  -- The least position of a node is the least one of a node of the level below too.
  pub least-below : least_of (least_of at above) below ≡ least_of at above
  least-below = by (last_of (nodes_before at above)) refl (before-fits at above above_row.fits)
    where
      by : (o : Option (Pos × NodePtr)) → last_of (nodes_before at above) ≡ o → IsFitBefore at o → least_of (follower_of o) below ≡ follower_of o
      by None is fit = ap (λ xs. follower_of (last_of xs)) (none_first below below_row.fits)
      by (Some l) is fit =
          let least = follower_of (Some l) in
          let ends : EndsAt below l.0 = nested l.0 (kept_has (EndsAt above) (λ e. is_lt (pos_cmp e.0 at)) above (length (nodes_before at above) - 1) l (each_end (EndsAt above) above (λ q e. e)) is) in
          let same : nodes_before (follower_of (Some l)) below ≡ filter (λ e. is_le (pos_cmp e.0 l.0)) below = same_kept (λ x. is_lt (pos_cmp x (follower_of (Some l)))) (λ x. is_le (pos_cmp x l.0))
          (λ x x_fits. not_not (is_lt (pos_cmp x (follower_of (Some l)))) (is_lt (pos_cmp l.0 x)) (sym (turned (follower_of (Some l)) x) ∙ follows-test l.0 x fit.0 x_fits (not_greatest l.0 at fit.0 at_fits fit.1)) ∙ sym (turned x l.0)) below below_row.fits in
          ap (λ xs. follower_of (last_of xs)) same
          ∙ followed (last_of (filter (λ e. is_le (pos_cmp e.0 l.0)) below)) l.0 (last-kept (λ x. is_le (pos_cmp x l.0)) l.0 (ap is_le (tied_itself pos_total l.0)) (λ x after. turned x l.0 ∙ ap (λ r. not (is_lt r)) after) below below_row.rises ends)

  not_after : (r : Ordering) → is_le r ≡ true → r ≢ Greater
  not_after r le is = true≢false (sym le ∙ ap is_le is)

  first_child : (c : Pos × NodePtr) → first_of (children_of at above below) ≡ Some c → least_of c.0 below ≡ least_of at above
  first_child c is =
      let least = least_of at above in
      let le = least-le at above above_row.fits at_fits in
      let found : node_at (least_of at above) below ≡ Some c =
      sym (node_at-within (least_of at above) at (least_of at above) (not_after (pos_cmp (least_of at above) (least_of at above)) (ap is_le (tied_itself pos_total (least_of at above))), not_after (pos_cmp (least_of at above) at) le) below below_row.rises (nested at there))
      ∙ ap first_of (from_range (least_of at above) at below) ∙ is in
      least-same (least_of at above) below c below_row.rises found ∙ least-below

  last_child : option_map end_of (last_of (children_of at above below)) ≡ Some at
  last_child =
      last-kept (λ x. is_within (least_of at above) at x) at (ap (λ b. b && is_le (pos_cmp at at)) (least-le at above above_row.fits at_fits) ∙ ap is_le (tied_itself pos_total at))
      (λ x after. and_false (is_le (pos_cmp (least_of at above) x)) (is_le (pos_cmp x at)) (turned x at ∙ ap (λ r. not (is_lt r)) after)) below below_row.rises (nested at there)
    where
      and_false : (a b : Bool) → b ≡ false → (a && b) ≡ false
      and_false true b is = is
      and_false false b is = refl

  within-between : (x y z : Pos) → is_within (least_of at above) at x ≡ true → is_within (least_of at above) at z ≡ true → IsBefore x y → IsBefore y z → is_within (least_of at above) at y ≡ true
  within-between x y z is_x is_z before after =
      let least = least_of at above in
      let in_x = (is_within-iff (least_of at above) at x).0 is_x in
      let in_z = (is_within-iff (least_of at above) at z).0 is_z in
      (is_within-iff (least_of at above) at y).1 (
        not_after (pos_cmp (least_of at above) y) (turned (least_of at above) y ∙ ap not (low (is_lt (pos_cmp y (least_of at above))) refl in_x.0)),
        not_after (pos_cmp y at) (ap is_le (before_le y z at after in_z.1)),
      )
    where
      low : (b : Bool) → is_lt (pos_cmp y (least_of at above)) ≡ b → pos_cmp (least_of at above) x ≢ Greater → is_lt (pos_cmp y (least_of at above)) ≡ false
      low true is up =
          absurd
          (true≢false
          (sym (le_from (pos_cmp (least_of at above) x) up) ∙ turned (least_of at above) x ∙ ap (λ r. not (is_lt r)) (pos_total.trans x y (least_of at above) before (lt_less (pos_cmp y (least_of at above)) is))))
      low false is up = is

  next_child : (k : ℕ) (one other : Pos × NodePtr) → slice_get (children_of at above below) k ≡ Some one → slice_get (children_of at above below) (suc k) ≡ Some other → next_pos one.0 ≡ Some (least_of other.0 below)
  next_child k one other left right =
      let prior : last_of (nodes_before other.0 below) ≡ Some one = neighbours (λ x. is_within (least_of at above) at x) within-between [] below below_row.rises k one other left right in
      let fit = subst (IsFitBefore other.0) prior (before-fits other.0 below below_row.fits) in
      let other_fits : PosFits other.0 = kept_has PosFits (λ e. is_within (least_of at above) at e.0) below (suc k) other below_row.fits right in
      there_is (next_pos one.0) (has_follower one.0 fit.0 (not_greatest one.0 other.0 fit.0 other_fits fit.1)) ∙ ap Some (ap follower_of (sym prior))
    where
      there_is : (o : Option Pos) → o ≢ None → o ≡ Some (unwrap_or o greatest_pos)
      there_is None none = absurd (none refl)
      there_is (Some q) none = refl

  -- The children of a node are its tiles.
  pub children-tile : Tile below (least_of at above) at (children_of at above below)
  children-tile = record {
    some = some (children_of at above below) last_child;
    first = each (first_of (children_of at above below)) (λ c. least_of c.0 below ≡ least_of at above) first_child;
    last = ends (last_of (children_of at above below)) last_child;
    next = λ k one other left right. let up : k + 1 ≡ suc k = omega arith in next_child k one other left (ap (slice_get (children_of at above below)) (sym up) ∙ right);
  }
    where
      some : (xs : Level) → option_map end_of (last_of xs) ≡ Some at → 0 < length xs
      some [] is = absurd (true≢false (sym (ap is_some is)))
      some (e ∷ es) is = omega arith

      each : (o : Option (Pos × NodePtr)) (P : Pos × NodePtr → Type 0) → ((c : Pos × NodePtr) → o ≡ Some c → P c) → IfSome o P
      each None P so = tt
      each (Some c) P so = so c refl

      ends : (o : Option (Pos × NodePtr)) → option_map end_of o ≡ Some at → IfSome o (λ c. c.0 ≡ at)
      ends None is = tt
      ends (Some c) is = same_Some c.0 at is

-- a position that isn't after one that isn't after a third isn't after that
not_after_two : (p q r : Pos) → pos_cmp p q ≢ Greater → pos_cmp q r ≢ Greater → pos_cmp p r ≢ Greater
not_after_two p q r first second = by (pos_cmp p q) refl
  where
    by : (o : Ordering) → pos_cmp p q ≡ o → pos_cmp p r ≢ Greater
    by Less is = less (before_le p q r is second)
      where
        less : IsBefore p r → pos_cmp p r ≢ Greater
        less before it = true≢false (ap is_lt (sym before ∙ it))
    by Equal is = subst (λ x. pos_cmp x r ≢ Greater) (sym (pos_exact p q is)) second
    by Greater is = absurd (first is)

at_most : (r : Ordering) → is_le r ≡ true → r ≢ Greater
at_most r le is = true≢false (sym le ∙ ap is_le is)

-- The node above that covers the end of a node covers all of it.
pub parent-covers : (above below : Level) → IsRow above → IsRow below → IsNested above below → (parent at pos : Pos) → PosFits pos → Covers above parent at → Covers below at pos → Covers above parent pos
parent-covers above below above_row below_row nested parent at pos fits outer inner = record {
  there = outer.there;
  within = (by (last_of (nodes_before parent above)) refl (before-fits parent above above_row.fits) outer.within.0, not_after_two pos at parent inner.within.1 outer.within.1);
}
  where
    at_fits : PosFits at
    at_fits = at_end PosFits below at below_row.fits inner.there

    parent_fits : PosFits parent
    parent_fits = at_end PosFits above parent above_row.fits outer.there

    by : (o : Option (Pos × NodePtr)) → last_of (nodes_before parent above) ≡ o → IsFitBefore parent o → pos_cmp (follower_of o) at ≢ Greater → pos_cmp (follower_of o) pos ≢ Greater
    by None is fit low = at_most (pos_cmp least_pos pos) (least-first pos fits)
    by (Some l) is fit low =
        let isnt = not_greatest l.0 parent fit.0 parent_fits fit.1 in
        let before_at : is_lt (pos_cmp l.0 at) ≡ true = sym (follows-test l.0 at fit.0 at_fits (not_greatest l.0 parent fit.0 parent_fits fit.1)) ∙ le_from (pos_cmp (follower_of (Some l)) at) low in
        let ends : EndsAt below l.0 = nested l.0 (kept_has (EndsAt above) (λ e. is_lt (pos_cmp e.0 parent)) above (length (nodes_before parent above) - 1) l (each_end (EndsAt above) above (λ q e. e)) is) in
        let among : EndsAt (nodes_before at below) l.0 = kept-ends (λ q. is_lt (pos_cmp q at)) l.0 below before_at ends in
        let all = All-from_recursion (λ q. IsBefore q pos) (keys_of (nodes_before at below)) (before-covered pos at below below_row fits at_fits inner.within.0) in
        let before_pos : IsBefore l.0 pos = at_end (λ q. IsBefore q pos) (nodes_before at below) l.0 all among in
        at_most (pos_cmp (follower_of (Some l)) pos) (follows-test l.0 pos fit.0 fits isnt ∙ ap is_lt before_pos)
