-- Each position is covered by exactly one node of a level.
use Rattle.std.proofs.Common.{◌≡◌, ◌≢◌, suc, ◌-◌, Bool, true, false, cond, not, Option, Some, None, [], ◌∷◌, ◌++◌, length, refl, sym, ap, ◌∙◌, subst, arith}
use Rattle.std.specs.Prelude.{All, IsSome, is_some, IfSome, slice_get, unwrap_or}
use Rattle.std.specs.List.{AllByRecursion, filter}
use Rattle.std.specs.BTreeMap.{is_at}
use Rattle.std.specs.Map.{keys_of}
use Rattle.std.specs.Ordering.{is_eq, is_le, is_lt, ordering_reverse}
use Rattle.std.specs.declared.cmp.Ordering.{Ordering}
use Rattle.std.specs.declared.cmp.Ordering.TheVariants.{Less, Equal, Greater}
use Rattle.std.proofs.lemmas.Bool.{true≢false}
use Rattle.std.proofs.lemmas.Cmp.{tied_itself}
use Rattle.std.proofs.lemmas.Map.Keys.{sorted_head, sorted_tail}
use Rattle.std.proofs.lemmas.Option.{same_Some}
use Rattle.std.proofs.lemmas.List.Elements.{All-head, All-tail, All-from_recursion}
use Rattle.vol_types.specs.MapLaws.{IsMap-parts}
use Rattle.vol_types.specs.Maps.{IsMap, value_at}
use Rattle.vol_types.specs.PositionLaws.{pos_total, pos_exact}
use Rattle.vol_types.specs.Positions.{pos_cmp, IsBefore, IsWithin, greatest_pos}
use Rattle.vol_types.specs.Widths.{PosFits}
use Rattle.vol_types.specs.declared.pointers.NodePtr.{NodePtr}
use Rattle.vol_types.specs.declared.positions.Pos.{Pos}
use Rattle.vol_types.specs.FollowerLaws.{follows-test, greatest-last, least-first, not_greatest}
use Rattle.tree_nodes.specs.Levels.{Level, Covers, EndsAt, IsRow, first_of, follower_of, last_of, least_of, node_at, nodes_before, nodes_from}
use Rattle.tree_nodes.specs.RowLaws.{at_end, same_at}

-- the last of a list is that of what follows its head, if anything does
pub last-step : (e : Pos × NodePtr) (es : Level) → last_of (e ∷ es) ≡ Some (unwrap_or (last_of es) e)
last-step e [] = refl
last-step e (d ∷ es) =
    let outer : length (e ∷ d ∷ es) - 1 ≡ suc (length es) = omega arith in
    let inner : length (d ∷ es) - 1 ≡ length es = omega arith in
    ap (slice_get (e ∷ d ∷ es)) outer ∙ ap (slice_get (d ∷ es)) (sym inner) ∙ last-step d es ∙ ap (λ o. Some (unwrap_or o e)) (sym (last-step d es))

-- A node before a position, if it is one at all.
abbrev pub IsFitBefore : Pos → Option (Pos × NodePtr) → Type 0
IsFitBefore at o = IfSome o (λ e. PosFits e.0 × IsBefore e.0 at)

-- Below is less.
pub lt_less : (r : Ordering) → is_lt r ≡ true → r ≡ Less
lt_less Less is = refl
lt_less Equal is = absurd (true≢false (sym is))
lt_less Greater is = absurd (true≢false (sym is))

-- the last node before a position has its widths and is before it
pub before-fits : (at : Pos) (nodes : Level) → All PosFits (keys_of nodes) → IsFitBefore at (last_of (nodes_before at nodes))
before-fits at [] fits = tt
before-fits at (e ∷ es) fits = by (is_lt (pos_cmp e.0 at)) refl (before-fits at es (All-tail PosFits e.0 (keys_of es) fits))
  where
    first : PosFits e.0
    first = All-head PosFits e.0 (keys_of es) fits

    either : (o : Option (Pos × NodePtr)) → IsFitBefore at o → IsBefore e.0 at → IsFitBefore at (Some (unwrap_or o e))
    either None fit before = (first, before)
    either (Some d) fit before = fit

    by : (b : Bool) → is_lt (pos_cmp e.0 at) ≡ b → IsFitBefore at (last_of (nodes_before at es)) → IsFitBefore at (last_of (cond b (e ∷ nodes_before at es) (nodes_before at es)))
    by true is later = subst (IsFitBefore at) (sym (last-step e (nodes_before at es))) (either (last_of (nodes_before at es)) later (lt_less (pos_cmp e.0 at) is))
    by false is later = later

-- The least position of what ends at a position isn't after it.
pub least-le : (at : Pos) (nodes : Level) → All PosFits (keys_of nodes) → PosFits at → is_le (pos_cmp (least_of at nodes) at) ≡ true
least-le at nodes fits at_fits = by (last_of (nodes_before at nodes)) (before-fits at nodes fits)
  where
    by : (o : Option (Pos × NodePtr)) → IsFitBefore at o → is_le (pos_cmp (follower_of o) at) ≡ true
    by None fit = least-first at at_fits
    by (Some e) fit = follows-test e.0 at fit.0 at_fits (not_greatest e.0 at fit.0 at_fits fit.1) ∙ ap is_lt fit.1

-- Each position that has its widths is covered by a node of a level.
pub node_at-some : (pos : Pos) (nodes : Level) → EndsAt nodes greatest_pos → PosFits pos → IsSome (node_at pos nodes)
node_at-some pos [] ends fits = absurd (true≢false (sym ends))
node_at-some pos (e ∷ es) ends fits = by (is_le (pos_cmp pos e.0)) refl (λ later. node_at-some pos es later fits)
  where
    past : (b : Bool) → is_at (pos_cmp greatest_pos) e.0 ≡ b → is_le (pos_cmp pos e.0) ≡ false → IsSome (cond b (Some e.1) (value_at pos_cmp greatest_pos es)) → EndsAt es greatest_pos
    past true here after some = absurd (true≢false (sym (greatest-last pos fits) ∙ ap (λ p. is_le (pos_cmp pos p)) (same_at greatest_pos e.0 here) ∙ after))
    past false here after some = some

    by : (b : Bool) → is_le (pos_cmp pos e.0) ≡ b → (EndsAt es greatest_pos → IsSome (node_at pos es)) → IsSome (slice_get (cond b (e ∷ filter (λ node. is_le (pos_cmp pos node.0)) es) (filter (λ node. is_le (pos_cmp pos node.0)) es)) 0)
    by true is later = refl
    by false is later = later (past (is_at (pos_cmp greatest_pos) e.0) refl is ends)

-- One position is at most another exactly where that isn't before it.
pub turned : (p q : Pos) → is_le (pos_cmp p q) ≡ not (is_lt (pos_cmp q p))
turned p q = ap is_le (pos_total.antisymm p q) ∙ by (pos_cmp q p)
  where
    by : (r : Ordering) → is_le (ordering_reverse r) ≡ not (is_lt r)
    by Less = refl
    by Equal = refl
    by Greater = refl

-- a position is no further than one that all later ones are above
none_before : (low at : Pos) (nodes : Level) → is_lt (pos_cmp low at) ≡ false → AllByRecursion (λ q. pos_cmp low q ≡ Less) (keys_of nodes) → nodes_before at nodes ≡ []
none_before low at [] not_low above = refl
none_before low at (e ∷ es) not_low above = ap (λ b. cond b (e ∷ nodes_before at es) (nodes_before at es)) (by (is_lt (pos_cmp e.0 at)) refl) ∙ none_before low at es not_low above.1
  where
    by : (b : Bool) → is_lt (pos_cmp e.0 at) ≡ b → is_lt (pos_cmp e.0 at) ≡ false
    by true is = absurd (true≢false (sym (ap is_lt (pos_total.trans low e.0 at above.0 (lt_less (pos_cmp e.0 at) is))) ∙ not_low))
    by false is = is

-- The nodes of a level are those that end before a position, and then those that don't.
pub parted : (at : Pos) (nodes : Level) → IsMap pos_cmp nodes → nodes ≡ nodes_before at nodes ++ nodes_from at nodes
parted at [] rises = refl
parted at (e ∷ es) rises = by (is_lt (pos_cmp e.0 at)) refl (parted at es (sorted_tail pos_cmp e.0 (keys_of es) rises))
  where
    from : (b : Bool) → is_lt (pos_cmp e.0 at) ≡ b → is_le (pos_cmp at e.0) ≡ not b
    from b is = turned at e.0 ∙ ap not is

    by : (b : Bool) → is_lt (pos_cmp e.0 at) ≡ b → es ≡ nodes_before at es ++ nodes_from at es
        → e ∷ es ≡ cond b (e ∷ nodes_before at es) (nodes_before at es) ++ cond (is_le (pos_cmp at e.0)) (e ∷ nodes_from at es) (nodes_from at es)
    by true is later = ap (λ xs. e ∷ xs) later ∙ ap (λ c. (e ∷ nodes_before at es) ++ cond c (e ∷ nodes_from at es) (nodes_from at es)) (sym (from true is))
    by false is later =
        let none : nodes_before at es ≡ [] = none_before e.0 at es is (sorted_head pos_cmp e.0 (keys_of es) rises) in
        ap (λ xs. e ∷ xs) (later ∙ ap (λ xs. xs ++ nodes_from at es) none) ∙ ap (λ xs. xs ++ e ∷ nodes_from at es) (sym none)
        ∙ ap (λ c. nodes_before at es ++ cond c (e ∷ nodes_from at es) (nodes_from at es)) (sym (from false is))

-- The nodes that end before a node are those in front of it.
pub before-node : (front : Level) (node : Pos × NodePtr) (back : Level) → IsMap pos_cmp (front ++ node ∷ back) → nodes_before node.0 (front ++ node ∷ back) ≡ front
before-node [] node back rises =
    ap (λ r. cond (is_lt r) (node ∷ nodes_before node.0 back) (nodes_before node.0 back)) (tied_itself pos_total node.0)
    ∙ none_before node.0 node.0 back (ap is_lt (tied_itself pos_total node.0)) (sorted_head pos_cmp node.0 (keys_of back) rises)
before-node (e ∷ front) node back rises =
    ap (λ r. cond (is_lt r) (e ∷ nodes_before node.0 (front ++ node ∷ back)) (nodes_before node.0 (front ++ node ∷ back))) (IsMap-parts pos_cmp (e ∷ front) (node ∷ back) rises).2.0.0
    ∙ ap (λ xs. e ∷ xs) (before-node front node back (sorted_tail pos_cmp e.0 (keys_of (front ++ node ∷ back)) rises))

-- What is found at the front of a list, and what follows it.
headed : (nodes : Level) (node : Pos × NodePtr) → first_of nodes ≡ Some node → (back : Level) × (nodes ≡ node ∷ back)
headed [] node is = absurd (true≢false (sym (ap is_some is)))
headed (e ∷ es) node is = (es, ap (λ d. d ∷ es) (same_Some e node is))

-- The node that covers a position has the least position that what ends there would have.
pub least-same : (pos : Pos) (nodes : Level) (node : Pos × NodePtr) → IsMap pos_cmp nodes → node_at pos nodes ≡ Some node → least_of node.0 nodes ≡ least_of pos nodes
least-same pos nodes node rises is =
    let head = headed (nodes_from pos nodes) node is in
    let whole : nodes ≡ nodes_before pos nodes ++ node ∷ head.0 = parted pos nodes rises ∙ ap (λ xs. nodes_before pos nodes ++ xs) head.1 in
    ap (λ xs. follower_of (last_of (nodes_before node.0 xs))) whole ∙ ap (λ xs. follower_of (last_of xs)) (before-node (nodes_before pos nodes) node head.0 (subst (IsMap pos_cmp) whole rises))

-- What is first among those that pass a test has passed it.
pub first_passes : (p : Pos × NodePtr → Bool) (nodes : Level) (node : Pos × NodePtr) → first_of (filter p nodes) ≡ Some node → p node ≡ true
first_passes p [] node is = absurd (true≢false (sym (ap is_some is)))
first_passes p (e ∷ es) node is = by (p e) refl is (first_passes p es node)
  where
    by : (b : Bool) → p e ≡ b → first_of (cond b (e ∷ filter p es) (filter p es)) ≡ Some node → (first_of (filter p es) ≡ Some node → p node ≡ true) → p node ≡ true
    by true passes found later = ap p (sym (same_Some e node found)) ∙ passes
    by false fails found later = later found

-- What is above a position is above it where a node ends.
pub above-head : (e : Pos × NodePtr) (es : Level) (at : Pos) → IsMap pos_cmp (e ∷ es) → EndsAt es at → IsBefore e.0 at
above-head e es at rises ends = at_end (IsBefore e.0) es at (All-from_recursion (IsBefore e.0) (keys_of es) (sorted_head pos_cmp e.0 (keys_of es) rises)) ends

-- The first node that passes a test is the one that ends where it does.
pub first-value : (p : Pos × NodePtr → Bool) (nodes : Level) (node : Pos × NodePtr) → IsMap pos_cmp nodes → first_of (filter p nodes) ≡ Some node → value_at pos_cmp node.0 nodes ≡ Some node.1
first-value p [] node rises is = absurd (true≢false (sym (ap is_some is)))
first-value p (e ∷ es) node rises is = by (p e) is (first-value p es node (sorted_tail pos_cmp e.0 (keys_of es) rises))
  where
    by : (b : Bool) → first_of (cond b (e ∷ filter p es) (filter p es)) ≡ Some node → (first_of (filter p es) ≡ Some node → value_at pos_cmp node.0 es ≡ Some node.1) → value_at pos_cmp node.0 (e ∷ es) ≡ Some node.1
    by true found later =
        let same : e ≡ node = same_Some e node found in
        subst (λ n. value_at pos_cmp n.0 (e ∷ es) ≡ Some n.1) same (ap (λ r. cond (is_eq r) (Some e.1) (value_at pos_cmp e.0 es)) (tied_itself pos_total e.0))
    by false found later =
        let there = later found in
        let before : IsBefore e.0 node.0 = above-head e es node.0 rises (ap is_some there) in
        ap (λ r. cond (is_eq r) (Some e.1) (value_at pos_cmp node.0 es)) (pos_total.antisymm node.0 e.0 ∙ ap ordering_reverse before) ∙ there

-- The node that is found for a position covers it.
pub node_at-covers : (pos : Pos) (nodes : Level) (node : Pos × NodePtr) → IsRow nodes → PosFits pos → node_at pos nodes ≡ Some node → Covers nodes node.0 pos
node_at-covers pos nodes node row fits is = record {
  there = ap is_some (first-value (λ n. is_le (pos_cmp pos n.0)) nodes node row.rises is);
  within = (
    subst (λ p. pos_cmp p pos ≢ Greater) (sym (least-same pos nodes node row.rises is)) (not_after (pos_cmp (least_of pos nodes) pos) (least-le pos nodes row.fits fits)),
    not_after (pos_cmp pos node.0) (first_passes (λ n. is_le (pos_cmp pos n.0)) nodes node is),
  );
}
  where
    not_after : (r : Ordering) → is_le r ≡ true → r ≢ Greater
    not_after r le is = true≢false (sym le ∙ ap is_le is)

-- What is before a position that isn't after another is before that.
pub before_le : (p q r : Pos) → IsBefore p q → pos_cmp q r ≢ Greater → IsBefore p r
before_le p q r before le = by (pos_cmp q r) refl
  where
    by : (o : Ordering) → pos_cmp q r ≡ o → IsBefore p r
    by Less is = pos_total.trans p q r before is
    by Equal is = subst (IsBefore p) (pos_exact q r is) before
    by Greater is = absurd (le is)

-- where the last of some nodes is before a position, all are
all_before : (x : Pos) (nodes : Level) → IsMap pos_cmp nodes → IfSome (last_of nodes) (λ l. IsBefore l.0 x) → AllByRecursion (λ q. IsBefore q x) (keys_of nodes)
all_before x [] rises last = tt
all_before x (e ∷ []) rises last = (last, tt)
all_before x (e ∷ d ∷ es) rises last =
    let same : last_of (e ∷ d ∷ es) ≡ last_of (d ∷ es) = last-step e (d ∷ es) ∙ ap (λ o. Some (unwrap_or o e)) (last-step d es) ∙ sym (last-step d es) in
    let later = all_before x (d ∷ es) (sorted_tail pos_cmp e.0 (keys_of (d ∷ es)) rises) (subst (λ o. IfSome o (λ l. IsBefore l.0 x)) same last) in
    (pos_total.trans e.0 d.0 x (sorted_head pos_cmp e.0 (keys_of (d ∷ es)) rises).0 later.0, later)

-- where all nodes that end before the second position end before the first, which isn't after it, the others are the same
same_from : (pos at : Pos) (nodes : Level) → pos_cmp pos at ≢ Greater → AllByRecursion (λ q. IsBefore q pos) (keys_of (nodes_before at nodes)) → nodes_from pos nodes ≡ nodes_from at nodes
same_from pos at [] le all = refl
same_from pos at (e ∷ es) le all = by (is_lt (pos_cmp e.0 at)) refl all (same_from pos at es le)
  where
    none_between : (b : Bool) → is_lt (pos_cmp e.0 pos) ≡ b → is_lt (pos_cmp e.0 at) ≡ false → is_lt (pos_cmp e.0 pos) ≡ false
    none_between true is not_before = absurd (true≢false (sym (ap is_lt (before_le e.0 pos at (lt_less (pos_cmp e.0 pos) is) le)) ∙ not_before))
    none_between false is not_before = is

    tested : (b : Bool) → is_lt (pos_cmp e.0 pos) ≡ b → is_lt (pos_cmp e.0 at) ≡ b → nodes_from pos es ≡ nodes_from at es → nodes_from pos (e ∷ es) ≡ nodes_from at (e ∷ es)
    tested b one other later =
        ap (λ c. cond c (e ∷ nodes_from pos es) (nodes_from pos es)) (turned pos e.0 ∙ ap not one) ∙ ap (λ xs. cond (not b) (e ∷ xs) xs) later ∙ ap (λ c. cond c (e ∷ nodes_from at es) (nodes_from at es)) (sym (turned at e.0 ∙ ap not other))

    by : (b : Bool) → is_lt (pos_cmp e.0 at) ≡ b → AllByRecursion (λ q. IsBefore q pos) (keys_of (cond b (e ∷ nodes_before at es) (nodes_before at es)))
        → (AllByRecursion (λ q. IsBefore q pos) (keys_of (nodes_before at es)) → nodes_from pos es ≡ nodes_from at es) → nodes_from pos (e ∷ es) ≡ nodes_from at (e ∷ es)
    by true is each later = tested true (ap is_lt each.0) is (later each.1)
    by false is each later = tested false (none_between (is_lt (pos_cmp e.0 pos)) refl is) is (later each)

-- The node that ends at a position is the one that covers it.
pub node_at-end : (at : Pos) (node : NodePtr) (nodes : Level) → IsMap pos_cmp nodes → value_at pos_cmp at nodes ≡ Some node → node_at at nodes ≡ Some (at, node)
node_at-end at node [] rises is = absurd (true≢false (sym (ap is_some is)))
node_at-end at node (e ∷ es) rises is = by (is_at (pos_cmp at) e.0) refl is (node_at-end at node es (sorted_tail pos_cmp e.0 (keys_of es) rises))
  where
    above : EndsAt es at → IsBefore e.0 at
    above ends = at_end (IsBefore e.0) es at (All-from_recursion (IsBefore e.0) (keys_of es) (sorted_head pos_cmp e.0 (keys_of es) rises)) ends

    by : (b : Bool) → is_at (pos_cmp at) e.0 ≡ b → cond b (Some e.1) (value_at pos_cmp at es) ≡ Some node → (value_at pos_cmp at es ≡ Some node → node_at at es ≡ Some (at, node)) → node_at at (e ∷ es) ≡ Some (at, node)
    by true here found later =
        let same : at ≡ e.0 = same_at at e.0 here in
        ap (λ r. first_of (cond (is_le r) (e ∷ nodes_from at es) (nodes_from at es))) (ap (pos_cmp at) (sym same) ∙ tied_itself pos_total at) ∙ ap Some (λ i. (sym same i, same_Some e.1 node found i))
    by false here found later =
        let before = above (ap is_some found) in
        ap (λ c. first_of (cond c (e ∷ nodes_from at es) (nodes_from at es))) (turned at e.0 ∙ ap (λ r. not (is_lt r)) before) ∙ later found

-- Where what ends at a position begins at another or before it, all nodes before the one are before the other.
pub before-covered : (pos at : Pos) (nodes : Level) → IsRow nodes → PosFits pos → PosFits at → pos_cmp (least_of at nodes) pos ≢ Greater → AllByRecursion (λ q. IsBefore q pos) (keys_of (nodes_before at nodes))
before-covered pos at nodes row fits ends least =
    all_before pos (nodes_before at nodes) (IsMap-parts pos_cmp (nodes_before at nodes) (nodes_from at nodes) (subst (IsMap pos_cmp) (parted at nodes row.rises) row.rises)).0
    (by (last_of (nodes_before at nodes)) (before-fits at nodes row.fits) least)
  where
    le : (r : Ordering) → r ≢ Greater → is_le r ≡ true
    le Less isnt = refl
    le Equal isnt = refl
    le Greater isnt = absurd (isnt refl)

    by : (o : Option (Pos × NodePtr)) → IsFitBefore at o → pos_cmp (follower_of o) pos ≢ Greater → IfSome o (λ l. IsBefore l.0 pos)
    by None fit after = tt
    by (Some l) fit after = lt_less (pos_cmp l.0 pos) (sym (follows-test l.0 pos fit.0 fits (not_greatest l.0 at fit.0 ends fit.1)) ∙ le (pos_cmp (follower_of (Some l)) pos) after)

-- Only one node covers a position.
pub covered-once : (pos at : Pos) (node : NodePtr) (nodes : Level) → IsRow nodes → PosFits pos → value_at pos_cmp at nodes ≡ Some node → IsWithin (least_of at nodes) at pos → node_at pos nodes ≡ Some (at, node)
covered-once pos at node nodes row fits is within =
    ap first_of (same_from pos at nodes within.1 (before-covered pos at nodes row fits (at_end PosFits nodes at row.fits (ap is_some is)) within.0)) ∙ node_at-end at node nodes row.rises is
