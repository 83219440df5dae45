-- A walk along the nodes of a level, from each to the one at the position that follows it.
use Rattle.std.proofs.Common.{◌≡◌, ◌<◌, ℕ, ◌+◌, Bool, true, false, cond, Option, Some, None, List, [], ◌∷◌, ◌++◌, drop, get_or, length, refl, sym, ap, ◌∙◌, subst, arith, append_assoc}
use Rattle.std.specs.Prelude.{All, MatchOption, is_some}
use Rattle.std.specs.List.{AllByRecursion}
use Rattle.std.specs.Map.{keys_of, values_of}
use Rattle.std.specs.Ordering.{is_le, is_lt, ordering_reverse}
use Rattle.std.specs.declared.cmp.Ordering.{Ordering}
use Rattle.std.specs.declared.cmp.Ordering.TheVariants.{Less, Equal, Greater}
use Rattle.std.proofs.lemmas.Bool.{true≢false}
use Rattle.std.proofs.lemmas.Cmp.{tied_itself}
use Rattle.std.proofs.lemmas.Grind.{flat_map-append}
use Rattle.std.proofs.lemmas.List.{drop_more}
use Rattle.std.proofs.lemmas.List.Elements.{All-head, All-tail}
use Rattle.std.proofs.lemmas.Map.Keys.{sorted_head, sorted_tail}
use Rattle.std.proofs.lemmas.Option.{same_Some}
use Rattle.tree_nodes.specs.CoverLaws.{above-head, first-value}
use Rattle.tree_nodes.specs.Levels.{IsRow, Level, Levels, first_of, node_at, nodes_from}
use Rattle.vol_types.specs.FollowerLaws.{after_test, least-first, not_greatest}
use Rattle.vol_types.specs.Maps.{IsMap}
use Rattle.vol_types.specs.PositionLaws.{next_pos-number, pos_exact, pos_total}
use Rattle.vol_types.specs.Positions.{IsBefore, IsNext, greatest_pos, least_pos, next_pos, pos_cmp}
use Rattle.vol_types.specs.Widths.{PosFits}
use Rattle.vol_types.specs.declared.pointers.NodePtr.{NodePtr}
use Rattle.vol_types.specs.declared.pointers.Place.{Place}
use Rattle.vol_types.specs.declared.positions.Pos.{Pos}
use Rattle.core_actors.specs.Nodes.{all_nodes, nodes_left, nodes_of_levels, places_in, places_of}

-- what is at or after a position still is where it lies behind that
le_before : (p q r : Pos) → is_le (pos_cmp p q) ≡ true → IsBefore q r → is_le (pos_cmp p r) ≡ true
le_before p q r le before = by (pos_cmp p q) refl
  where
    by : (o : Ordering) → pos_cmp p q ≡ o → is_le (pos_cmp p r) ≡ true
    by Less is = ap is_le (pos_total.trans p q r is before)
    by Equal is = ap is_le (subst (λ s. IsBefore s r) (sym (pos_exact p q is)) before)
    by Greater is = absurd (true≢false (sym le ∙ ap is_le is))

-- where all nodes end at a position or after it, they are those from it on
all_from : (pos : Pos) (nodes : Level) → AllByRecursion (λ q. is_le (pos_cmp pos q) ≡ true) (keys_of nodes) → nodes_from pos nodes ≡ nodes
all_from pos [] all = refl
all_from pos (e ∷ es) all = ap (λ b. cond b (e ∷ nodes_from pos es) (nodes_from pos es)) all.0 ∙ ap (λ xs. e ∷ xs) (all_from pos es all.1)

-- none ends before the least position
pub all_left : (nodes : Level) → All PosFits (keys_of nodes) → nodes_left (Some least_pos) nodes ≡ nodes
all_left [] fits = refl
all_left (e ∷ es) fits =
    ap (λ b. cond b (e ∷ nodes_from least_pos es) (nodes_from least_pos es)) (least-first e.0 (All-head PosFits e.0 (keys_of es) fits))
    ∙ ap (λ xs. e ∷ xs) (all_left es (All-tail PosFits e.0 (keys_of es) fits))

-- what is behind a position is so where a test holds of all that is behind it
behind : (P : Pos → Type 0) (at : Pos) (nodes : Level) → All PosFits (keys_of nodes) → AllByRecursion (λ q. pos_cmp at q ≡ Less) (keys_of nodes) → ((x : Pos) → PosFits x → IsBefore at x → P x) → AllByRecursion P (keys_of nodes)
behind P at [] fits all holds = tt
behind P at (e ∷ es) fits all holds = (holds e.0 (All-head PosFits e.0 (keys_of es) fits) all.0, behind P at es (All-tail PosFits e.0 (keys_of es) fits) all.1 holds)

-- nothing is behind the greatest position
none_behind : (at : Pos) (nodes : Level) → PosFits at → at ≡ greatest_pos → All PosFits (keys_of nodes) → AllByRecursion (λ q. pos_cmp at q ≡ Less) (keys_of nodes) → [] ≡ nodes
none_behind at [] fits is all above = refl
none_behind at (e ∷ es) fits is all above = absurd (not_greatest at e.0 fits (All-head PosFits e.0 (keys_of es) all) above.0 is)

module _ (at : Pos) (at_fits : PosFits at) where
  -- whether a node ends behind a position, where its follower is given
  follows : (next : Pos) → next_pos at ≡ Some next → (x : Pos) → PosFits x → is_le (pos_cmp next x) ≡ is_lt (pos_cmp at x)
  follows next is x fits = after_test at next at_fits is x fits

  -- the nodes behind the first one are those from the position that follows it on
  after_first : (e : Pos × NodePtr) (es : Level) → e.0 ≡ at → All PosFits (keys_of (e ∷ es)) → IsMap pos_cmp (e ∷ es) → (o : Option Pos) → next_pos at ≡ o → nodes_left o (e ∷ es) ≡ es
  after_first e es here fits rises None is =
      none_behind at es at_fits (subst (λ o. MatchOption o (at ≡ greatest_pos) (IsNext at)) is (next_pos-number at at_fits)) (All-tail PosFits e.0 (keys_of es) fits)
      (subst (λ p. AllByRecursion (λ q. pos_cmp p q ≡ Less) (keys_of es)) here (sorted_head pos_cmp e.0 (keys_of es) rises))
  after_first e es here fits rises (Some next) is =
      let not_itself : is_le (pos_cmp next e.0) ≡ false = follows next is e.0 (All-head PosFits e.0 (keys_of es) fits) ∙ ap (λ p. is_lt (pos_cmp at p)) here ∙ ap is_lt (tied_itself pos_total at) in
      ap (λ b. cond b (e ∷ nodes_from next es) (nodes_from next es)) not_itself
      ∙ all_from next es
      (behind (λ x. is_le (pos_cmp next x) ≡ true) at es (All-tail PosFits e.0 (keys_of es) fits)
      (subst (λ p. AllByRecursion (λ q. pos_cmp p q ≡ Less) (keys_of es)) here (sorted_head pos_cmp e.0 (keys_of es) rises)) (λ x wide before. follows next is x wide ∙ ap is_lt before))

  -- a node that ends before a position is none of those from its follower on
  passed : (e : Pos × NodePtr) (es : Level) → PosFits e.0 → IsBefore e.0 at → (o : Option Pos) → next_pos at ≡ o → nodes_left o (e ∷ es) ≡ nodes_left o es
  passed e es fits before None is = refl
  passed e es fits before (Some next) is =
      ap (λ b. cond b (e ∷ nodes_from next es) (nodes_from next es)) (follows next is e.0 fits ∙ ap is_lt (pos_total.antisymm at e.0 ∙ ap ordering_reverse before))

-- The nodes from a position on are the one that covers it, and those from the position that follows that one on.
pub step : (pos : Pos) (nodes : Level) (node : Pos × NodePtr) → IsMap pos_cmp nodes → All PosFits (keys_of nodes) → PosFits node.0 → node_at pos nodes ≡ Some node → nodes_from pos nodes ≡ node ∷ nodes_left (next_pos node.0) nodes
step pos [] node rises fits wide is = absurd (true≢false (sym (ap is_some is)))
step pos (e ∷ es) node rises fits wide is = by (is_le (pos_cmp pos e.0)) refl is (step pos es node (sorted_tail pos_cmp e.0 (keys_of es) rises) (All-tail PosFits e.0 (keys_of es) fits) wide)
  where
    by : (b : Bool) → is_le (pos_cmp pos e.0) ≡ b → first_of (cond b (e ∷ nodes_from pos es) (nodes_from pos es)) ≡ Some node → (node_at pos es ≡ Some node → nodes_from pos es ≡ node ∷ nodes_left (next_pos node.0) es)
        → cond b (e ∷ nodes_from pos es) (nodes_from pos es) ≡ node ∷ nodes_left (next_pos node.0) (e ∷ es)
    by true from found later =
        let same : e ≡ node = same_Some e node found in
        let tail : nodes_from pos es ≡ es = all_from pos es (behind (λ x. is_le (pos_cmp pos x) ≡ true) e.0 es (All-tail PosFits e.0 (keys_of es) fits) (sorted_head pos_cmp e.0 (keys_of es) rises) (λ x _ before. le_before pos e.0 x from before)) in
        ap (λ xs. e ∷ xs) tail ∙ ap (λ n. n ∷ es) same ∙ ap (λ xs. node ∷ xs) (sym (after_first node.0 wide e es (ap (λ (n : Pos × NodePtr). n.0) same) fits rises (next_pos node.0) refl))
    by false from found later =
        let there = first-value (λ n. is_le (pos_cmp pos n.0)) es node (sorted_tail pos_cmp e.0 (keys_of es) rises) found in
        let before : IsBefore e.0 node.0 = above-head e es node.0 rises (ap is_some there) in
        later found ∙ ap (λ xs. node ∷ xs) (sym (passed node.0 wide e es (All-head PosFits e.0 (keys_of es) fits) before (next_pos node.0) refl))

module _ (pos : Pos) (nodes : Level) (node : Pos × NodePtr) (next : Option Pos) (row : IsRow nodes) (wide : PosFits node.0) (is : node_at pos nodes ≡ Some node) (follows : next ≡ next_pos node.0) where
  parts : nodes_from pos nodes ≡ node ∷ nodes_left next nodes
  parts = step pos nodes node row.rises row.fits wide is ∙ ap (λ o. node ∷ nodes_left o nodes) (sym follows)

  -- the places of a node were added
  pub added : (old new : List Place) → new ≡ old ++ node.1.places → new ++ places_of (values_of (nodes_left next nodes)) ≡ old ++ places_of (values_of (nodes_left (Some pos) nodes))
  added old new push =
      ap (λ xs. xs ++ places_of (values_of (nodes_left next nodes))) push ∙ append_assoc old node.1.places (places_of (values_of (nodes_left next nodes)))
      ∙ ap (λ xs. old ++ places_of (values_of xs)) (sym parts)

  -- one node less is left
  pub fewer : length (nodes_left next nodes) < length (nodes_left (Some pos) nodes)
  fewer = omega (arith, ap (length {A = Pos × NodePtr}) parts)

-- the places of the nodes of a btree were added
pub btree_added : (trees : List Levels) (code : ℕ) → code < length trees → (old new : List Place) → new ≡ old ++ places_of (nodes_of_levels (get_or trees code [])) → new ++ places_in (drop (code + 1) trees) ≡ old ++ places_in (drop code trees)
btree_added trees code lt old new push =
    let here = places_of (nodes_of_levels (get_or trees code [])) in
    let rest = places_in (drop (code + 1) trees) in
    ap (λ xs. xs ++ rest) push ∙ append_assoc old here rest
    ∙ ap (λ xs. old ++ xs) (sym (flat_map-append (λ (node : NodePtr). node.places) (nodes_of_levels (get_or trees code [])) (all_nodes (drop (code + 1) trees))) ∙ ap places_in (sym (drop_more trees code [] lt)))
