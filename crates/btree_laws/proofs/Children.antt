-- The nodes of a level are the children of those of the level above, one list after the other.
use Rattle.std.proofs.Common.{◌≡◌, ◌≢◌, Bool, true, false, cond, not, ◌&&◌, Some, None, List, [], ◌∷◌, ◌++◌, refl, sym, ap, ◌∙◌, subst}
use Rattle.std.specs.Prelude.{All, IsSome, unwrap_or}
use Rattle.std.specs.BTreeMap.{is_at}
use Rattle.std.specs.List.{AllByRecursion, filter, flat_map}
use Rattle.std.specs.Map.{keys_of}
use Rattle.std.specs.Ordering.{is_le, is_lt}
use Rattle.std.proofs.lemmas.Bool.{and_right, true≢false}
use Rattle.std.proofs.lemmas.List.{append-nil}
use Rattle.std.proofs.lemmas.List.Elements.{All-head, All-tail}
use Rattle.std.proofs.lemmas.Map.Keys.{sorted_head, sorted_tail}
use Rattle.tree_nodes.specs.CoverLaws.{lt_less, turned}
use Rattle.tree_nodes.specs.Levels.{EndsAt, IsRow, Level, children_of, follower_of, nodes_from}
use Rattle.tree_nodes.specs.RowLaws.{same_at}
use Rattle.vol_types.specs.FollowerLaws.{follows-test, greatest-last, least-first, not_greatest}
use Rattle.vol_types.specs.Maps.{IsMap, value_at}
use Rattle.vol_types.specs.PositionLaws.{pos_total}
use Rattle.vol_types.specs.Positions.{IsBefore, greatest_pos, is_within, least_pos, next_pos, pos_cmp}
use Rattle.vol_types.specs.Widths.{PosFits}
use Rattle.vol_types.specs.declared.pointers.NodePtr.{NodePtr}
use Rattle.vol_types.specs.declared.positions.Pos.{Pos}
use Rattle.btree_laws.proofs.Levels.{behind, last_pushed, least_there, step_on}

-- Two tests that agree at positions with their widths leave the same nodes.
same_tests : (p q : Pos → Bool) → ((x : Pos) → PosFits x → p x ≡ q x) → (nodes : Level) → All PosFits (keys_of nodes) → filter (λ e. p e.0) nodes ≡ filter (λ e. q e.0) nodes
same_tests p q same [] fits = refl
same_tests p q same (e ∷ es) fits =
    ap (λ b. cond b (e ∷ filter (λ x. p x.0) es) (filter (λ x. p x.0) es)) (same e.0 (All-head PosFits e.0 (keys_of es) fits))
    ∙ ap (λ rest. cond (q e.0) (e ∷ rest) rest) (same_tests p q same es (All-tail PosFits e.0 (keys_of es) fits))

-- Where all positions pass a test, it leaves all nodes.
all_pass : (p : Pos → Bool) → ((x : Pos) → PosFits x → p x ≡ true) → (nodes : Level) → All PosFits (keys_of nodes) → filter (λ e. p e.0) nodes ≡ nodes
all_pass p passes [] fits = refl
all_pass p passes (e ∷ es) fits =
    ap (λ b. cond b (e ∷ filter (λ x. p x.0) es) (filter (λ x. p x.0) es)) (passes e.0 (All-head PosFits e.0 (keys_of es) fits))
    ∙ ap (λ rest. e ∷ rest) (all_pass p passes es (All-tail PosFits e.0 (keys_of es) fits))

-- No node behind a range is in it.
none_within : (least at : Pos) (nodes : Level) → AllByRecursion (IsBefore at) (keys_of nodes) → filter (λ e. is_within least at e.0) nodes ≡ []
none_within least at [] above = refl
none_within least at (e ∷ es) above =
    ap (λ b. cond b (e ∷ filter (λ x. is_within least at x.0) es) (filter (λ x. is_within least at x.0) es)) (and_right (is_le (pos_cmp least e.0)) (is_le (pos_cmp e.0 at)) (turned e.0 at ∙ ap (λ r. not (is_lt r)) above.0))
    ∙ none_within least at es above.1

-- What is below a lower one is below all that it is below.
below_all : (low high : Pos) (keys : List Pos) → IsBefore low high → AllByRecursion (IsBefore high) keys → AllByRecursion (IsBefore low) keys
below_all low high [] less all = tt
below_all low high (k ∷ ks) less all = (pos_total.trans low high k less all.0, below_all low high ks less all.1)

-- The nodes from a position on are those up to another and those from the one behind it on.
module _ (least at : Pos) (fits : PosFits at) (inner : at ≢ greatest_pos) (reaches : (x : Pos) → IsBefore at x → is_le (pos_cmp least x) ≡ true) where
  abbrev next : Pos
  next = unwrap_or (next_pos at) greatest_pos

  in_two : (nodes : Level) → IsMap pos_cmp nodes → All PosFits (keys_of nodes) → filter (λ e. is_within least at e.0) nodes ++ nodes_from next nodes ≡ nodes_from least nodes
  in_two [] rises wide = refl
  in_two (e ∷ es) rises wide = by (is_le (pos_cmp least e.0)) refl (is_lt (pos_cmp at e.0)) refl (in_two es (sorted_tail pos_cmp e.0 (keys_of es) rises) (All-tail PosFits e.0 (keys_of es) wide))
    where
      inside : Level
      inside = filter (λ x. is_within least at x.0) es

      behind_test : (t : Bool) → is_lt (pos_cmp at e.0) ≡ t → is_le (pos_cmp next e.0) ≡ t
      behind_test t is = follows-test at e.0 fits (All-head PosFits e.0 (keys_of es) wide) inner ∙ is

      up_to_test : (t : Bool) → is_lt (pos_cmp at e.0) ≡ t → is_le (pos_cmp e.0 at) ≡ not t
      up_to_test t is = turned e.0 at ∙ ap not is

      none : is_lt (pos_cmp at e.0) ≡ true → inside ≡ []
      none after = none_within least at es (below_all at e.0 (keys_of es) (lt_less (pos_cmp at e.0) after) (sorted_head pos_cmp e.0 (keys_of es) rises))

      -- the parts by both tests
      parts : (s t : Bool) → is_le (pos_cmp least e.0) ≡ s → is_lt (pos_cmp at e.0) ≡ t
          → filter (λ x. is_within least at x.0) (e ∷ es) ++ nodes_from next (e ∷ es) ≡ cond (s && not t) (e ∷ inside) inside ++ cond t (e ∷ nodes_from next es) (nodes_from next es)
      parts s t low after =
          λ i. cond (low i && up_to_test t after i) (e ∷ inside) inside ++ cond (behind_test t after i) (e ∷ nodes_from next es) (nodes_from next es)

      from : (s : Bool) → is_le (pos_cmp least e.0) ≡ s → cond s (e ∷ nodes_from least es) (nodes_from least es) ≡ nodes_from least (e ∷ es)
      from s low = ap (λ b. cond b (e ∷ nodes_from least es) (nodes_from least es)) (sym low)

      by : (s : Bool) → is_le (pos_cmp least e.0) ≡ s → (t : Bool) → is_lt (pos_cmp at e.0) ≡ t → inside ++ nodes_from next es ≡ nodes_from least es
          → filter (λ x. is_within least at x.0) (e ∷ es) ++ nodes_from next (e ∷ es) ≡ nodes_from least (e ∷ es)
      by true low false after later = parts true false low after ∙ ap (λ xs. e ∷ xs) later ∙ from true low
      by false low false after later = parts false false low after ∙ later ∙ from false low
      by true low true after later =
          parts true true low after ∙ ap (λ xs. xs ++ e ∷ nodes_from next es) (none after) ∙ ap (λ xs. e ∷ (xs ++ nodes_from next es)) (sym (none after)) ∙ ap (λ xs. e ∷ xs) later ∙ from true low
      by false low true after later = absurd (true≢false (sym (reaches e.0 (lt_less (pos_cmp at e.0) after)) ∙ low))

-- a node that begins behind others reaches what is behind its end
reaching : (whole front : Level) (e : Pos × NodePtr) (back : Level) → IsRow whole → front ++ e ∷ back ≡ whole → is_le (pos_cmp (behind front) e.0) ≡ true → (x : Pos) → IsBefore e.0 x → is_le (pos_cmp (behind front) x) ≡ true
reaching whole front e back row is low x before = turned (behind front) x ∙ ap not (none (is_lt (pos_cmp x (behind front))) refl)
  where
    none : (b : Bool) → is_lt (pos_cmp x (behind front)) ≡ b → is_lt (pos_cmp x (behind front)) ≡ false
    none true up = absurd (true≢false (sym low ∙ turned (behind front) e.0 ∙ ap (λ r. not (is_lt r)) (pos_total.trans e.0 x (behind front) before (lt_less (pos_cmp x (behind front)) up))))
    none false up = up

module _ (above below : Level) (row : IsRow above) (lower : IsRow below) where
  -- the children of a node behind others
  own_children : (front : Level) (e : Pos × NodePtr) (back : Level) → front ++ e ∷ back ≡ above → children_of e.0 above below ≡ filter (λ c. is_within (behind front) e.0 c.0) below
  own_children front e back is = ap (λ least. filter (λ c. is_within least e.0 c.0) below) (least_there above front e back row.rises is)

  at_greatest : (e : Pos × NodePtr) → EndsAt (e ∷ []) greatest_pos → e.0 ≡ greatest_pos
  at_greatest e ends = by (is_at (pos_cmp greatest_pos) e.0) refl ends
    where
      by : (b : Bool) → is_at (pos_cmp greatest_pos) e.0 ≡ b → IsSome (cond b (Some e.1) None) → e.0 ≡ greatest_pos
      by true is some = sym (same_at greatest_pos e.0 is)
      by false is some = absurd (true≢false (sym some))

  later_ends : (e d : Pos × NodePtr) (ds : Level) → e.0 ≢ greatest_pos → EndsAt (e ∷ d ∷ ds) greatest_pos → EndsAt (d ∷ ds) greatest_pos
  later_ends e d ds inner ends = by (is_at (pos_cmp greatest_pos) e.0) refl ends
    where
      by : (b : Bool) → is_at (pos_cmp greatest_pos) e.0 ≡ b → IsSome (cond b (Some e.1) (value_at pos_cmp greatest_pos (d ∷ ds))) → EndsAt (d ∷ ds) greatest_pos
      by true is some = absurd (inner (sym (same_at greatest_pos e.0 is)))
      by false is some = some

  -- The children of all nodes behind others are the nodes that end behind these.
  children_from : (front nodes : Level) → front ++ nodes ≡ above → IsRow nodes → ((e : Pos × NodePtr) (back : Level) → nodes ≡ e ∷ back → is_le (pos_cmp (behind front) e.0) ≡ true) → EndsAt nodes greatest_pos
      → flat_map (λ n. children_of n.0 above below) nodes ≡ nodes_from (behind front) below
  children_from front [] is own low ends = absurd (true≢false (sym ends))
  children_from front (e ∷ []) is own low ends =
      let last = at_greatest e ends in
      append-nil (children_of e.0 above below) ∙ own_children front e [] is
      ∙ same_tests (λ x. is_within (behind front) e.0 x) (λ x. is_le (pos_cmp (behind front) x))
      (λ x fits. ap (λ q. is_le (pos_cmp (behind front) x) && is_le (pos_cmp x q)) last ∙ ap (λ b. is_le (pos_cmp (behind front) x) && b) (greatest-last x fits) ∙ and_true (is_le (pos_cmp (behind front) x))) below lower.fits
    where
      and_true : (b : Bool) → (b && true) ≡ b
      and_true true = refl
      and_true false = refl
  children_from front (e ∷ d ∷ ds) is own low ends =
      let fits = All-head PosFits e.0 (keys_of (d ∷ ds)) own.fits in
      let wide = All-tail PosFits e.0 (keys_of (d ∷ ds)) own.fits in
      let d_fits = All-head PosFits d.0 (keys_of ds) wide in
      let before = (sorted_head pos_cmp e.0 (keys_of (d ∷ ds)) own.rises).0 in
      let inner = not_greatest e.0 d.0 fits d_fits before in
      let next_is : behind (front ++ e ∷ []) ≡ unwrap_or (next_pos e.0) greatest_pos = ap follower_of (last_pushed front e) in
      let reach = reaching above front e (d ∷ ds) row is (low e (d ∷ ds) refl) in
      (λ i. own_children front e (d ∷ ds) is i ++ flat_map (λ n. children_of n.0 above below) (d ∷ ds))
      ∙ ap (λ xs. filter (λ c. is_within (behind front) e.0 c.0) below ++ xs)
      (children_from (front ++ e ∷ []) (d ∷ ds) (step_on above front e (d ∷ ds) is) (record { rises = sorted_tail pos_cmp e.0 (keys_of (d ∷ ds)) own.rises; fits = wide })
      (λ c back same. subst (λ (q : Pos). is_le (pos_cmp (behind (front ++ e ∷ [])) q) ≡ true) (ap (λ (xs : Level). first_at xs) same) (ap (λ p. is_le (pos_cmp p d.0)) next_is ∙ follows-test e.0 d.0 fits d_fits inner ∙ ap is_lt before))
      (later_ends e d ds inner ends)
      ∙ ap (λ p. nodes_from p below) next_is)
      ∙ in_two (behind front) e.0 fits inner reach below lower.rises lower.fits
    where
      first_at : Level → Pos
      first_at [] = least_pos
      first_at (n ∷ ns) = n.0

  -- The children of all nodes are all nodes of the level below.
  pub all_children : EndsAt above greatest_pos → flat_map (λ n. children_of n.0 above below) above ≡ below
  all_children ends =
      children_from [] above refl row first_low ends ∙ all_pass (λ x. is_le (pos_cmp least_pos x)) least-first below lower.fits
    where
      first_low : (e : Pos × NodePtr) (back : Level) → above ≡ e ∷ back → is_le (pos_cmp least_pos e.0) ≡ true
      first_low e back is = least-first e.0 (All-head PosFits e.0 (keys_of back) (subst (λ (xs : Level). All PosFits (keys_of xs)) is row.fits))
