-- Exchanges on one level: outside of their ranges nothing changes, and rewriting, splitting and joining are exchanges.
use Rattle.std.proofs.Common.{◌≡◌, ◌≢◌, Bool, true, false, cond, not, Option, Some, None, [], ◌∷◌, refl, sym, ap, ◌∙◌, subst, ⊎_elim}
use Rattle.std.specs.Prelude.{◌⊎◌, ◌↔◌, IsSome, is_some, unwrap_or}
use Rattle.std.specs.BTreeMap.{is_at}
use Rattle.std.specs.Map.{keys_of}
use Rattle.std.specs.Ordering.{is_eq, is_le, is_lt, ordering_reverse}
use Rattle.std.specs.declared.cmp.Ordering.{Ordering}
use Rattle.std.specs.declared.cmp.Ordering.TheVariants.{Less, Equal, Greater}
use Rattle.std.proofs.lemmas.Bool.{true≢false}
use Rattle.std.proofs.lemmas.Cmp.{tied_itself}
use Rattle.std.proofs.lemmas.List.Elements.{All-from_recursion}
use Rattle.std.proofs.lemmas.Map.Keys.{sorted_tail}
use Rattle.tree_nodes.specs.CoverLaws.{IsFitBefore, above-head, before-covered, before-fits, before_le, last-step, lt_less, turned}
use Rattle.tree_nodes.specs.Levels.{Covers, EndsAt, IsRow, Level, follower_of, halved, last_of, least_of, nodes_before}
use Rattle.tree_nodes.specs.RowLaws.{at_end, ends-stay, same_at}
use Rattle.vol_types.specs.FollowerLaws.{follows-test, least-first, not_greatest}
use Rattle.vol_types.specs.MapLaws.{value_at-with_value, value_at-without}
use Rattle.vol_types.specs.Maps.{IsMap, value_at, with_value, without}
use Rattle.vol_types.specs.PositionLaws.{pos_exact, pos_total}
use Rattle.vol_types.specs.Positions.{IsBefore, IsWithin, greatest_pos, least_pos, next_pos, pos_cmp}
use Rattle.vol_types.specs.Widths.{PosFits}
use Rattle.vol_types.specs.declared.pointers.NodePtr.{NodePtr}
use Rattle.vol_types.specs.declared.positions.Pos.{Pos}
use Rattle.btree_laws.specs.Exchanges.{IsExchange}
use Rattle.btree_laws.proofs.Levels.{before_or_not, covers_end, not_at, not_both, outside_is, part_rises, part_value, same_parts, within_or_not}

-- Positions of which neither is after the other are one.
same_place : (p q : Pos) → pos_cmp p q ≢ Greater → pos_cmp q p ≢ Greater → p ≡ q
same_place p q up down = by (pos_cmp p q) refl
  where
    by : (r : Ordering) → pos_cmp p q ≡ r → p ≡ q
    by Less is = absurd (not_both p q is down)
    by Equal is = pos_exact p q is
    by Greater is = absurd (up is)

-- A position at most another that is before a third is before that.
pub le_before : (p q r : Pos) → pos_cmp p q ≢ Greater → IsBefore q r → IsBefore p r
le_before p q r le before = by (pos_cmp p q) refl
  where
    by : (o : Ordering) → pos_cmp p q ≡ o → IsBefore p r
    by Less is = pos_total.trans p q r is before
    by Equal is = subst (λ x. IsBefore x r) (sym (pos_exact p q is)) before
    by Greater is = absurd (le is)

pub le_holds : (p q : Pos) → pos_cmp p q ≢ Greater → is_le (pos_cmp p q) ≡ true
le_holds p q le = by (pos_cmp p q) le
  where
    by : (r : Ordering) → r ≢ Greater → is_le r ≡ true
    by Less isnt = refl
    by Equal isnt = refl
    by Greater isnt = absurd (isnt refl)

le_fails : (p q : Pos) → IsBefore q p → is_le (pos_cmp p q) ≡ false
le_fails p q before = turned p q ∙ ap (λ r. not (is_lt r)) before

-- A position at most another that is at most a third is at most that.
le_both : (p q r : Pos) → pos_cmp p q ≢ Greater → pos_cmp q r ≢ Greater → pos_cmp p r ≢ Greater
le_both p q r one other =
    before_or_not p q (pos_cmp p r ≢ Greater) (λ less. λ up. true≢false (ap is_lt (sym (before_le p q r less other) ∙ up))) (λ ge. subst (λ x. pos_cmp x r ≢ Greater) (sym (same_place p q one ge)) other)

-- ---- the last node before a position

-- This is the last node of a level.
record IsLastNode (nodes : Level) (node : Pos × NodePtr) : Type 0 where
  is : last_of nodes ≡ Some node
  ends : EndsAt nodes node.0
  greatest : (x : Pos) → EndsAt nodes x → pos_cmp x node.0 ≢ Greater

here : (b : Bool) (node : NodePtr) (o : Option NodePtr) → IsSome o → IsSome (cond b (Some node) o)
here true node o some = refl
here false node o some = some

itself : (p : Pos) → pos_cmp p p ≢ Greater
itself p is = true≢false (ap is_eq (sym (tied_itself pos_total p) ∙ is))

-- A level has a last node, if it has any.
last_node : (nodes : Level) (q : Pos) → IsMap pos_cmp nodes → EndsAt nodes q → (node : Pos × NodePtr) × IsLastNode nodes node
last_node [] q rises ends = absurd (true≢false (sym ends))
last_node (e ∷ []) q rises ends = (e, record { is = refl; ends = ap (λ r. is_some (cond (is_eq r) (Some e.1) None)) (tied_itself pos_total e.0); greatest = only })
  where
    only : (x : Pos) → EndsAt (e ∷ []) x → pos_cmp x e.0 ≢ Greater
    only x some = by (is_at (pos_cmp x) e.0) refl some
      where
        by : (b : Bool) → is_at (pos_cmp x) e.0 ≡ b → IsSome (cond b (Some e.1) None) → pos_cmp x e.0 ≢ Greater
        by true is some = subst (λ y. pos_cmp x y ≢ Greater) (same_at x e.0 is) (itself x)
        by false is some = absurd (true≢false (sym some))
last_node (e ∷ d ∷ ds) q rises ends =
    let rest = last_node (d ∷ ds) d.0 (sorted_tail pos_cmp e.0 (keys_of (d ∷ ds)) rises) (ap (λ r. is_some (cond (is_eq r) (Some d.1) (value_at pos_cmp d.0 ds))) (tied_itself pos_total d.0)) in (
      rest.0,
      record {
        is = last-step e (d ∷ ds) ∙ ap (λ o. Some (unwrap_or o e)) rest.1.is;
        ends = here (is_at (pos_cmp rest.0.0) e.0) e.1 (value_at pos_cmp rest.0.0 (d ∷ ds)) rest.1.ends;
        greatest = λ x some. by x rest.0 rest.1 (is_at (pos_cmp x) e.0) refl some;
      },
    )
  where
    by : (x : Pos) (node : Pos × NodePtr) → IsLastNode (d ∷ ds) node → (b : Bool) → is_at (pos_cmp x) e.0 ≡ b → IsSome (cond b (Some e.1) (value_at pos_cmp x (d ∷ ds))) → pos_cmp x node.0 ≢ Greater
    by x node last true is some up = true≢false (ap is_lt (sym (above-head e (d ∷ ds) node.0 rises last.ends) ∙ ap (λ y. pos_cmp y node.0) (sym (same_at x e.0 is)) ∙ up))
    by x node last false is some up = last.greatest x some up

-- This is the last node before a position.
record IsLastBefore (nodes : Level) (at : Pos) : Type 0 where
  node : Pos × NodePtr
  is : last_of (nodes_before at nodes) ≡ Some node
  ends : EndsAt nodes node.0
  before : IsBefore node.0 at
  greatest : (x : Pos) → EndsAt nodes x → IsBefore x at → pos_cmp x node.0 ≢ Greater

-- A node before a position is among those before it.
pub among : (nodes : Level) (at x : Pos) → EndsAt nodes x → IsBefore x at → EndsAt (nodes_before at nodes) x
among nodes at x ends before = ap is_some (part_value (λ y. is_lt (pos_cmp y at)) x nodes ∙ ap (λ r. cond (is_lt r) (value_at pos_cmp x nodes) None) before) ∙ ends

-- What is among them is a node of the level.
of_level : (nodes : Level) (at x : Pos) → EndsAt (nodes_before at nodes) x → EndsAt nodes x × IsBefore x at
of_level nodes at x ends = by (is_lt (pos_cmp x at)) refl (sym (ap is_some (part_value (λ y. is_lt (pos_cmp y at)) x nodes)) ∙ ends)
  where
    by : (b : Bool) → is_lt (pos_cmp x at) ≡ b → IsSome (cond b (value_at pos_cmp x nodes) None) → EndsAt nodes x × IsBefore x at
    by true is some = (some, lt_less (pos_cmp x at) is)
    by false is some = absurd (true≢false (sym some))

-- There is a last node before a position, if there is any.
last_before : (nodes : Level) (at q : Pos) → IsMap pos_cmp nodes → EndsAt nodes q → IsBefore q at → IsLastBefore nodes at
last_before nodes at q rises ends before =
    let last = last_node (nodes_before at nodes) q (part_rises (λ x. is_lt (pos_cmp x at)) nodes rises) (among nodes at q ends before) in
    let own = of_level nodes at last.0.0 last.1.ends in
    record { node = last.0; is = last.1.is; ends = own.0; before = own.1; greatest = λ x there low. last.1.greatest x (among nodes at x there low) }

-- ---- outside of an exchange

module _ (first last : Pos) (old new : Level) (row : IsRow old) (fresh : IsRow new) (exchange : IsExchange first last old new) where
  -- Before the range nothing changes.
  low_outside : (x : Pos) → IsBefore x first → ¬ IsWithin first last x
  low_outside x low within = not_both x first low within.0

  -- Nor does it behind.
  high_outside : (x : Pos) → IsBefore last x → ¬ IsWithin first last x
  high_outside x high within = not_both last x high within.1

  least_before : (at : Pos) → IsBefore at first → least_of at new ≡ least_of at old
  least_before at low =
      ap (λ xs. follower_of (last_of xs))
      (same_parts (λ x. is_lt (pos_cmp x at)) new old fresh.rises row.rises (λ q is. exchange.elsewhere q (low_outside q (pos_total.trans q at first (lt_less (pos_cmp q at) is) low))))

  least_behind : (at : Pos) → IsBefore last at → least_of at new ≡ least_of at old
  least_behind at high =
      let was = last_before old at last row.rises exchange.ended high in
      let now = last_before new at last fresh.rises exchange.ends high in
      let same : now.node.0 ≡ was.node.0 = before_or_not was.node.0 now.node.0 (now.node.0 ≡ was.node.0) (λ less. absurd (later was now less)) (λ le. before_or_not now.node.0 was.node.0 (now.node.0 ≡ was.node.0) (λ less. absurd (earlier was now less)) (λ ge. same_place now.node.0 was.node.0 le ge)) in
      ap follower_of now.is ∙ ap (λ q. unwrap_or (next_pos q) greatest_pos) same ∙ sym (ap follower_of was.is)
    where
      later : (was : IsLastBefore old at) (now : IsLastBefore new at) → IsBefore was.node.0 now.node.0 → ⊥
      later was now less =
          let behind = le_before last was.node.0 now.node.0 (was.greatest last exchange.ended high) less in
          let there : EndsAt old now.node.0 = ap is_some (sym (exchange.elsewhere now.node.0 (high_outside now.node.0 behind))) ∙ now.ends in
          not_both was.node.0 now.node.0 less (was.greatest now.node.0 there now.before)

      earlier : (was : IsLastBefore old at) (now : IsLastBefore new at) → IsBefore now.node.0 was.node.0 → ⊥
      earlier was now less =
          let behind = le_before last now.node.0 was.node.0 (now.greatest last exchange.ends high) less in
          let there : EndsAt new was.node.0 = ap is_some (exchange.elsewhere was.node.0 (high_outside was.node.0 behind)) ∙ was.ends in
          not_both now.node.0 was.node.0 less (now.greatest was.node.0 there was.before)

  -- Outside of the range a node begins where it began.
  pub least_outside : (at : Pos) → ¬ IsWithin first last at → least_of at new ≡ least_of at old
  least_outside at outside = outside_is first last at (least_of at new ≡ least_of at old) outside (least_before at) (least_behind at)

  -- It is the one that stood there.
  pub stood_outside : (at : Pos) (node : NodePtr) → value_at pos_cmp at new ≡ Some node → ¬ IsWithin first last at → (value_at pos_cmp at old ≡ Some node) × (least_of at new ≡ least_of at old)
  stood_outside at node there outside = (sym (exchange.elsewhere at outside) ∙ there, least_outside at outside)

  -- No new node that ends in the range covers a position before it.
  none_crosses : (at pos : Pos) → PosFits pos → Covers new at pos → IsBefore pos first → IsWithin first last at → ⊥
  none_crosses at pos fits covers low within = by (last_of (nodes_before exchange.begins.0 old)) refl (before-fits exchange.begins.0 old row.fits)
    where
      begun : Pos
      begun = exchange.begins.0

      begun_fits : PosFits exchange.begins.0
      begun_fits = at_end PosFits old exchange.begins.0 row.fits exchange.begins.1

      at_fits : PosFits at
      at_fits = at_end PosFits new at fresh.fits covers.there

      by : (o : Option (Pos × NodePtr)) → last_of (nodes_before exchange.begins.0 old) ≡ o → IsFitBefore exchange.begins.0 o → ⊥
      by None is fit =
          let first_is : first ≡ least_pos = sym exchange.begins.2 ∙ ap follower_of is in
          true≢false (sym (least-first pos fits) ∙ ap (λ p. is_le (pos_cmp p pos)) (sym first_is) ∙ le_fails first pos low)
      by (Some l) is fit =
          let first_is : first ≡ unwrap_or (next_pos l.0) greatest_pos = sym exchange.begins.2 ∙ ap follower_of is in
          let inner = not_greatest l.0 exchange.begins.0 fit.0 begun_fits fit.1 in
          let test : (x : Pos) → PosFits x → is_le (pos_cmp first x) ≡ is_lt (pos_cmp l.0 x) = λ x wide. ap (λ p. is_le (pos_cmp p x)) first_is ∙ follows-test l.0 x fit.0 wide inner in
          let own : EndsAt old l.0 = (of_level old exchange.begins.0 l.0 (last_ends (nodes_before exchange.begins.0 old) l (part_rises (λ x. is_lt (pos_cmp x exchange.begins.0)) old row.rises) is)).0 in
          let under : pos_cmp first l.0 ≢ Less = λ less. true≢false (ap is_le (sym less) ∙ test l.0 fit.0 ∙ ap is_lt (tied_itself pos_total l.0)) in
          let below : IsBefore l.0 first = above_is first l.0 under (λ same. true≢false (sym (ap is_le same) ∙ test l.0 fit.0 ∙ ap is_lt (tied_itself pos_total l.0))) in
          let there : EndsAt new l.0 = ap is_some (exchange.elsewhere l.0 (low_outside l.0 below)) ∙ own in
          let before_at : IsBefore l.0 at = lt_less (pos_cmp l.0 at) (sym (test at at_fits) ∙ le_holds first at within.0) in
          let all = All-from_recursion (λ q. IsBefore q pos) (keys_of (nodes_before at new)) (before-covered pos at new fresh fits at_fits covers.within.0) in
          let before_pos : IsBefore l.0 pos = at_end (λ q. IsBefore q pos) (nodes_before at new) l.0 all (among new at l.0 there before_at) in
          true≢false (sym (ap is_lt before_pos) ∙ sym (test pos fits) ∙ le_fails first pos low)
        where
          above_is : (p q : Pos) → pos_cmp p q ≢ Less → pos_cmp p q ≢ Equal → IsBefore q p
          above_is p q less equal = pos_total.antisymm q p ∙ ap ordering_reverse (greater (pos_cmp p q) refl)
            where
              greater : (r : Ordering) → pos_cmp p q ≡ r → pos_cmp p q ≡ Greater
              greater Less it = absurd (less it)
              greater Equal it = absurd (equal it)
              greater Greater it = it

          last_ends : (nodes : Level) (node : Pos × NodePtr) → IsMap pos_cmp nodes → last_of nodes ≡ Some node → EndsAt nodes node.0
          last_ends [] node rises it = absurd (true≢false (sym (ap is_some it)))
          last_ends (e ∷ es) node rises it =
              let found = last_node (e ∷ es) e.0 rises (ap (λ r. is_some (cond (is_eq r) (Some e.1) (value_at pos_cmp e.0 es))) (tied_itself pos_total e.0)) in
              subst (λ o. EndsAt (e ∷ es) (end_in o)) (sym found.1.is ∙ it) found.1.ends
            where
              end_in : Option (Pos × NodePtr) → Pos
              end_in None = least_pos
              end_in (Some n) = n.0

  -- A position outside of the range is covered by a node that ends outside of it.
  pub ends_outside : (at pos : Pos) → PosFits pos → Covers new at pos → ¬ IsWithin first last pos → ¬ IsWithin first last at
  ends_outside at pos fits covers outside within =
      outside_is first last pos ⊥ outside (λ low. none_crosses at pos fits covers low within) (λ high. not_both last pos high (le_both pos at last covers.within.1 within.1))

  -- A position in the range is covered by a node that ends in it.
  pub ends_inside : (at pos : Pos) → PosFits pos → Covers new at pos → IsWithin first last pos → IsWithin first last at
  ends_inside at pos fits covers within = (le_both first pos at within.0 covers.within.1, before_or_not last at (pos_cmp at last ≢ Greater) (λ high. absurd (passed high)) (λ le. le))
    where
      passed : IsBefore last at → ⊥
      passed high =
          let at_fits = at_end PosFits new at fresh.fits covers.there in
          let all = All-from_recursion (λ q. IsBefore q pos) (keys_of (nodes_before at new)) (before-covered pos at new fresh fits at_fits covers.within.0) in
          not_both last pos (at_end (λ q. IsBefore q pos) (nodes_before at new) last all (among new at last exchange.ends high)) within.1

-- The nodes that end in the range of an exchange cover just its positions, before and after.
pub covers_range : (old new : Level) (first last at pos : Pos) → IsRow old → IsRow new → IsExchange first last old new → PosFits pos → Covers old at pos ⊎ Covers new at pos → IsWithin first last pos ↔ IsWithin first last at
covers_range old new first last at pos row fresh exchange fits covers =
    let same : IsExchange first last old old = record { begins = exchange.begins; ended = exchange.ended; ends = exchange.ended; elsewhere = λ q outside. refl } in
    ⊎_elim (λ before. both old row same before) (λ after. both new fresh exchange after) covers
  where
    both : (nodes : Level) → IsRow nodes → IsExchange first last old nodes → Covers nodes at pos → IsWithin first last pos ↔ IsWithin first last at
    both nodes own is here = (
      ends_inside first last old nodes row own is at pos fits here,
      λ within. within_or_not first last pos (IsWithin first last pos) (λ inside. inside) (λ outside. absurd (ends_outside first last old nodes row own is at pos fits here outside within)),
    )

-- ---- forms

-- A pointer in the place of another is an exchange in the range of the node.
pub rewriting : (nodes : Level) (at : Pos) (fresh : NodePtr) → IsRow nodes → EndsAt nodes at → IsExchange (least_of at nodes) at nodes (with_value pos_cmp at fresh nodes)
rewriting nodes at fresh row ends = record {
  begins = (at, ends, refl);
  ended = ends;
  ends = ends-stay at at fresh nodes ends;
  elsewhere = λ q outside. value_at-with_value pos_total at fresh q nodes
      ∙ ap (λ b. cond b (Some fresh) (value_at pos_cmp q nodes)) (not_at at q (λ same. outside (subst (IsWithin (least_of at nodes) at) same (covers_end nodes at row ends).within)));
}

-- So are two pointers in the place of one.
pub splitting : (nodes : Level) (greatest at : Pos) (first second : NodePtr) → IsRow nodes → Covers nodes greatest at → IsBefore at greatest → IsExchange (least_of greatest nodes) greatest nodes (halved greatest at first second nodes)
splitting nodes greatest at first second row covers before = record {
  begins = (greatest, covers.there, refl);
  ended = covers.there;
  ends = ends-stay greatest greatest second (with_value pos_cmp at first nodes) (ends-stay at greatest first nodes covers.there);
  elsewhere = λ q outside. value_at-with_value pos_total greatest second q (with_value pos_cmp at first nodes)
      ∙ ap (λ b. cond b (Some second) (value_at pos_cmp q (with_value pos_cmp at first nodes))) (not_at greatest q (λ same. outside (subst (IsWithin (least_of greatest nodes) greatest) same (covers_end nodes greatest row covers.there).within)))
      ∙ value_at-with_value pos_total at first q nodes
      ∙ ap (λ b. cond b (Some first) (value_at pos_cmp q nodes)) (not_at at q (λ same. outside (subst (IsWithin (least_of greatest nodes) greatest) same covers.within)));
}

-- And one pointer in the place of two neighbours.
pub joining : (nodes : Level) (one other : Pos) (fresh : NodePtr) → IsRow nodes → EndsAt nodes one → EndsAt nodes other → next_pos one ≡ Some (least_of other nodes)
    → IsExchange (least_of one nodes) other nodes (with_value pos_cmp other fresh (without pos_cmp one nodes))
joining nodes one other fresh row ends others next = record {
  begins = (one, ends, refl);
  ended = others;
  ends = ap is_some (value_at-with_value pos_total other fresh other (without pos_cmp one nodes) ∙ ap (λ r. cond (is_eq r) (Some fresh) (value_at pos_cmp other (without pos_cmp one nodes))) (tied_itself pos_total other));
  elsewhere = λ q outside. value_at-with_value pos_total other fresh q (without pos_cmp one nodes)
      ∙ ap (λ b. cond b (Some fresh) (value_at pos_cmp q (without pos_cmp one nodes))) (not_at other q (λ same. outside (subst (IsWithin (least_of one nodes) other) same (from_first, itself other))))
      ∙ value_at-without pos_total one q nodes row.rises
      ∙ ap (λ b. cond b None (value_at pos_cmp q nodes)) (not_at one q (λ same. outside (subst (IsWithin (least_of one nodes) other) same ((covers_end nodes one row ends).within.0, up_to one other before))));
}
  where
    fits : PosFits one
    fits = at_end PosFits nodes one row.fits ends

    inner : one ≢ greatest_pos
    inner same = true≢false (sym (ap is_some (sym (ap next_pos same) ∙ next)))

    before : IsBefore one other
    before =
        lt_less (pos_cmp one other)
        (sym (follows-test one other fits (at_end PosFits nodes other row.fits others) inner) ∙ ap (λ o. is_le (pos_cmp (unwrap_or o greatest_pos) other)) next ∙ le_holds (least_of other nodes) other (covers_end nodes other row others).within.0)

    up_to : (p q : Pos) → IsBefore p q → pos_cmp p q ≢ Greater
    up_to p q less up = true≢false (ap is_lt (sym less ∙ up))

    from_first : pos_cmp (least_of one nodes) other ≢ Greater
    from_first = before_or_not (least_of one nodes) one (pos_cmp (least_of one nodes) other ≢ Greater)
        (λ less. up_to (least_of one nodes) other (pos_total.trans (least_of one nodes) one other less before))
        (λ ge. subst (λ x. pos_cmp x other ≢ Greater) (sym (same_place (least_of one nodes) one (covers_end nodes one row ends).within.0 ge)) (up_to one other before))
