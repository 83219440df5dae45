-- The keys of leaves that follow each other: they rise, and at each position stands what the leaf has that covers it.
use Rattle.std.proofs.Common.{◌≡◌, ◌≢◌, Bool, true, false, cond, not, Option, Some, None, List, [], ◌∷◌, ◌++◌, refl, sym, ap, ◌∙◌, subst}
use Rattle.std.specs.Prelude.{All, is_some}
use Rattle.std.specs.List.{AllByRecursion, flat_map}
use Rattle.std.specs.List.Sorted.{IsStrictlySortedBy}
use Rattle.std.specs.Map.{keys_of}
use Rattle.std.specs.Option.{option_or}
use Rattle.std.specs.Ordering.{is_eq, is_le, is_lt, ordering_reverse}
use Rattle.std.specs.declared.cmp.Ordering.{Ordering}
use Rattle.std.specs.declared.cmp.Ordering.TheVariants.{Greater}
use Rattle.std.proofs.lemmas.Bool.{true≢false}
use Rattle.std.proofs.lemmas.List.{map-append}
use Rattle.std.proofs.lemmas.List.Elements.{All-from_recursion, All-head, All-tail, recursion_from_All}
use Rattle.std.proofs.lemmas.Map.Keys.{sorted_head, sorted_tail}
use Rattle.std.proofs.lemmas.Option.{same_Some}
use Rattle.tree_nodes.specs.CoverLaws.{lt_less, turned}
use Rattle.tree_nodes.specs.Levels.{IsRow, Level, first_of, follower_of, least_of, node_at, nodes_from}
use Rattle.vol_types.specs.FollowerLaws.{follows-test, not_greatest}
use Rattle.vol_types.specs.KeyMaps.{Entries}
use Rattle.vol_types.specs.MapLaws.{IsMap-append, value_at-append}
use Rattle.vol_types.specs.Maps.{IsMap, value_at}
use Rattle.vol_types.specs.PositionLaws.{pos_total}
use Rattle.vol_types.specs.Positions.{IsBefore, IsWithin, pos_cmp}
use Rattle.vol_types.specs.Widths.{PosFits}
use Rattle.vol_types.specs.declared.pointers.NodePtr.{NodePtr}
use Rattle.vol_types.specs.declared.positions.Pos.{Pos}
use Rattle.vol_types.specs.declared.values.Value.{Value}
use Rattle.btree_laws.specs.Standing.{AreLeafKeys}
use Rattle.btree_laws.proofs.Levels.{behind, covers_end, last_pushed, least_there, stands_there, step_on}
use Rattle.btree_laws.proofs.Ranges.{le_before, le_holds}

-- ---- entries in front of a position, and behind it

-- The position isn't after another.
abbrev IsUpTo : Pos → Pos → Type 0
IsUpTo at pos = pos_cmp pos at ≢ Greater

-- Each of some keys up to a position is before all keys behind it.
all_below : (at : Pos) (low high : List Pos) → AllByRecursion (IsUpTo at) low → AllByRecursion (IsBefore at) high → AllByRecursion (λ p. AllByRecursion (IsBefore p) high) low
all_below at [] high up behind_it = tt
all_below at (p ∷ low) high up behind_it = (each high behind_it, all_below at low high up.1 behind_it)
  where
    each : (keys : List Pos) → AllByRecursion (IsBefore at) keys → AllByRecursion (IsBefore p) keys
    each [] all = tt
    each (q ∷ keys) all = (le_before p at q up.0 all.0, each keys all.1)

-- Where all keys are behind a position, none is at or before it.
none_up_to : (at pos : Pos) (entries : Entries) → IsUpTo at pos → AllByRecursion (IsBefore at) (keys_of entries) → value_at pos_cmp pos entries ≡ None
none_up_to at pos [] up all = refl
none_up_to at pos (e ∷ es) up all =
    ap (λ r. cond (is_eq r) (Some e.1) (value_at pos_cmp pos es)) (le_before pos at e.0 up all.0) ∙ none_up_to at pos es up all.1

-- Where all keys are up to a position, none is behind it.
none_behind : (at pos : Pos) (entries : Entries) → IsBefore at pos → AllByRecursion (IsUpTo at) (keys_of entries) → value_at pos_cmp pos entries ≡ None
none_behind at pos [] before all = refl
none_behind at pos (e ∷ es) before all =
    ap (λ r. cond (is_eq r) (Some e.1) (value_at pos_cmp pos es)) (pos_total.antisymm pos e.0 ∙ ap ordering_reverse (le_before e.0 at pos all.0 before)) ∙ none_behind at pos es before all.1

map_all : (P Q : Pos → Type 0) (keys : List Pos) → ((p : Pos) → P p → Q p) → AllByRecursion P keys → AllByRecursion Q keys
map_all P Q [] so all = tt
map_all P Q (k ∷ ks) so all = (so k all.0, map_all P Q ks so all.1)

both_all : (P Q R : Pos → Type 0) (keys : List Pos) → ((p : Pos) → P p → Q p → R p) → AllByRecursion P keys → AllByRecursion Q keys → AllByRecursion R keys
both_all P Q R [] so one other = tt
both_all P Q R (k ∷ ks) so one other = (so k one.0 other.0, both_all P Q R ks so one.1 other.1)

joined_all : (P : Pos → Type 0) (one other : List Pos) → AllByRecursion P one → AllByRecursion P other → AllByRecursion P (one ++ other)
joined_all P [] other all others = others
joined_all P (k ∷ one) other all others = (all.0, joined_all P one other all.1 others)

or_none : (o : Option Value) → option_or o None ≡ o
or_none None = refl
or_none (Some v) = refl

no_keys : IsMap {X = Value} pos_cmp []
unfolding IsStrictlySortedBy
no_keys = tt

-- ---- the keys of leaves

-- the keys of leaves, one leaf after the other
abbrev pub keys_from : (NodePtr → Entries) → Level → Entries
keys_from entries nodes = flat_map (λ leaf. entries leaf.1) nodes

-- Entries rise, have their widths, and are at a position or behind it.
record AreFrom (least : Pos) (entries : Entries) : Type 0 where
  rises : IsMap pos_cmp entries
  fits : AllByRecursion PosFits (keys_of entries)
  from : AllByRecursion (λ q. pos_cmp least q ≢ Greater) (keys_of entries)

module _ (entries : NodePtr → Entries) (whole : Level) (row : IsRow whole) (own : (at : Pos) (node : NodePtr) → value_at pos_cmp at whole ≡ Some node → AreLeafKeys (least_of at whole) at (entries node)) where
  -- what a leaf behind others has
  leaf_keys : (front : Level) (e : Pos × NodePtr) (back : Level) → front ++ e ∷ back ≡ whole → AreLeafKeys (behind front) e.0 (entries e.1)
  leaf_keys front e back is = subst (λ least. AreLeafKeys least e.0 (entries e.1)) (least_there whole front e back row.rises is) (own e.0 e.1 (stands_there whole front e back row.rises is))

  up_to_end : (front : Level) (e : Pos × NodePtr) (back : Level) → front ++ e ∷ back ≡ whole → AllByRecursion (IsUpTo e.0) (keys_of (entries e.1))
  up_to_end front e back is =
      let keys = leaf_keys front e back is in
      map_all (IsWithin (behind front) e.0) (IsUpTo e.0) (keys_of (entries e.1)) (λ p within. within.1) (recursion_from_All (IsWithin (behind front) e.0) (keys_of (entries e.1)) keys.covered)

  -- the keys of the leaves behind a leaf are behind its end
  later_keys : (front : Level) (e : Pos × NodePtr) (es : Level) → IsRow (e ∷ es) → AreFrom (behind (front ++ e ∷ [])) (keys_from entries es) → AllByRecursion (IsBefore e.0) (keys_of (keys_from entries es))
  later_keys front e [] nodes later = tt
  later_keys front e (d ∷ ds) nodes later =
      let fits = All-head PosFits e.0 (keys_of (d ∷ ds)) nodes.fits in
      let wide = All-head PosFits d.0 (keys_of ds) (All-tail PosFits e.0 (keys_of (d ∷ ds)) nodes.fits) in
      let inner = not_greatest e.0 d.0 fits wide (sorted_head pos_cmp e.0 (keys_of (d ∷ ds)) nodes.rises).0 in
      both_all PosFits (λ q. pos_cmp (behind (front ++ e ∷ [])) q ≢ Greater) (IsBefore e.0) (keys_of (keys_from entries (d ∷ ds)))
      (λ q q_fits from. lt_less (pos_cmp e.0 q)
      (sym (follows-test e.0 q fits q_fits inner) ∙ ap (λ p. is_le (pos_cmp p q)) (sym (ap follower_of (last_pushed front e))) ∙ le_holds (behind (front ++ e ∷ [])) q from))
      later.fits later.from

  -- The keys of leaves behind others rise, and are behind these.
  keys_rise : (front nodes : Level) → front ++ nodes ≡ whole → IsRow nodes → AreFrom (behind front) (keys_from entries nodes)
  keys_rise front [] is nodes = record { rises = no_keys; fits = tt; from = tt }
  keys_rise front (e ∷ es) is nodes =
      let rest : IsRow es = record { rises = sorted_tail pos_cmp e.0 (keys_of es) nodes.rises; fits = All-tail PosFits e.0 (keys_of es) nodes.fits } in
      let later = keys_rise (front ++ e ∷ []) es (step_on whole front e es is) rest in
      let keys = leaf_keys front e es is in
      let above = later_keys front e es nodes later in
      let begins : pos_cmp (behind front) e.0 ≢ Greater = subst (λ least. pos_cmp least e.0 ≢ Greater) (least_there whole front e es row.rises is) (covers_end whole e.0 row (ap is_some (stands_there whole front e es row.rises is))).within.0 in
      let all : keys_of (keys_from entries (e ∷ es)) ≡ keys_of (entries e.1) ++ keys_of (keys_from entries es) = map-append (λ (k : Pos × Value). k.0) (entries e.1) (keys_from entries es) in
      record {
        rises = IsMap-append pos_cmp (entries e.1) (keys_from entries es) keys.rises later.rises (all_below e.0 (keys_of (entries e.1)) (keys_of (keys_from entries es)) (up_to_end front e es is) above);
        fits = subst (AllByRecursion PosFits) (sym all) (joined_all PosFits (keys_of (entries e.1)) (keys_of (keys_from entries es)) (recursion_from_All PosFits (keys_of (entries e.1)) keys.fits) later.fits);
        from = subst (AllByRecursion (λ q. pos_cmp (behind front) q ≢ Greater)) (sym all)
            (joined_all (λ q. pos_cmp (behind front) q ≢ Greater) (keys_of (entries e.1)) (keys_of (keys_from entries es))
            (map_all (IsWithin (behind front) e.0) (λ q. pos_cmp (behind front) q ≢ Greater) (keys_of (entries e.1)) (λ p within. within.0) (recursion_from_All (IsWithin (behind front) e.0) (keys_of (entries e.1)) keys.covered))
            (map_all (IsBefore e.0) (λ q. pos_cmp (behind front) q ≢ Greater) (keys_of (keys_from entries es)) (λ q less. up_to (behind front) q (le_before (behind front) e.0 q begins less)) above));
      }
    where
      up_to : (p q : Pos) → IsBefore p q → pos_cmp p q ≢ Greater
      up_to p q less up = true≢false (ap is_lt (sym less ∙ up))

  -- At a position the keys have what the leaf has that covers it.
  value_from : (front nodes : Level) → front ++ nodes ≡ whole → IsRow nodes → (pos : Pos) (leaf : Pos × NodePtr) → node_at pos nodes ≡ Some leaf → value_at pos_cmp pos (keys_from entries nodes) ≡ value_at pos_cmp pos (entries leaf.1)
  value_from front [] is nodes pos leaf found = absurd (true≢false (sym (ap is_some found)))
  value_from front (e ∷ es) is nodes pos leaf found =
      let rest : IsRow es = record { rises = sorted_tail pos_cmp e.0 (keys_of es) nodes.rises; fits = All-tail PosFits e.0 (keys_of es) nodes.fits } in
      let later = keys_rise (front ++ e ∷ []) es (step_on whole front e es is) rest in
      value_at-append pos_cmp pos (entries e.1) (keys_from entries es)
      ∙ by (is_le (pos_cmp pos e.0)) refl found (later_keys front e es nodes later) (up_to_end front e es is) (value_from (front ++ e ∷ []) es (step_on whole front e es is) rest pos leaf)
    where
      at_most : (r : Ordering) → is_le r ≡ true → r ≢ Greater
      at_most r le up = true≢false (sym le ∙ ap is_le up)

      past : is_le (pos_cmp pos e.0) ≡ false → IsBefore e.0 pos
      past is = lt_less (pos_cmp e.0 pos) (not_not (is_lt (pos_cmp e.0 pos)) (sym (turned pos e.0) ∙ is))
        where
          not_not : (b : Bool) → not b ≡ false → b ≡ true
          not_not true it = refl
          not_not false it = absurd (true≢false it)

      by : (b : Bool) → is_le (pos_cmp pos e.0) ≡ b → first_of (cond b (e ∷ nodes_from pos es) (nodes_from pos es)) ≡ Some leaf → AllByRecursion (IsBefore e.0) (keys_of (keys_from entries es)) → AllByRecursion (IsUpTo e.0) (keys_of (entries e.1))
          → (node_at pos es ≡ Some leaf → value_at pos_cmp pos (keys_from entries es) ≡ value_at pos_cmp pos (entries leaf.1))
          → option_or (value_at pos_cmp pos (entries e.1)) (value_at pos_cmp pos (keys_from entries es)) ≡ value_at pos_cmp pos (entries leaf.1)
      by true le first above up later =
          ap (option_or (value_at pos_cmp pos (entries e.1))) (none_up_to e.0 pos (keys_from entries es) (at_most (pos_cmp pos e.0) le) above)
          ∙ or_none (value_at pos_cmp pos (entries e.1)) ∙ ap (λ (n : Pos × NodePtr). value_at pos_cmp pos (entries n.1)) (same_Some e leaf first)
      by false le first above up later = ap (λ o. option_or o (value_at pos_cmp pos (keys_from entries es))) (none_behind e.0 pos (entries e.1) (past le) up) ∙ later first

  -- The keys of all leaves are a map of positions that have their widths.
  pub leaves_rise : IsMap pos_cmp (keys_from entries whole)
  leaves_rise = (keys_rise [] whole refl row).rises

  pub leaves_fit : All PosFits (keys_of (keys_from entries whole))
  leaves_fit = All-from_recursion PosFits (keys_of (keys_from entries whole)) (keys_rise [] whole refl row).fits

  -- Each position has what its leaf has.
  pub leaf_value : (pos : Pos) (leaf : Pos × NodePtr) → node_at pos whole ≡ Some leaf → value_at pos_cmp pos (keys_from entries whole) ≡ value_at pos_cmp pos (entries leaf.1)
  leaf_value pos leaf found = value_from [] whole refl row pos leaf found
