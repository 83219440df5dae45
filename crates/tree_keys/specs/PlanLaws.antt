-- What changes come to, and that they are made by filling places that were taken before.
use Rattle.std.proofs.Common.{◌≡◌, ℕ, ◌+◌, ◌<◌, Bool, true, false, cond, ◌&&◌, ◌||◌, Option, Some, None, List, [], ◌∷◌, ◌++◌, length, take, get_or, refl, sym, ap, ◌∙◌, subst}
use Rattle.std.specs.Prelude.{All, IsSome, is_none, is_some, unwrap_or}
use Rattle.std.specs.BTreeMap.{is_at}
use Rattle.std.specs.List.{filter}
use Rattle.std.specs.Map.{keys_of, values_of}
use Rattle.std.proofs.lemmas.Bool.{and_parts, false≢true, or_right}
use Rattle.std.proofs.lemmas.Cmp.{eq_by_cmp_equiv}
use Rattle.std.proofs.lemmas.List.Elements.{All-head, All-tail, recursion_from_All}
use Rattle.std.proofs.lemmas.Map.{lookup-none}
use Rattle.std.proofs.lemmas.Map.Entries.{none_past_head}
use Rattle.std.proofs.lemmas.Map.Keys.{IsDistinct-from_sorted, sorted_tail}
use Rattle.std.proofs.lemmas.Map.Views.{All-values-insert_entry}
use Rattle.std.proofs.lemmas.Option.{none-some as none_some, same_Some}
use Rattle.node_mem.specs.MergeLaws.{IsMap-with_keys, keys_more, with_keys-append}
use Rattle.node_mem.specs.Nodes.{with_keys}
use Rattle.node_mem.specs.RangeLaws.{All-part}
use Rattle.tree_keys.specs.Changes.{AreLast, fresh_positions, keys_of_changed, keys_with, made, placed, values_before}
use Rattle.tree_keys.specs.Cuts.{Cut, IsCut, is_end, with_entries}
use Rattle.tree_keys.specs.LeafLaws.{at_end}
use Rattle.tree_keys.specs.OrderLaws.{at_itself, at_turned, same_from_at}
use Rattle.vol_types.specs.KeyMaps.{Entries}
use Rattle.vol_types.specs.MapLaws.{IsMap-put_at, IsMap-with_value, same_maps, value_at-put_at, value_at-with_value}
use Rattle.vol_types.specs.Maps.{IsMap, put_at, value_at, with_value}
use Rattle.vol_types.specs.PositionLaws.{pos_exact, pos_total}
use Rattle.vol_types.specs.Positions.{pos_cmp}
use Rattle.vol_types.specs.Ranges.{IsKeyValue}
use Rattle.vol_types.specs.declared.keys.Key.{Key}
use Rattle.vol_types.specs.declared.positions.Pos.{Pos}
use Rattle.vol_types.specs.declared.values.Value.{Value}
use Rattle.vol_types.specs.declared.values.Value.TheVariants.{White}

-- positions that all got the same value, or lost theirs
value_at-keys_with : (value : Option Value) (positions : List Pos) (entries : Entries) (q : Pos) → IsMap pos_cmp entries → value_at pos_cmp q (with_keys (keys_with value positions) entries) ≡ cond (is_end q positions) value (value_at pos_cmp q entries)
value_at-keys_with value [] entries q rises = refl
value_at-keys_with value (p ∷ positions) entries q rises =
    value_at-keys_with value positions (put_at pos_cmp p value entries) q (IsMap-put_at pos_total p value entries rises)
    ∙ ap (cond (is_end q positions) value) (value_at-put_at pos_total p value q entries rises ∙ ap (λ b. cond b value (value_at pos_cmp q entries)) (at_turned p q))
    ∙ both (is_at (pos_cmp q) p) (is_end q positions)
  where
    both : (a b : Bool) → cond b value (cond a value (value_at pos_cmp q entries)) ≡ cond (a || b) value (value_at pos_cmp q entries)
    both true true = refl
    both true false = refl
    both false b = refl

-- places that were free are free again once they are cleared
pub undone : (positions : List Pos) (entries : Entries) → IsMap pos_cmp entries → All (λ pos. value_at pos_cmp pos entries ≡ None) positions
    → with_keys (keys_with None positions) (with_keys (keys_with (Some White) positions) entries) ≡ entries
undone positions entries rises free =
    let placed = IsMap-with_keys (keys_with (Some White) positions) entries rises in
    same_maps pos_total pos_exact _ _ (IsMap-with_keys (keys_with None positions) (with_keys (keys_with (Some White) positions) entries) placed) rises
    (λ q. value_at-keys_with None positions (with_keys (keys_with (Some White) positions) entries) q placed ∙ ap (cond (is_end q positions) None) (value_at-keys_with (Some White) positions entries q rises) ∙ by q (is_end q positions) refl)
  where
    by : (q : Pos) (b : Bool) → is_end q positions ≡ b → cond b None (cond b (Some White) (value_at pos_cmp q entries)) ≡ value_at pos_cmp q entries
    by q true has = sym (at_end (λ pos. value_at pos_cmp pos entries ≡ None) q positions (recursion_from_All (λ pos. value_at pos_cmp pos entries ≡ None) positions free) has)
    by q false has = refl

-- one of the positions more
pub keys_with_more : (value : Option Value) (old now new : Cut) (positions : List Pos) (i : ℕ) (pos : Pos) → i < length positions → pos ≡ get_or positions i pos
    → now ≡ with_entries old (with_keys (keys_with value (take i positions)) old.entries) → new ≡ with_entries now (put_at pos_cmp pos value now.entries)
    → new ≡ with_entries old (with_keys (keys_with value (take (i + 1) positions)) old.entries)
keys_with_more value old now new positions i pos lt is so_far put =
    let keys = keys_more (λ p. record { pos = p; value = value }) positions i pos lt is in
    let entries : put_at pos_cmp pos value (with_keys (keys_with value (take i positions)) old.entries) ≡ with_keys (keys_with value (take (i + 1) positions)) old.entries =
    sym (with_keys-append (keys_with value (take i positions)) (record { pos = pos; value = value } ∷ []) old.entries) ∙ ap (λ ks. with_keys ks old.entries) (sym keys) in
    put ∙ ap (λ (c : Cut). with_entries c (put_at pos_cmp pos value c.entries)) so_far ∙ ap (with_entries old) entries

-- nothing is at the first key among the later ones
none_later : {X : Type 0} (q : Pos) (e : Pos × X) (later : List (Pos × X)) → IsMap pos_cmp (e ∷ later) → is_at (pos_cmp q) e.0 ≡ true → value_at pos_cmp q later ≡ None
none_later q e later rises same = lookup-none (is_at (pos_cmp q)) later (none_past_head (eq_by_cmp_equiv pos_total) q e later (IsDistinct-from_sorted pos_cmp (keys_of (e ∷ later)) rises) same)

-- positions that each got a value or lost theirs
value_at-changed : (changed : List (Pos × Option Value)) (entries : Entries) (q : Pos) → IsMap pos_cmp changed → IsMap pos_cmp entries
    → value_at pos_cmp q (with_keys (keys_of_changed changed) entries) ≡ unwrap_or (value_at pos_cmp q changed) (value_at pos_cmp q entries)
value_at-changed [] entries q rise rises = refl
value_at-changed (e ∷ changed) entries q rise rises =
    value_at-changed changed (put_at pos_cmp e.0 e.1 entries) q (sorted_tail pos_cmp e.0 (keys_of changed) rise) (IsMap-put_at pos_total e.0 e.1 entries rises)
    ∙ ap (unwrap_or (value_at pos_cmp q changed)) (value_at-put_at pos_total e.0 e.1 q entries rises ∙ ap (λ b. cond b e.1 (value_at pos_cmp q entries)) (at_turned e.0 q))
    ∙ by (is_at (pos_cmp q) e.0) refl
  where
    by : (b : Bool) → is_at (pos_cmp q) e.0 ≡ b → unwrap_or (value_at pos_cmp q changed) (cond b e.1 (value_at pos_cmp q entries)) ≡ unwrap_or (cond b (Some e.1) (value_at pos_cmp q changed)) (value_at pos_cmp q entries)
    by true same = ap (λ o. unwrap_or o e.1) (none_later q e changed rise same)
    by false same = refl

-- the values before some changes and one more
values_before-append : (done : List Key) (key : Key) (entries : Entries) → values_before (done ++ key ∷ []) entries ≡ values_before done entries ++ value_at pos_cmp key.pos (with_keys done entries) ∷ []
values_before-append [] key entries = refl
values_before-append (first ∷ done) key entries = ap (λ vs. value_at pos_cmp first.pos entries ∷ vs) (values_before-append done key (put_at pos_cmp first.pos first.value entries))

-- After some changes the last value of each position is known, and the values before them.
pub record IsPlanning (entries : Entries) (done : List Key) (last : List (Pos × Option Value)) (before : List (Option Value)) : Type 0 where
  pub rise : IsMap pos_cmp last
  pub in_range : All IsKeyValue (values_of last)
  pub known : (q : Pos) → unwrap_or (value_at pos_cmp q last) (value_at pos_cmp q entries) ≡ value_at pos_cmp q (with_keys done entries)
  pub earlier : before ≡ values_before done entries

-- one change more
pub planning_more : (entries : Entries) (done : List Key) (last new : List (Pos × Option Value)) (before later : List (Option Value)) (key : Key) (was : Option Value) → IsMap pos_cmp entries → IsPlanning entries done last before
    → IsMap pos_cmp new → IsKeyValue key.value → new ≡ with_value pos_cmp key.pos key.value last → was ≡ unwrap_or (value_at pos_cmp key.pos last) (value_at pos_cmp key.pos entries) → later ≡ before ++ was ∷ []
    → IsPlanning entries (done ++ key ∷ []) new later
planning_more entries done last new before later key was rises planning rise range put is pushed = record {
  rise = rise;
  in_range = subst (λ (es : List (Pos × Option Value)). All IsKeyValue (values_of es)) (sym put) (All-values-insert_entry pos_cmp key.pos key.value IsKeyValue last planning.in_range range);
  known = λ q.
      ap (λ es. unwrap_or (value_at pos_cmp q es) (value_at pos_cmp q entries)) put
      ∙ ap (λ o. unwrap_or o (value_at pos_cmp q entries)) (value_at-with_value pos_total key.pos key.value q last)
      ∙ by q (is_at (pos_cmp key.pos) q)
      ∙ sym (value_at-put_at pos_total key.pos key.value q (with_keys done entries) (IsMap-with_keys done entries rises))
      ∙ ap (value_at pos_cmp q) (sym (with_keys-append done (key ∷ []) entries));
  earlier =
      pushed ∙ ap (λ vs. vs ++ was ∷ []) planning.earlier ∙ ap (λ v. values_before done entries ++ v ∷ []) (is ∙ planning.known key.pos)
      ∙ sym (values_before-append done key entries);
}
  where
    by : (q : Pos) (b : Bool) → unwrap_or (cond b (Some key.value) (value_at pos_cmp q last)) (value_at pos_cmp q entries) ≡ cond b key.value (value_at pos_cmp q (with_keys done entries))
    by q true = refl
    by q false = planning.known q

-- The keys became others by some of the changed positions, and the rest may still be filled.
pub record IsFilling (old : Cut) (all : List (Pos × Option Value)) (now : Cut) (rest : List (Pos × Option Value)) : Type 0 where
  pub whole : with_keys (keys_of_changed rest) now.entries ≡ with_keys (keys_of_changed all) old.entries
  pub ends : now.ends ≡ old.ends
  pub rises : IsMap pos_cmp now.entries
  pub rise : IsMap pos_cmp rest
  pub in_range : All IsKeyValue (values_of rest)
  pub placed : (pos : Pos) (value : Value) → value_at pos_cmp pos rest ≡ Some (Some value) → IsSome (value_at pos_cmp pos now.entries)

module _ (old : Cut) (all : List (Pos × Option Value)) (now : Cut) (rest later : List (Pos × Option Value)) (pos : Pos) (value : Option Value) (filling : IsFilling old all now rest) (next : rest ≡ (pos, value) ∷ later) where
  rise_next : IsMap pos_cmp ((pos, value) ∷ later)
  rise_next = subst (IsMap pos_cmp) next filling.rise

  -- the next value is in range
  pub next_in_range : IsKeyValue value
  next_in_range = All-head IsKeyValue value (values_of later) (subst (λ (es : List (Pos × Option Value)). All IsKeyValue (values_of es)) next filling.in_range)

  found_here : value_at pos_cmp pos rest ≡ Some value
  found_here = ap (value_at pos_cmp pos) next ∙ ap (λ b. cond b (Some value) (value_at pos_cmp pos later)) (at_itself pos)

  -- its position has a value where it gets one
  pub next_placed : IsSome value → IsSome (value_at pos_cmp pos now.entries)
  next_placed some = by value some found_here
    where
      by : (v : Option Value) → IsSome v → value_at pos_cmp pos rest ≡ Some v → IsSome (value_at pos_cmp pos now.entries)
      by None some is = absurd (false≢true some)
      by (Some v) some is = filling.placed pos v is

  -- once it is filled, the others are left
  pub filling_more : (new : Cut) → new ≡ with_entries now (put_at pos_cmp pos value now.entries) → IsFilling old all new later
  filling_more new put = record {
    whole = ap (λ (c : Cut). with_keys (keys_of_changed later) c.entries) put ∙ ap (λ es. with_keys (keys_of_changed es) now.entries) (sym next) ∙ filling.whole;
    ends = ap (λ (c : Cut). c.ends) put ∙ filling.ends;
    rises = subst (λ (c : Cut). IsMap pos_cmp c.entries) (sym put) (IsMap-put_at pos_total pos value now.entries filling.rises);
    rise = sorted_tail pos_cmp pos (keys_of later) rise_next;
    in_range = All-tail IsKeyValue value (values_of later) (subst (λ (es : List (Pos × Option Value)). All IsKeyValue (values_of es)) next filling.in_range);
    placed = λ q v is.
        subst IsSome (sym (ap (λ (c : Cut). value_at pos_cmp q c.entries) put ∙ value_at-put_at pos_total pos value q now.entries filling.rises ∙ ap (λ b. cond b value (value_at pos_cmp q now.entries)) (at_turned pos q)))
        (by q v is (is_at (pos_cmp q) pos) refl);
  }
    where
      by : (q : Pos) (v : Value) → value_at pos_cmp q later ≡ Some (Some v) → (b : Bool) → is_at (pos_cmp q) pos ≡ b → IsSome (cond b value (value_at pos_cmp q now.entries))
      by q v is true at = absurd (none_some (Some v) (sym (none_later q (pos, value) later rise_next at) ∙ is))
      by q v is false at = filling.placed q v (ap (value_at pos_cmp q) next ∙ ap (λ b. cond b (Some value) (value_at pos_cmp q later)) at ∙ is)

-- with none left all are filled
pub filling_all : (old : Cut) (all : List (Pos × Option Value)) (now : Cut) (rest : List (Pos × Option Value)) → IsFilling old all now rest → rest ≡ [] → now ≡ with_entries old (with_keys (keys_of_changed all) old.entries)
filling_all old all now rest filling none = λ i. record {
  entries = (ap (λ es. with_keys (keys_of_changed es) now.entries) (sym none) ∙ filling.whole) i;
  ends = filling.ends i;
}

module _ (last : List (Pos × Option Value)) (entries : Entries) where
  abbrev is_fresh : Pos × Option Value → Bool
  is_fresh e = is_some e.1 && is_none (value_at pos_cmp e.0 entries)

  none_from : (o : Option Value) → is_none o ≡ true → o ≡ None
  none_from None is = refl
  none_from (Some v) is = absurd (false≢true is)

  -- fresh positions have no value
  pub fresh-free : All (λ pos. value_at pos_cmp pos entries ≡ None) (fresh_positions last entries)
  fresh-free =
      All-part (λ (e : Pos × Option Value). e.0) (λ _. Unit {0}) (λ pos. value_at pos_cmp pos entries ≡ None) is_fresh (λ e test ok. none_from (value_at pos_cmp e.0 entries) (and_parts (is_some e.1) (is_none (value_at pos_cmp e.0 entries)) test).1) last
      (λ k d lt. tt)

  -- only a position that is changed is fresh
  none_fresh : (q : Pos) (es : List (Pos × Option Value)) → value_at pos_cmp q es ≡ None → is_end q (fresh_positions es entries) ≡ false
  none_fresh q [] none = refl
  none_fresh q (e ∷ es) none = by (is_at (pos_cmp q) e.0) refl (is_fresh e) none (none_fresh q es)
    where
      by : (a : Bool) → is_at (pos_cmp q) e.0 ≡ a → (b : Bool) → cond a (Some e.1) (value_at pos_cmp q es) ≡ None → (value_at pos_cmp q es ≡ None → is_end q (fresh_positions es entries) ≡ false)
          → is_end q (keys_of (cond b (e ∷ filter is_fresh es) (filter is_fresh es))) ≡ false
      by true at b none later = absurd (none_some e.1 (sym none))
      by false at true none later = ap (λ t. t || is_end q (fresh_positions es entries)) at ∙ later none
      by false at false none later = later none

  -- a position that gets a value and has none is fresh
  some_fresh : (q : Pos) (v : Value) (es : List (Pos × Option Value)) → value_at pos_cmp q es ≡ Some (Some v) → value_at pos_cmp q entries ≡ None → is_end q (fresh_positions es entries) ≡ true
  some_fresh q v [] found none = absurd (none_some (Some v) found)
  some_fresh q v (e ∷ es) found none = by (is_at (pos_cmp q) e.0) refl (is_fresh e) refl found (λ found'. some_fresh q v es found' none)
    where
      by : (a : Bool) → is_at (pos_cmp q) e.0 ≡ a → (b : Bool) → is_fresh e ≡ b → cond a (Some e.1) (value_at pos_cmp q es) ≡ Some (Some v) → (value_at pos_cmp q es ≡ Some (Some v) → is_end q (fresh_positions es entries) ≡ true)
          → is_end q (keys_of (cond b (e ∷ filter is_fresh es) (filter is_fresh es))) ≡ true
      by true at true fresh found later = ap (λ t. t || is_end q (fresh_positions es entries)) at
      by true at false fresh found later =
          absurd (false≢true (sym fresh ∙ ap (λ o. is_some o && is_none (value_at pos_cmp e.0 entries)) (same_Some e.1 (Some v) found) ∙ ap is_none (ap (λ p. value_at pos_cmp p entries) (sym (same_from_at q e.0 at)) ∙ none)))
      by false at true fresh found later = or_right (is_at (pos_cmp q) e.0) (is_end q (fresh_positions es entries)) (later found)
      by false at false fresh found later = later found

  module _ (rises : IsMap pos_cmp entries) where
    -- once whiteouts are placed, each position that gets a value has one
    pub all_placed : (pos : Pos) (value : Value) → value_at pos_cmp pos last ≡ Some (Some value) → IsSome (value_at pos_cmp pos (with_keys (keys_with (Some White) (fresh_positions last entries)) entries))
    all_placed pos value found = subst IsSome (sym (value_at-keys_with (Some White) (fresh_positions last entries) entries pos rises)) (by (value_at pos_cmp pos entries) refl (is_end pos (fresh_positions last entries)) refl)
      where
        by : (o : Option Value) → value_at pos_cmp pos entries ≡ o → (b : Bool) → is_end pos (fresh_positions last entries) ≡ b → IsSome (cond b (Some White) o)
        by (Some v) is true fresh = refl
        by (Some v) is false fresh = refl
        by None is true fresh = refl
        by None is false fresh = absurd (false≢true (sym fresh ∙ some_fresh pos value last found is))

    -- and filling them gives each position its last value
    pub filled : (after : Entries) → IsMap pos_cmp after → IsMap pos_cmp last → ((pos : Pos) → unwrap_or (value_at pos_cmp pos last) (value_at pos_cmp pos entries) ≡ value_at pos_cmp pos after)
        → with_keys (keys_of_changed last) (with_keys (keys_with (Some White) (fresh_positions last entries)) entries) ≡ after
    filled after rises_after rise known =
        let placed = IsMap-with_keys (keys_with (Some White) (fresh_positions last entries)) entries rises in
        same_maps pos_total pos_exact _ _ (IsMap-with_keys (keys_of_changed last) (with_keys (keys_with (Some White) (fresh_positions last entries)) entries) placed) rises_after
        (λ q.
        value_at-changed last (with_keys (keys_with (Some White) (fresh_positions last entries)) entries) q rise placed
        ∙ ap (unwrap_or (value_at pos_cmp q last)) (value_at-keys_with (Some White) (fresh_positions last entries) entries q rises)
        ∙ by q (value_at pos_cmp q last) refl ∙ known q)
      where
        by : (q : Pos) (o : Option (Option Value)) → value_at pos_cmp q last ≡ o → unwrap_or o (cond (is_end q (fresh_positions last entries)) (Some White) (value_at pos_cmp q entries)) ≡ unwrap_or o (value_at pos_cmp q entries)
        by q (Some v) is = refl
        by q None is = ap (λ b. cond b (Some White) (value_at pos_cmp q entries)) (none_fresh q last is)

-- Making changes where their room was taken gives each position its last value.
pub made-placed : (last : List (Pos × Option Value)) (cut : Cut) (after : Entries) → IsCut cut → AreLast last → IsMap pos_cmp after → ((pos : Pos) → unwrap_or (value_at pos_cmp pos last) (value_at pos_cmp pos cut.entries) ≡ value_at pos_cmp pos after)
    → made last (placed last cut) ≡ with_entries cut after
made-placed last cut after is are rises known = ap (with_entries cut) (filled last cut.entries is.rises after rises are.rises known)

-- Giving the room back leaves what was there before.
pub undone-placed : (last : List (Pos × Option Value)) (cut : Cut) → IsCut cut → with_entries cut (with_keys (keys_with None (fresh_positions last cut.entries)) (placed last cut).entries) ≡ cut
undone-placed last cut is = ap (with_entries cut) (undone (fresh_positions last cut.entries) cut.entries is.rises (fresh-free last cut.entries))

-- Last values with one more are last values.
pub last_more : (last : List (Pos × Option Value)) (pos : Pos) (value : Option Value) → AreLast last → IsKeyValue value → AreLast (with_value pos_cmp pos value last)
last_more last pos value are range = record {
  rises = IsMap-with_value pos_total pos value last are.rises;
  in_range = All-values-insert_entry pos_cmp pos value IsKeyValue last are.in_range range;
}
