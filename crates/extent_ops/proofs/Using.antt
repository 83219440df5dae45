-- After updates by which blocks are taken over extents use each place no oftener than before and by what is given.
use Rattle.std.proofs.Common.{◌≡◌, inl, inr, ℕ, ◌+◌, ◌≤◌, Bool, true, false, cond, Option, Some, None, List, [], ◌∷◌, ◌++◌, map, refl, sym, ap, ◌∙◌, subst, arith}
use Rattle.std.specs.Prelude.{◌==◌, flat_map}
use Rattle.std.specs.BTreeMap.{insert_entry, is_at}
use Rattle.std.specs.List.{AllByRecursion, filter}
use Rattle.std.specs.Map.{keys_of}
use Rattle.std.specs.Ordering.{is_eq, match_ordering, nat_cmp}
use Rattle.std.specs.declared.cmp.Ordering.{Ordering}
use Rattle.std.specs.declared.cmp.Ordering.TheVariants.{Less, Equal, Greater}
use Rattle.std.proofs.lemmas.Bool.{eqb-true}
use Rattle.std.proofs.lemmas.Map.Keys.{sorted_head, sorted_tail}
use Rattle.std.proofs.lemmas.Cmp.{ranked, tied_itself}
use Rattle.vol_types.specs.KeyMapLaws.{IsKeyMap-with_update, entries_of-with_update}
use Rattle.vol_types.specs.KeyMaps.{Entries, IsKeyMap, KeyMap, key_of, keys_in, with_update, with_updates}
use Rattle.vol_types.specs.MapLaws.{IsMap-with_value}
use Rattle.vol_types.specs.Maps.{IsMap, put_at, with_value, without}
use Rattle.vol_types.specs.PositionLaws.{pos_exact, pos_total}
use Rattle.vol_types.specs.Positions.{pos_cmp}
use Rattle.vol_types.specs.declared.keys.Key.{Key}
use Rattle.vol_types.specs.declared.pointers.Place.{Place}
use Rattle.vol_types.specs.declared.positions.Btree.TheVariants.{Extents}
use Rattle.vol_types.specs.declared.positions.Pos.{Pos}
use Rattle.vol_types.specs.declared.values.Value.{Value}
use Rattle.key_meaning.specs.Checks.{places_of, used_places}
use Rattle.key_meaning.specs.CoverLaws.{pos_of}
use Rattle.key_meaning.specs.TableLaws.{same_key}
use Rattle.extent_ops.specs.Content.{AreLookedAt, HavePlaces}
use Rattle.extent_ops.specs.Cutting.{collected, cut_all, cut_key, cut_value, update_at, updates_of}
use Rattle.extent_ops.specs.Stretches.{RiseFrom}
use Rattle.extent_ops.specs.declared.cutting.Change.{Change}
use Rattle.extent_ops.specs.declared.stretches.Stretch.{Stretch}
use Rattle.extent_ops.proofs.Counting.{of_changes, of_changes-append, of_cut, of_maybe, uses, uses-append}
use Rattle.extent_ops.proofs.Cuts.{cut-ended}
use Rattle.extent_ops.proofs.Keyed.{has-filter}
use Rattle.extent_ops.proofs.Members.{Has, has-first, map-has}
use Rattle.extent_ops.proofs.Taken.{has-cut_all}

-- entries, each by a weight
abbrev weigh : (Pos × Value → ℕ) → Entries → ℕ
weigh f [] = 0
weigh f (e ∷ es) = f e + weigh f es

-- the weight of entries at other positions
abbrev but : Pos → (Pos × Value → ℕ) → Pos × Value → ℕ
but pos f e = cond (is_at (pos_cmp pos) e.0) 0 (f e)

-- Entries that are all behind a position weigh as much.
all_weigh : (pos : Pos) (f : Pos × Value → ℕ) (es : Entries) → AllByRecursion (λ y. pos_cmp pos y ≡ Less) (keys_of es) → weigh f es ≡ weigh (but pos f) es
all_weigh pos f [] all = refl
all_weigh pos f (e ∷ es) all = λ i. cond (is_eq (sym all.0 i)) 0 (f e) + all_weigh pos f es all.1 i

-- Those that are all behind an equal position do so too.
same_weigh : (pos first : Pos) (f : Pos × Value → ℕ) (es : Entries) → is_at (pos_cmp pos) first ≡ true → AllByRecursion (λ y. pos_cmp first y ≡ Less) (keys_of es) → weigh f es ≡ weigh (but pos f) es
same_weigh pos first f es at all = all_weigh pos f es (subst (λ (p : Pos). AllByRecursion (λ y. pos_cmp p y ≡ Less) (keys_of es)) (sym (same_key pos_exact pos first at)) all)

-- What is put at a position weighs no more than its value counts for.
module _ (place : Place) (f : Pos × Value → ℕ) (most : (e : Pos × Value) → f e ≤ uses place (places_of e.1)) (pos : Pos) where
  without_weighs : (entries : Entries) → IsMap pos_cmp entries → weigh f (without pos_cmp pos entries) ≤ weigh (but pos f) entries
  without_weighs [] rises = omega arith
  without_weighs (e ∷ es) rises = by (is_at (pos_cmp pos) e.0) refl (without_weighs es (sorted_tail pos_cmp e.0 (keys_of es) rises))
    where
      by : (b : Bool) → is_at (pos_cmp pos) e.0 ≡ b → weigh f (without pos_cmp pos es) ≤ weigh (but pos f) es → weigh f (cond b es (e ∷ without pos_cmp pos es)) ≤ cond b 0 (f e) + weigh (but pos f) es
      by true at later = let same = same_weigh pos e.0 f es at (sorted_head pos_cmp e.0 (keys_of es) rises) in omega (arith, same)
      by false at later = omega (arith, later)

  with_weighs : (value : Value) (entries : Entries) → IsMap pos_cmp entries → weigh f (with_value pos_cmp pos value entries) ≤ weigh (but pos f) entries + uses place (places_of value)
  with_weighs value [] rises = let top = most (pos, value) in omega (arith, top)
  with_weighs value (e ∷ es) rises = by (pos_cmp pos e.0) refl (IsMap-with_value pos_total pos value (e ∷ es) rises) (with_weighs value es (sorted_tail pos_cmp e.0 (keys_of es) rises))
    where
      by : (r : Ordering) → pos_cmp pos e.0 ≡ r → IsMap pos_cmp (match_ordering r ((pos, value) ∷ e ∷ es) ((e.0, value) ∷ es) (e ∷ insert_entry pos_cmp es pos value))
          → weigh f (insert_entry pos_cmp es pos value) ≤ weigh (but pos f) es + uses place (places_of value)
          → weigh f (match_ordering r ((pos, value) ∷ e ∷ es) ((e.0, value) ∷ es) (e ∷ insert_entry pos_cmp es pos value)) ≤ (cond (is_eq r) 0 (f e) + weigh (but pos f) es) + uses place (places_of value)
      by Less is rises' later =
          let all = sorted_head pos_cmp pos (keys_of (e ∷ es)) rises' in
          let same = all_weigh pos f es all.1 in
          let top = most (pos, value) in
          omega (arith, same, top)
      by Equal is rises' later =
          let same = same_weigh pos e.0 f es (ap is_eq is) (sorted_head pos_cmp e.0 (keys_of es) rises) in
          let top = most (e.0, value) in
          omega (arith, same, top)
      by Greater is rises' later = omega (arith, later)

  put_weighs : (value : Option Value) (entries : Entries) → IsMap pos_cmp entries → weigh f (put_at pos_cmp pos value entries) ≤ weigh (but pos f) entries + of_maybe place value
  put_weighs None entries rises = let le = without_weighs entries rises in omega (arith, le)
  put_weighs (Some value) entries rises = with_weighs value entries rises

module _ (place : Place) (file id : ℕ) where
  -- how often an entry uses the place
  abbrev used_by : Pos × Value → ℕ
  used_by e = uses place (places_of e.1)

  -- where it isn't at one of some ends, and where it is
  abbrev untouched : List (ℕ × Option Value) → Pos × Value → ℕ
  untouched [] e = used_by e
  untouched (x ∷ xs) e = but (pos_of file x.0 id) (untouched xs) e

  abbrev touched : List (ℕ × Option Value) → Pos × Value → ℕ
  touched [] e = 0
  touched (x ∷ xs) e = cond (is_at (pos_cmp (pos_of file x.0 id)) e.0) (used_by e) (touched xs e)

  untouched-few : (xs : List (ℕ × Option Value)) (e : Pos × Value) → untouched xs e ≤ used_by e
  untouched-few [] e = omega arith
  untouched-few (x ∷ xs) e = by (is_at (pos_cmp (pos_of file x.0 id)) e.0) (untouched-few xs e)
    where
      by : (b : Bool) → untouched xs e ≤ used_by e → cond b 0 (untouched xs e) ≤ used_by e
      by true later = omega arith
      by false later = later

  both_are : (xs : List (ℕ × Option Value)) (e : Pos × Value) → untouched xs e + touched xs e ≡ used_by e
  both_are [] e = omega arith
  both_are (x ∷ xs) e = by (is_at (pos_cmp (pos_of file x.0 id)) e.0) (both_are xs e)
    where
      by : (b : Bool) → untouched xs e + touched xs e ≡ used_by e → cond b 0 (untouched xs e) + cond b (used_by e) (touched xs e) ≡ used_by e
      by true later = omega arith
      by false later = later

  both_weigh : (xs : List (ℕ × Option Value)) (entries : Entries) → weigh (untouched xs) entries + weigh (touched xs) entries ≡ weigh used_by entries
  both_weigh xs [] = omega arith
  both_weigh xs (e ∷ es) = let here = both_are xs e in let later = both_weigh xs es in omega (arith, here, later)

  -- An entry at one of the ends is touched.
  touched_at : (xs : List (ℕ × Option Value)) (x : ℕ × Option Value) (e : Pos × Value) → Has x xs → e.0 ≡ pos_of file x.0 id → touched xs e ≡ used_by e
  touched_at [] x e has at = elim has [ ]
  touched_at (y ∷ xs) x e (inl same) at = ap (λ b. cond b (used_by e) (touched xs e)) (subst (λ (p : Pos). is_at (pos_cmp p) e.0 ≡ true) (at ∙ (λ i. pos_of file (same i).0 id)) (ap is_eq (tied_itself pos_total e.0)))
  touched_at (y ∷ xs) x e (inr later) at = by (is_at (pos_cmp (pos_of file y.0 id)) e.0) (touched_at xs x e later at)
    where
      by : (b : Bool) → touched xs e ≡ used_by e → cond b (used_by e) (touched xs e) ≡ used_by e
      by true rest = refl
      by false rest = rest

  -- what values by their ends use
  abbrev of_entries : List (ℕ × Option Value) → ℕ
  of_entries [] = 0
  of_entries (x ∷ xs) = of_maybe place x.1 + of_entries xs

  -- After updates all that was untouched is there, and what they put.
  after_weighs : (xs : List (ℕ × Option Value)) (keys : KeyMap) → IsKeyMap keys → weigh used_by (with_updates (map (update_at file id) xs) keys).extents ≤ weigh (untouched xs) keys.extents + of_entries xs
  after_weighs [] keys is = omega arith
  after_weighs (x ∷ xs) keys is =
      let later = after_weighs xs (with_update (update_at file id x) keys) (IsKeyMap-with_update (update_at file id x) keys is) in
      let entries = ap (weigh (untouched xs)) (entries_of-with_update (update_at file id x) keys Extents) in
      let here = put_weighs place (untouched xs) (untouched-few xs) (pos_of file x.0 id) x.1 keys.extents (is.rises Extents) in
      omega (arith, later, entries, here)

  -- Collected changes use it no oftener than all changes.
  with_few : (end : ℕ) (value : Option Value) (xs : List (ℕ × Option Value)) → of_entries (with_value nat_cmp end value xs) ≤ of_entries xs + of_maybe place value
  with_few end value [] = omega arith
  with_few end value (x ∷ xs) = by (nat_cmp end x.0) (with_few end value xs)
    where
      by : (r : Ordering) → of_entries (insert_entry nat_cmp xs end value) ≤ of_entries xs + of_maybe place value
          → of_entries (match_ordering r ((end, value) ∷ x ∷ xs) ((x.0, value) ∷ xs) (x ∷ insert_entry nat_cmp xs end value)) ≤ (of_maybe place x.1 + of_entries xs) + of_maybe place value
      by Less later = omega arith
      by Equal later = omega arith
      by Greater later = omega (arith, later)

  collected-few : (changes : List Change) (xs : List (ℕ × Option Value)) → of_entries (collected xs changes) ≤ of_entries xs + of_changes place changes
  collected-few [] xs = omega arith
  collected-few (change ∷ changes) xs =
      let here = with_few change.end change.value xs in
      let later = collected-few changes (with_value nat_cmp change.end change.value xs) in
      omega (arith, here, later)

  -- What keys are cut to uses it no oftener than those entries that are touched.
  cuts_weigh : (xs : List (ℕ × Option Value)) (stretches : List Stretch) (from : ℕ) (test : Pos × Value → Bool) (entries : Entries) → RiseFrom from stretches → ((e : Pos × Value) → Has e entries → HavePlaces e.1)
      → ((e : Pos × Value) (change : Change) → Has e entries → test e ≡ true → e.0.snapshot ≡ id → Has change (cut_value stretches e.0.offset (Some e.1)) → touched xs e ≡ used_by e)
      → of_changes place (cut_all id stretches (keys_in (filter test entries))) ≤ weigh (touched xs) entries
  cuts_weigh xs stretches from test [] rise fit all = omega arith
  cuts_weigh xs stretches from test (e ∷ es) rise fit all = by (test e) refl (cuts_weigh xs stretches from test es rise (λ x has. fit x (inr has)) (λ x change has. all x change (inr has)))
    where
      some : test e ≡ true → e.0.snapshot ≡ id → (changes : List Change) → cut_value stretches e.0.offset (Some e.1) ≡ changes → of_changes place (cut_value stretches e.0.offset (Some e.1)) ≤ touched xs e
      some passes own [] is = let none = ap (of_changes place) is in omega (arith, none)
      some passes own (change ∷ changes) is =
          let same = all e change (inl refl) passes own (subst (Has change) (sym is) (inl refl)) in
          let few = of_cut place stretches from e.0.offset e.1 rise (fit e (inl refl)) in
          omega (arith, same, few)

      own : test e ≡ true → (b : Bool) → (e.0.snapshot == id) ≡ b → of_changes place (cond b (cut_value stretches e.0.offset (Some e.1)) []) ≤ touched xs e
      own passes true is = some passes (eqb-true e.0.snapshot id is) (cut_value stretches e.0.offset (Some e.1)) refl
      own passes false is = omega arith

      by : (b : Bool) → test e ≡ b → of_changes place (cut_all id stretches (keys_in (filter test es))) ≤ weigh (touched xs) es → of_changes place (cut_all id stretches (keys_in (cond b (e ∷ filter test es) (filter test es)))) ≤ touched xs e + weigh (touched xs) es
      by true is later =
          let split = of_changes-append place (cut_key id stretches (key_of e)) (cut_all id stretches (keys_in (filter test es))) in
          let here = own is (e.0.snapshot == id) refl in
          omega (arith, split, here, later)
      by false is later = omega (arith, later)

  used-weigh : (entries : Entries) → uses place (flat_map (λ (e : Pos × Value). places_of e.1) entries) ≡ weigh used_by entries
  used-weigh [] = refl
  used-weigh (e ∷ es) = uses-append place (places_of e.1) (flat_map (λ (x : Pos × Value). places_of x.1) es) ∙ ap (λ n. used_by e + n) (used-weigh es)

-- The end is one of some.
abbrev HasEnd : ℕ → List (ℕ × Option Value) → Type 0
HasEnd end xs = (x : ℕ × Option Value) × (Has x xs × (x.0 ≡ end))

-- An end at which something is put is there, and so is each that was.
put_end : (end : ℕ) (value : Option Value) (xs : List (ℕ × Option Value)) → HasEnd end (with_value nat_cmp end value xs)
put_end end value [] = ((end, value), (inl refl, refl))
put_end end value (x ∷ xs) = by (nat_cmp end x.0) refl (put_end end value xs)
  where
    by : (r : Ordering) → nat_cmp end x.0 ≡ r → HasEnd end (insert_entry nat_cmp xs end value) → HasEnd end (match_ordering r ((end, value) ∷ x ∷ xs) ((x.0, value) ∷ xs) (x ∷ insert_entry nat_cmp xs end value))
    by Less is later = ((end, value), (inl refl, refl))
    by Equal is later = let same = ranked end x.0 Equal (sym is) in ((x.0, value), (inl refl, omega (arith, same)))
    by Greater is later = (later.0, (inr later.1.0, later.1.1))

keep_end : (end key : ℕ) (value : Option Value) (xs : List (ℕ × Option Value)) → HasEnd end xs → HasEnd end (with_value nat_cmp key value xs)
keep_end end key value [] has = elim has.1.0 [ ]
keep_end end key value (x ∷ xs) has = by (nat_cmp key x.0) (has.1.0) (λ there. keep_end end key value xs (has.0, (there, has.1.1)))
  where
    by : (r : Ordering) → Has has.0 (x ∷ xs) → (Has has.0 xs → HasEnd end (insert_entry nat_cmp xs key value)) → HasEnd end (match_ordering r ((key, value) ∷ x ∷ xs) ((x.0, value) ∷ xs) (x ∷ insert_entry nat_cmp xs key value))
    by Less there later = (has.0, (inr there, has.1.1))
    by Equal (inl same) later = ((x.0, value), (inl refl, sym (ap (λ (y : ℕ × Option Value). y.0) same) ∙ has.1.1))
    by Equal (inr there) later = (has.0, (inr there, has.1.1))
    by Greater (inl same) later = (has.0, (inl same, has.1.1))
    by Greater (inr there) later = let rest = later there in (rest.0, (inr rest.1.0, rest.1.1))

keep_ends : (end : ℕ) (changes : List Change) (xs : List (ℕ × Option Value)) → HasEnd end xs → HasEnd end (collected xs changes)
keep_ends end [] xs has = has
keep_ends end (change ∷ changes) xs has = keep_ends end changes (with_value nat_cmp change.end change.value xs) (keep_end end change.end change.value xs has)

ends_collected : (change : Change) (changes : List Change) (xs : List (ℕ × Option Value)) → Has change changes → HasEnd change.end (collected xs changes)
ends_collected change [] xs has = elim has [ ]
ends_collected change (d ∷ changes) xs (inl same) = keep_ends change.end changes (with_value nat_cmp d.end d.value xs) (subst (λ (c : Change). HasEnd c.end (with_value nat_cmp d.end d.value xs)) (sym same) (put_end d.end d.value xs))
ends_collected change (d ∷ changes) xs (inr later) = ends_collected change changes (with_value nat_cmp d.end d.value xs) later

-- So the extents use each place no oftener than they did and than what is given does.
pub used-few : (place : Place) (keys_map : KeyMap) (is : IsKeyMap keys_map) (file id first last from : ℕ) (keys : List Key) (stretches : List Stretch) (given : List Change) → AreLookedAt keys_map file first last keys → RiseFrom from stretches
    → ((e : Pos × Value) → Has e keys_map.extents → HavePlaces e.1)
    → uses place (used_places (with_updates (updates_of file id (cut_all id stretches keys ++ given)) keys_map)) ≤ uses place (used_places keys_map) + of_changes place given
used-few place keys_map is file id first last from keys stretches given looked rise fit =
    let xs : List (ℕ × Option Value) = collected [] (cut_all id stretches keys ++ given) in
    let before = used-weigh place file id keys_map.extents in
    let after = used-weigh place file id (with_updates (map (update_at file id) xs) keys_map).extents in
    let weighs = after_weighs place file id xs keys_map is in
    let few = collected-few place file id (cut_all id stretches keys ++ given) [] in
    let split = of_changes-append place (cut_all id stretches keys) given in
    let cuts = cuts_weigh place file id xs stretches from looked.looked_at keys_map.extents rise fit all in
    let same = ap (λ (ks : List Key). of_changes place (cut_all id stretches ks)) looked.are in
    let both = both_weigh place file id xs keys_map.extents in
    omega (arith, before, after, weighs, few, split, cuts, same, both)
  where
    ended : (e : Pos × Value) (change : Change) → Has e keys_map.extents → looked.looked_at e ≡ true → e.0.snapshot ≡ id → Has change (cut_value stretches e.0.offset (Some e.1)) → HasEnd e.0.offset (collected [] (cut_all id stretches keys ++ given))
    ended e change has passes own cut =
        let last_one = cut-ended stretches from rise e.0.offset e.1 change cut in
        let among : Has last_one.0 (cut_all id stretches keys) = has-cut_all id stretches keys e.0.offset e.1 last_one.0
        (record { key = key_of e; has = subst (Has (key_of e)) (sym looked.are) (map-has key_of e (filter looked.looked_at keys_map.extents) (has-filter looked.looked_at e keys_map.extents has passes)); id_is = own; end_is = refl; is = refl }) last_one.1.0 in
        subst (λ (n : ℕ). HasEnd n (collected [] (cut_all id stretches keys ++ given))) last_one.1.1 (ends_collected last_one.0 (cut_all id stretches keys ++ given) [] (has-first last_one.0 (cut_all id stretches keys) given among))

    all : (e : Pos × Value) (change : Change) → Has e keys_map.extents → looked.looked_at e ≡ true → e.0.snapshot ≡ id → Has change (cut_value stretches e.0.offset (Some e.1)) → touched place file id (collected [] (cut_all id stretches keys ++ given)) e ≡ used_by place file id e
    all e change has passes own cut =
        let end = ended e change has passes own cut in
        touched_at place file id (collected [] (cut_all id stretches keys ++ given)) end.0 e end.1.0 (λ i. record { inode = looked.of_file e passes i; offset = sym end.1.1 i; snapshot = own i })
