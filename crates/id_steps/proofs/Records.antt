-- The records of ids follow the updates of their keys, and all ids are above the counter.
use Rattle.std.proofs.Common.{◌≡◌, ℕ, ◌-◌, ◌<◌, ◌≤◌, Bool, true, false, cond, Option, Some, None, [], ◌∷◌, refl, sym, ap, ◌∙◌, arith, ⊎_elim, inl, inr}
use Rattle.std.specs.Prelude.{◌==◌, All}
use Rattle.std.specs.BTreeMap.{is_at}
use Rattle.std.specs.List.{fold}
use Rattle.std.specs.Map.{keys_of}
use Rattle.std.specs.Option.{option_or}
use Rattle.std.specs.Ordering.{is_eq, nat_cmp, ordering_then}
use Rattle.std.specs.declared.cmp.Ordering.{Ordering}
use Rattle.std.specs.declared.cmp.Ordering.TheVariants.{Less, Equal, Greater}
use Rattle.std.proofs.lemmas.Bool.{cases_lt}
use Rattle.std.proofs.lemmas.Bool.Decides.{nat_tests}
use Rattle.std.proofs.lemmas.Cmp.{eq_by_cmp_equiv, nat_cmp_total}
use Rattle.std.proofs.lemmas.List.Elements.{All-head, All-tail, All-weaker}
use Rattle.std.proofs.lemmas.Map.{lookup-none}
use Rattle.std.proofs.lemmas.Map.Entries.{none_past_head}
use Rattle.std.proofs.lemmas.Map.Keys.{IsDistinct-from_sorted, sorted_tail}
use Rattle.std.proofs.lemmas.Map.Lookups.{exact_unsigned}
use Rattle.id_steps.specs.Ids.{split_updates}
use Rattle.key_meaning.specs.EntryLaws.{all-with_update}
use Rattle.key_meaning.specs.Forest.{next_in}
use Rattle.key_meaning.specs.Tidy.{AreKeysDrawn, IsKeyOf, id_counter}
use Rattle.key_meaning.specs.Visible.{snaps_of}
use Rattle.key_meaning.specs.VisibleLaws.{snaps_of-rises}
use Rattle.snap_tree.specs.ChainLaws.{AllAbove, same_test, still_above}
use Rattle.snap_tree.specs.MapLaws.{not_above, rises-with, value_at-with}
use Rattle.snap_tree.specs.Snaps.{Snaps, snap_of, with_snap}
use Rattle.snap_tree.specs.Splits.{interior_over, leaf_under, snap_update, split_snaps}
use Rattle.vol_types.specs.KeyMapLaws.{IsKeyMap-with_update, value_in-with_update}
use Rattle.vol_types.specs.KeyMaps.{Entries, IsKeyMap, KeyMap, keys_in, value_in, with_update, with_updates}
use Rattle.vol_types.specs.MapLaws.{same_maps}
use Rattle.vol_types.specs.Maps.{IsMap, value_at, with_value}
use Rattle.vol_types.specs.PositionLaws.{pos_total}
use Rattle.vol_types.specs.Positions.{pos_cmp}
use Rattle.vol_types.specs.declared.keys.Key.{Key}
use Rattle.vol_types.specs.declared.positions.Btree.TheVariants.{Snapshots}
use Rattle.vol_types.specs.declared.positions.Pos.{Pos}
use Rattle.vol_types.specs.declared.values.Snap.{Snap}
use Rattle.vol_types.specs.declared.values.Value.{Value}
use Rattle.vol_types.specs.declared.values.Value.TheVariants as values

-- The key stands where the record of an id may.
abbrev pub HasIdPlace : Pos × Value → Type 0
HasIdPlace entry = (entry.0.inode ≡ 0) × (entry.0.snapshot ≡ 0)

-- All records do so.
abbrev pub AreIdPlaces : KeyMap → Type 0
AreIdPlaces keys = All HasIdPlace keys.snapshots

-- where the record of an id stands
abbrev place_of : ℕ → Pos
place_of id = record { inode = 0; offset = id; snapshot = 0 }

then_equal : (o : Ordering) → is_eq (ordering_then o Equal) ≡ is_eq o
then_equal Less = refl
then_equal Equal = refl
then_equal Greater = refl

same_nat : (a b : ℕ) → is_eq (nat_cmp a b) ≡ (a == b)
same_nat a b = grind (arith, nat_tests)

-- Whether a place is that of an id.
pub number_at : (id x : ℕ) → is_at (pos_cmp (place_of id)) (place_of x) ≡ (id == x)
number_at id x = then_equal (nat_cmp id x) ∙ same_nat id x

-- And the other way round.
pub at_place : (pos : Pos) (id : ℕ) → (pos.inode ≡ 0) × (pos.snapshot ≡ 0) → is_at (pos_cmp (place_of id)) pos ≡ (pos.offset == id)
at_place pos id place = ap (λ (p : Pos). is_at (pos_cmp (place_of id)) p) same ∙ then_equal (nat_cmp id pos.offset) ∙ same_test id pos.offset
  where
    same : pos ≡ place_of pos.offset
    same = λ i. record { inode = place.0 i; offset = pos.offset; snapshot = place.1 i }

-- the ids of entries with their records, over those that there are
abbrev over : Snaps → Entries → Snaps
over snaps entries = fold (λ (snaps : Snaps) (key : Key). with_snap key.pos.offset (snap_of key.value) snaps) snaps (keys_in entries)

same_both : (b : Bool) (o : Option Snap) → cond b o o ≡ o
same_both true o = refl
same_both false o = refl

found_with : (snap : Option Snap) (id x : ℕ) (snaps : Snaps) → value_at nat_cmp x (with_snap id snap snaps) ≡ cond (id == x) (option_or snap (value_at nat_cmp x snaps)) (value_at nat_cmp x snaps)
found_with None id x snaps = sym (same_both (id == x) (value_at nat_cmp x snaps))
found_with (Some snap) id x snaps = value_at-with snaps id x snap

-- the record of an id is the one at its place, or that which there was
found_over : (entries : Entries) (snaps : Snaps) (id : ℕ) → IsMap pos_cmp entries → All HasIdPlace entries → value_at nat_cmp id (over snaps entries) ≡ option_or (snap_of (value_at pos_cmp (place_of id) entries)) (value_at nat_cmp id snaps)
found_over [] snaps id rises places = refl
found_over (e ∷ es) snaps id rises places =
    found_over es (with_snap e.0.offset (snap_of (Some e.1)) snaps) id (sorted_tail pos_cmp e.0 (keys_of es) rises) (All-tail HasIdPlace e es places)
    ∙ ap (option_or (snap_of (value_at pos_cmp (place_of id) es))) (found_with (snap_of (Some e.1)) e.0.offset id snaps)
    ∙ by (e.0.offset == id) (at_place e.0 id (All-head HasIdPlace e es places))
  where
    by : (b : Bool) → is_at (pos_cmp (place_of id)) e.0 ≡ b
        → option_or (snap_of (value_at pos_cmp (place_of id) es)) (cond b (option_or (snap_of (Some e.1)) (value_at nat_cmp id snaps)) (value_at nat_cmp id snaps))
        ≡ option_or (snap_of (value_at pos_cmp (place_of id) (e ∷ es))) (value_at nat_cmp id snaps)
    by true at =
        ap (λ (o : Option Value). option_or (snap_of o) (option_or (snap_of (Some e.1)) (value_at nat_cmp id snaps)))
        (lookup-none (is_at (pos_cmp (place_of id))) es (none_past_head (eq_by_cmp_equiv pos_total) (place_of id) e es (IsDistinct-from_sorted pos_cmp (keys_of (e ∷ es)) rises) at))
        ∙ sym (ap (λ b. option_or (snap_of (cond b (Some e.1) (value_at pos_cmp (place_of id) es))) (value_at nat_cmp id snaps)) at)
    by false at = sym (ap (λ b. option_or (snap_of (cond b (Some e.1) (value_at pos_cmp (place_of id) es))) (value_at nat_cmp id snaps)) at)

or_none : (o : Option Snap) → option_or o None ≡ o
or_none None = refl
or_none (Some snap) = refl

-- the record that a key map has of an id
found_in : (keys : KeyMap) (id : ℕ) → IsKeyMap keys → AreIdPlaces keys → value_at nat_cmp id (snaps_of keys) ≡ snap_of (value_in keys Snapshots (place_of id))
found_in keys id is places = found_over keys.snapshots [] id (is.rises Snapshots) places ∙ or_none (snap_of (value_in keys Snapshots (place_of id)))

module _ (keys : KeyMap) (id : ℕ) (snap : Snap) (is : IsKeyMap keys) (places : AreIdPlaces keys) where
  -- Records stay at the places of ids where one is put,
  pub places_stay : AreIdPlaces (with_update (snap_update id snap) keys)
  places_stay = all-with_update HasIdPlace (snap_update id snap) keys Snapshots (λ of put at. (refl, refl)) places

  -- and it is put in its place among the ids.
  pub record_follows : snaps_of (with_update (snap_update id snap) keys) ≡ with_value nat_cmp id snap (snaps_of keys)
  record_follows = same_maps nat_cmp_total exact_unsigned (snaps_of new) (with_value nat_cmp id snap (snaps_of keys)) (snaps_of-rises new) (rises-with (snaps_of keys) id snap (snaps_of-rises keys))
      (λ x. found_in new x (IsKeyMap-with_update (snap_update id snap) keys is) places_stay
      ∙ ap snap_of (value_in-with_update (snap_update id snap) keys Snapshots (place_of x) is)
      ∙ ap (λ b. snap_of (cond b (Some (values.Snap snap)) (value_in keys Snapshots (place_of x)))) (number_at id x)
      ∙ pushed (id == x) (value_in keys Snapshots (place_of x))
      ∙ ap (cond (id == x) (Some snap)) (sym (found_in keys x is places))
      ∙ sym (value_at-with (snaps_of keys) id x snap))
    where
      new : KeyMap
      new = with_update (snap_update id snap) keys

      pushed : (b : Bool) (old : Option Value) → snap_of (cond b (Some (values.Snap snap)) old) ≡ cond b (Some snap) (snap_of old)
      pushed true old = refl
      pushed false old = refl

-- Records of drawn keys are at the places of ids.
pub drawn_places : (keys : KeyMap) → AreKeysDrawn keys → AreIdPlaces keys
drawn_places keys drawn = All-weaker (IsKeyOf keys Snapshots) HasIdPlace (λ (entry : Pos × Value) (key : IsKeyOf keys Snapshots entry). (key.place.0, key.place.1)) keys.snapshots (drawn.each Snapshots)

above_over : (k : ℕ) (entries : Entries) (snaps : Snaps) → AllAbove k snaps → All (λ (entry : Pos × Value). k < entry.0.offset) entries → AllAbove k (over snaps entries)
above_over k [] snaps above all = above
above_over k (e ∷ es) snaps above all = above_over k es (with_snap e.0.offset (snap_of (Some e.1)) snaps) (one_more (snap_of (Some e.1))) (All-tail (λ (entry : Pos × Value). k < entry.0.offset) e es all)
  where
    one_more : (snap : Option Snap) → AllAbove k (with_snap e.0.offset snap snaps)
    one_more None = above
    one_more (Some snap) = still_above k e.0.offset snap snaps (All-head (λ (entry : Pos × Value). k < entry.0.offset) e es all) above

-- All ids are above the counter,
pub all_above_counter : (keys : KeyMap) → AreKeysDrawn keys → AllAbove (next_in keys id_counter) (snaps_of keys)
all_above_counter keys drawn = above_over (next_in keys id_counter) keys.snapshots [] tt drawn.ids

-- so none up to it is there.
pub fresh_is_none : (keys : KeyMap) (id : ℕ) → AreKeysDrawn keys → id ≤ next_in keys id_counter → value_at nat_cmp id (snaps_of keys) ≡ None
fresh_is_none keys id drawn le = not_above (next_in keys id_counter) id (snaps_of keys) (all_above_counter keys drawn) (⊎_elim (λ (lt : id < next_in keys id_counter). inr lt) (λ (ge : next_in keys id_counter ≤ id). inl (omega (arith, le, ge))) (cases_lt id (next_in keys id_counter)))

-- The updates that split a leaf split it.
pub split_follows : (keys : KeyMap) (id next : ℕ) (leaf : Snap) → IsKeyMap keys → AreIdPlaces keys → snaps_of (with_updates (split_updates id next (next - 1) leaf) keys) ≡ split_snaps (snaps_of keys) id next leaf
split_follows keys id next leaf is places =
    let is_one = IsKeyMap-with_update (snap_update id (interior_over next (next - 1) leaf)) keys is in
    let is_two = IsKeyMap-with_update (snap_update next (leaf_under id)) (with_update (snap_update id (interior_over next (next - 1) leaf)) keys) is_one in
    let places_one = places_stay keys id (interior_over next (next - 1) leaf) is places in
    let places_two = places_stay (with_update (snap_update id (interior_over next (next - 1) leaf)) keys) next (leaf_under id) is_one places_one in
    record_follows (with_update (snap_update next (leaf_under id)) (with_update (snap_update id (interior_over next (next - 1) leaf)) keys)) (next - 1) (leaf_under id) is_two places_two
    ∙ ap (with_value nat_cmp (next - 1) (leaf_under id)) (record_follows (with_update (snap_update id (interior_over next (next - 1) leaf)) keys) next (leaf_under id) is_one places_one
    ∙ ap (with_value nat_cmp next (leaf_under id)) (record_follows keys id (interior_over next (next - 1) leaf) is places))
