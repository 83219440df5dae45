-- The trees of snapshot ids follow the updates of their records.
use Rattle.std.proofs.Common.{◌≡◌, ℕ, ◌<◌, ◌^◌, Bool, true, false, cond, Option, Some, None, List, [], ◌∷◌, length, Result, Ok, Err, refl, sym, ap, ◌∙◌, subst, arith, inl, inr}
use Rattle.std.specs.Prelude.{◌&&◌, ◌==◌, ◌⊎◌, All, IsSome, OnOk, nat_lt}
use Rattle.std.specs.BTreeMap.{is_at}
use Rattle.std.specs.List.{fold, list_all}
use Rattle.std.specs.Map.{keys_of}
use Rattle.std.specs.Option.{option_or}
use Rattle.std.specs.Result.{is_ok}
use Rattle.std.specs.Ordering.{is_eq, nat_cmp, ordering_then}
use Rattle.std.specs.declared.cmp.Ordering.{Ordering}
use Rattle.std.specs.declared.cmp.Ordering.TheVariants.{Less, Equal, Greater}
use Rattle.std.proofs.lemmas.Bool.{true≢false, and_parts, eqb-true, ltb-true}
use Rattle.std.proofs.lemmas.Bool.Decides.{nat_tests}
use Rattle.std.proofs.lemmas.Cmp.{eq_by_cmp_equiv, nat_cmp_total}
use Rattle.std.proofs.lemmas.List.Elements.{All-cons, All-head, All-nil, All-tail}
use Rattle.std.proofs.lemmas.Map.{lookup-none}
use Rattle.std.proofs.lemmas.Map.Entries.{none_past_head}
use Rattle.std.proofs.lemmas.Map.Keys.{IsDistinct-from_sorted, sorted_tail}
use Rattle.std.proofs.lemmas.Map.Lookups.{exact_unsigned}
use Rattle.std.proofs.lemmas.Option.{none-some as none_some}
use Rattle.dirty_nodes.proofs.Records.{is_snap}
use Rattle.dirty_nodes.specs.Ids.{are_id_places, id_trees, is_id_place, is_placed}
use Rattle.key_meaning.specs.EntryLaws.{all-with_update}
use Rattle.key_meaning.specs.Visible.{snaps_of}
use Rattle.key_meaning.specs.VisibleLaws.{snaps_of-rises}
use Rattle.snap_tree.specs.ChainLaws.{same_test}
use Rattle.snap_tree.specs.MapLaws.{rises-with, rises-without, value_at-with, value_at-without}
use Rattle.snap_tree.specs.Snaps.{Snaps, are_trees, snap_of, with_snap}
use Rattle.snap_tree.specs.Updates.{IsFitting, is_of_snaps, is_snapshots, snaps_after, with_change}
use Rattle.snap_tree.specs.Updates.{with_update as with_record}
use Rattle.vol_types.specs.Btrees.{btree_code}
use Rattle.vol_types.specs.KeyMapLaws.{IsKeyMap-with_update, value_in-with_update}
use Rattle.vol_types.specs.KeyMaps.{Entries, IsKeyMap, KeyMap, entries_of, is_update_of, value_in, with_update, with_updates}
use Rattle.vol_types.specs.KeyMaps.{keys_in as as_keys}
use Rattle.vol_types.specs.MapLaws.{same_maps}
use Rattle.vol_types.specs.Maps.{IsMap, value_at}
use Rattle.vol_types.specs.PositionLaws.{pos_total}
use Rattle.vol_types.specs.Positions.{pos_cmp}
use Rattle.vol_types.specs.Standing.{IsUpdate, Stands}
use Rattle.vol_types.specs.declared.keys.Key.{Key}
use Rattle.vol_types.specs.declared.keys.Update.{Update}
use Rattle.vol_types.specs.declared.positions.Btree.{Btree}
use Rattle.vol_types.specs.declared.positions.Btree.TheVariants.{Extents, Inodes, Dirents, Subvols, Snapshots, Alloc, Backptrs, Deleted, Counters}
use Rattle.vol_types.specs.declared.positions.Pos.{Pos}
use Rattle.vol_types.specs.declared.values.Snap.{Snap}
use Rattle.vol_types.specs.declared.values.Value.{Value}
use Rattle.vol_types.specs.declared.values.Value.TheVariants as values

-- where the record of an id stands
abbrev place_of : ℕ → Pos
place_of id = record { inode = 0; offset = id; snapshot = 0 }

place_facts : (pos : Pos) → is_id_place pos ≡ true → (pos.inode ≡ 0) × (pos.offset < 2 ^ 32) × (pos.snapshot ≡ 0)
place_facts pos place =
    let first = and_parts (pos.inode == 0 && nat_lt pos.offset (2 ^ 32)) (pos.snapshot == 0) place in
    let second = and_parts (pos.inode == 0) (nat_lt pos.offset (2 ^ 32)) first.0 in
    (eqb-true pos.inode 0 second.0, ltb-true pos.offset (2 ^ 32) second.1, eqb-true pos.snapshot 0 first.1)

-- the place of an id is that of its number
at_number : (pos : Pos) → is_id_place pos ≡ true → pos ≡ place_of pos.offset
at_number pos place = let facts = place_facts pos place in λ i. record { inode = facts.0 i; offset = pos.offset; snapshot = facts.2 i }

then_equal : (o : Ordering) → is_eq (ordering_then o Equal) ≡ is_eq o
then_equal Less = refl
then_equal Equal = refl
then_equal Greater = refl

same_nat : (a b : ℕ) → is_eq (nat_cmp a b) ≡ (a == b)
same_nat a b = grind (arith, nat_tests)

-- whether a place is that of an id
number_at : (pos : Pos) (id : ℕ) → is_id_place pos ≡ true → is_at (pos_cmp pos) (place_of id) ≡ (pos.offset == id)
number_at pos id place = ap (λ (p : Pos). is_at (pos_cmp p) (place_of id)) (at_number pos place) ∙ then_equal (nat_cmp pos.offset id) ∙ same_nat pos.offset id

-- and the other way round
at_place : (pos : Pos) (id : ℕ) → is_id_place pos ≡ true → is_at (pos_cmp (place_of id)) pos ≡ (pos.offset == id)
at_place pos id place = ap (λ (p : Pos). is_at (pos_cmp (place_of id)) p) (at_number pos place) ∙ then_equal (nat_cmp id pos.offset) ∙ same_test id pos.offset

-- the ids of entries with their records, over those that there are
abbrev over : Snaps → Entries → Snaps
over snaps entries = fold (λ (snaps : Snaps) (key : Key). with_snap key.pos.offset (snap_of key.value) snaps) snaps (as_keys entries)

same_both : (b : Bool) (o : Option Snap) → cond b o o ≡ o
same_both true o = refl
same_both false o = refl

found_with : (snap : Option Snap) (id x : ℕ) (snaps : Snaps) → value_at nat_cmp x (with_snap id snap snaps) ≡ cond (id == x) (option_or snap (value_at nat_cmp x snaps)) (value_at nat_cmp x snaps)
found_with None id x snaps = sym (same_both (id == x) (value_at nat_cmp x snaps))
found_with (Some snap) id x snaps = value_at-with snaps id x snap

-- the record of an id is the one at its place, or that which there was
found_over : (entries : Entries) (snaps : Snaps) (id : ℕ) → IsMap pos_cmp entries → are_id_places entries ≡ true
    → value_at nat_cmp id (over snaps entries) ≡ option_or (snap_of (value_at pos_cmp (place_of id) entries)) (value_at nat_cmp id snaps)
found_over [] snaps id rises places = refl
found_over (e ∷ es) snaps id rises places =
    let parts = and_parts (is_id_place e.0) (are_id_places es) places in
    found_over es (with_snap e.0.offset (snap_of (Some e.1)) snaps) id (sorted_tail pos_cmp e.0 (keys_of es) rises) parts.1
    ∙ ap (option_or (snap_of (value_at pos_cmp (place_of id) es))) (found_with (snap_of (Some e.1)) e.0.offset id snaps)
    ∙ by (e.0.offset == id) (at_place e.0 id parts.0)
  where
    by : (b : Bool) → is_at (pos_cmp (place_of id)) e.0 ≡ b
        → option_or (snap_of (value_at pos_cmp (place_of id) es)) (cond b (option_or (snap_of (Some e.1)) (value_at nat_cmp id snaps)) (value_at nat_cmp id snaps))
        ≡ option_or (snap_of (value_at pos_cmp (place_of id) (e ∷ es))) (value_at nat_cmp id snaps)
    by true at =
        ap (λ (o : Option Value). option_or (snap_of o) (option_or (snap_of (Some e.1)) (value_at nat_cmp id snaps)))
        (lookup-none (is_at (pos_cmp (place_of id))) es (none_past_head (eq_by_cmp_equiv pos_total) (place_of id) e es (IsDistinct-from_sorted pos_cmp (keys_of (e ∷ es)) rises) at))
        ∙ sym (ap (λ b. option_or (snap_of (cond b (Some e.1) (value_at pos_cmp (place_of id) es))) (value_at nat_cmp id snaps)) at)
    by false at = sym (ap (λ b. option_or (snap_of (cond b (Some e.1) (value_at pos_cmp (place_of id) es))) (value_at nat_cmp id snaps)) at)

or_none : (o : Option Snap) → option_or o None ≡ o
or_none None = refl
or_none (Some snap) = refl

-- the record that a key map has of an id
found_in : (keys : KeyMap) (id : ℕ) → IsKeyMap keys → are_id_places keys.snapshots ≡ true → value_at nat_cmp id (snaps_of keys) ≡ snap_of (value_in keys Snapshots (place_of id))
found_in keys id is places = found_over keys.snapshots [] id (is.rises Snapshots) places ∙ or_none (snap_of (value_in keys Snapshots (place_of id)))

-- the record of an id after one is changed
found_after : (snaps : Snaps) (id : ℕ) (value : Option Value) (x : ℕ) → IsMap nat_cmp snaps → (value ≡ None) ⊎ IsSome (snap_of value) → value_at nat_cmp x (with_change snaps id value) ≡ cond (id == x) (snap_of value) (value_at nat_cmp x snaps)
found_after snaps id None x rises fits = value_at-without snaps id x rises
found_after snaps id (Some (values.Snap snap)) x rises fits = value_at-with snaps id x snap
found_after snaps id (Some other) x rises (inl none) = absurd (none_some other (sym none))
found_after snaps id (Some other) x rises (inr some) = absurd (cc)

rises_record : (snaps : Snaps) (update : Update) → IsMap nat_cmp snaps → IsMap nat_cmp (with_record snaps update)
rises_record snaps update rises = here (is_of_snaps update) update.value
  where
    here : (b : Bool) (value : Option Value) → IsMap nat_cmp (cond b (with_change snaps update.pos.offset value) snaps)
    here false value = rises
    here true None = rises-without snaps update.pos.offset rises
    here true (Some (values.Snap snap)) = rises-with snaps update.pos.offset snap rises
    here true (Some other) = rises

-- both words for an update of the record of an id say the same
same_updates : (update : Update) → is_of_snaps update ≡ is_update_of Snapshots update
same_updates update = by update.btree (update.level == 0)
  where
    one : (b : Bool) → b ≡ (b && true)
    one true = refl
    one false = refl

    none : (b : Bool) → false ≡ (b && false)
    none true = refl
    none false = refl

    by : (btree : Btree) (b : Bool) → (is_snapshots btree && b) ≡ (b && (btree_code btree == btree_code Snapshots))
    by Extents b = none b
    by Inodes b = none b
    by Dirents b = none b
    by Subvols b = none b
    by Snapshots b = one b
    by Alloc b = none b
    by Backptrs b = none b
    by Deleted b = none b
    by Counters b = none b

-- an update of the record of an id that is placed is at the place of an id
at_id : (update : Update) → is_placed update ≡ true → is_update_of Snapshots update ≡ true → is_id_place update.pos ≡ true
at_id update placed of = sym (ap (λ b. cond b (is_id_place update.pos) true) of) ∙ placed

value_fits : (btree : Btree) (value : Option Value) → is_snapshots btree ≡ true → Stands btree 0 value → (value ≡ None) ⊎ IsSome (snap_of value)
value_fits btree None of stands = inl refl
value_fits Snapshots (Some value) of stands = inr (is_snap value (stands.in_leaf refl))
value_fits other (Some value) of stands = absurd (true≢false (sym of))

fits : (update : Update) → IsUpdate update → is_placed update ≡ true → IsFitting update
fits update is placed of =
    let place = place_facts update.pos (at_id update placed (sym (same_updates update) ∙ of)) in
    let parts = and_parts (is_snapshots update.btree) (update.level == 0) of in
    record {
      inode = place.0;
      id = place.1;
      snapshot = place.2;
      snap = value_fits update.btree update.value parts.0 (subst (λ (level : ℕ). Stands update.btree level update.value) (eqb-true update.level 0 parts.1) is.stands);
    }

-- Updates whose keys may stand fit ids, where they are placed.
pub all_fit : (updates : List Update) → All IsUpdate updates → list_all is_placed updates ≡ true → All IsFitting updates
all_fit [] are placed = All-nil IsFitting
all_fit (update ∷ updates) are placed =
    let parts = and_parts (is_placed update) (list_all is_placed updates) placed in
    All-cons IsFitting update updates (fits update (All-head IsUpdate update updates are) parts.0) (all_fit updates (All-tail IsUpdate update updates are) parts.1)

abbrev IsPlace : Pos × Value → Type 0
IsPlace entry = is_id_place entry.0 ≡ true

all_places : (entries : Entries) → are_id_places entries ≡ true → All IsPlace entries
all_places [] places = All-nil IsPlace
all_places (e ∷ es) places = let parts = and_parts (is_id_place e.0) (are_id_places es) places in All-cons IsPlace e es parts.0 (all_places es parts.1)

are_places : (entries : Entries) → All IsPlace entries → are_id_places entries ≡ true
are_places [] all = refl
are_places (e ∷ es) all = λ i. All-head IsPlace e es all i && are_places es (All-tail IsPlace e es all) i

-- records stay at places of ids
places_stay : (update : Update) (keys : KeyMap) → are_id_places keys.snapshots ≡ true → is_placed update ≡ true → are_id_places (entries_of (with_update update keys) Snapshots) ≡ true
places_stay update keys places placed =
    are_places (entries_of (with_update update keys) Snapshots) (all-with_update IsPlace update keys Snapshots (λ of put at. at_id update placed of) (all_places keys.snapshots places))

-- an update does to the ids of a key map what it does to the records
follows_one : (update : Update) (keys : KeyMap) → IsKeyMap keys → are_id_places keys.snapshots ≡ true → is_placed update ≡ true → IsFitting update → snaps_of (with_update update keys) ≡ with_record (snaps_of keys) update
follows_one update keys is places placed fitting =
    same_maps nat_cmp_total exact_unsigned (snaps_of (with_update update keys)) (with_record (snaps_of keys) update) (snaps_of-rises (with_update update keys)) (rises_record (snaps_of keys) update (snaps_of-rises keys))
    (λ id. found_in (with_update update keys) id (IsKeyMap-with_update update keys is) (places_stay update keys places placed)
    ∙ ap snap_of (value_in-with_update update keys Snapshots (place_of id) is)
    ∙ ap (λ b. snap_of (cond (b && is_at (pos_cmp update.pos) (place_of id)) update.value (value_in keys Snapshots (place_of id)))) (sym (same_updates update))
    ∙ by id (is_of_snaps update) refl)
  where
    pushed : (b : Bool) (new old : Option Value) → snap_of (cond b new old) ≡ cond b (snap_of new) (snap_of old)
    pushed true new old = refl
    pushed false new old = refl

    by : (id : ℕ) (b : Bool) → is_of_snaps update ≡ b
        → snap_of (cond (b && is_at (pos_cmp update.pos) (place_of id)) update.value (value_in keys Snapshots (place_of id))) ≡ value_at nat_cmp id (cond b (with_change (snaps_of keys) update.pos.offset update.value) (snaps_of keys))
    by id true of =
        ap (λ b. snap_of (cond b update.value (value_in keys Snapshots (place_of id)))) (number_at update.pos id (at_id update placed (sym (same_updates update) ∙ of)))
        ∙ pushed (update.pos.offset == id) update.value (value_in keys Snapshots (place_of id))
        ∙ ap (cond (update.pos.offset == id) (snap_of update.value)) (sym (found_in keys id is places))
        ∙ sym (found_after (snaps_of keys) update.pos.offset update.value id (snaps_of-rises keys) (fitting of).snap)
    by id false of = sym (found_in keys id is places)

-- and so do several
follows : (updates : List Update) (keys : KeyMap) → IsKeyMap keys → are_id_places keys.snapshots ≡ true → list_all is_placed updates ≡ true → All IsFitting updates
    → (are_id_places (entries_of (with_updates updates keys) Snapshots) ≡ true) × (snaps_of (with_updates updates keys) ≡ snaps_after (snaps_of keys) updates)
follows [] keys is places placed fit = (places, refl)
follows (update ∷ updates) keys is places placed fit =
    let parts = and_parts (is_placed update) (list_all is_placed updates) placed in
    let rest = follows updates (with_update update keys) (IsKeyMap-with_update update keys is) (places_stay update keys places parts.0) parts.1 (All-tail IsFitting update updates fit) in
    (rest.0, rest.1 ∙ ap (λ (snaps : Snaps). snaps_after snaps updates) (follows_one update keys is places parts.0 (All-head IsFitting update updates fit)))

-- What holds on success holds where there was success.
pub on_success : {T E : Type 0} {P : Type 0} (result : Result T E) → is_ok result ≡ true → OnOk result P → P
on_success (Ok value) ok holds = holds
on_success (Err fault) ok holds = absurd (true≢false (sym ok))

-- Trees that have an id and are made what updates make of their records are those of the key map after the updates.
pub trees_follow : (updates : List Update) (keys : KeyMap) (old new : Snaps) → (length old == 0) ≡ false → list_all is_placed updates ≡ true → All IsFitting updates → new ≡ snaps_after old updates → are_trees new ≡ true
    → IsKeyMap keys → old ≡ id_trees keys → new ≡ id_trees (with_updates updates keys)
trees_follow updates keys old new some placed fit made trees is was = by (are_id_places keys.snapshots && are_trees (snaps_of keys)) refl was
  where
    by : (b : Bool) → (are_id_places keys.snapshots && are_trees (snaps_of keys)) ≡ b → old ≡ cond b (snaps_of keys) [] → new ≡ id_trees (with_updates updates keys)
    by false at none = absurd (true≢false (sym (ap (λ (snaps : Snaps). length snaps == 0) none) ∙ some))
    by true at same =
        let all = follows updates keys is (and_parts (are_id_places keys.snapshots) (are_trees (snaps_of keys)) at).0 placed fit in
        let new_is : new ≡ snaps_of (with_updates updates keys) = made ∙ ap (λ (snaps : Snaps). snaps_after snaps updates) same ∙ sym all.1 in
        new_is ∙ (λ i. cond (sym all.0 i && (sym trees ∙ ap are_trees new_is) i) (snaps_of (with_updates updates keys)) [])
