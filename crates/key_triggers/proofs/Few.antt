-- How many updates `expand` makes at most: one for each entry of its maps, and a pointer makes one entry in each.
use Rattle.std.proofs.Common.{ℕ, ◌+◌, ◌≤◌, Bool, true, false, Option, Some, None, List, [], ◌∷◌, ◌++◌, length, map, arith}
use Rattle.std.specs.Ordering.{match_ordering}
use Rattle.std.specs.declared.cmp.Ordering.{Ordering}
use Rattle.std.specs.declared.cmp.Ordering.TheVariants.{Less, Equal, Greater}
use Rattle.std.proofs.lemmas.List.{length-append, length-map}
use Rattle.vol_types.specs.KeyMaps.{KeyMap}
use Rattle.vol_types.specs.Maps.{with_value}
use Rattle.vol_types.specs.Positions.{pos_cmp}
use Rattle.vol_types.specs.declared.keys.Update.{Update}
use Rattle.vol_types.specs.declared.pointers.Pointer.{Pointer}
use Rattle.vol_types.specs.declared.positions.Pos.{Pos}
use Rattle.key_triggers.specs.Bounds.{most_expanded, pointers_changed, pointers_in_all}
use Rattle.key_triggers.specs.Changes.{Values, blocks_in, pointers_in, values_after, values_before}
use Rattle.key_triggers.specs.Expanding.{expanded, owners_of, tallies_of}
use Rattle.key_triggers.specs.Owners.{Owners, held_by, left_by, owned, owner_update}
use Rattle.key_triggers.specs.Positions.{block_pos, bucket_pos}
use Rattle.key_triggers.specs.Stamps.{stamped}
use Rattle.key_triggers.specs.Tallies.{Tallies, counted, counted_values, live_update, tally_at, tally_more}

-- One more entry at most.
with_few : {X : Type 0} (key : Pos) (value : X) (entries : List (Pos × X)) → length (with_value pos_cmp key value entries) ≤ length entries + 1
with_few key value [] = omega arith
with_few {X} key value (e ∷ es) = by (pos_cmp key e.0) (with_few key value es)
  where
    by : (r : Ordering) → length (with_value pos_cmp key value es) ≤ length es + 1 → length {A = Pos × X} (match_ordering r ((key, value) ∷ e ∷ es) ((e.0, value) ∷ es) (e ∷ with_value pos_cmp key value es)) ≤ length (e ∷ es) + 1
    by Less later = omega arith
    by Equal later = omega arith
    by Greater later = omega (arith, later)

owned_few : (owner : Option Pos) (pointers : List Pointer) (owners : Owners) → length (owned owner pointers owners) ≤ length owners + length pointers
owned_few owner [] owners = omega arith
owned_few owner (pointer ∷ pointers) owners = omega (arith, owned_few owner pointers (with_value pos_cmp (block_pos pointer.place) owner owners), with_few (block_pos pointer.place) owner owners)

left_few : (values : Values) (owners : Owners) → length (left_by values owners) ≤ length owners + pointers_in_all values
left_few [] owners = omega arith
left_few (entry ∷ values) owners = omega (arith, left_few values (owned None (pointers_in entry.1) owners), owned_few None (pointers_in entry.1) owners)

held_few : (values : Values) (owners : Owners) → length (held_by values owners) ≤ length owners + pointers_in_all values
held_few [] owners = omega arith
held_few (entry ∷ values) owners = omega (arith, held_few values (owned (Some entry.0) (pointers_in entry.1) owners), owned_few (Some entry.0) (pointers_in entry.1) owners)

counted_few : (gives : Bool) (blocks : ℕ) (pointers : List Pointer) (tallies : Tallies) → length (counted gives blocks pointers tallies) ≤ length tallies + length pointers
counted_few gives blocks [] tallies = omega arith
counted_few gives blocks (pointer ∷ pointers) tallies =
    let more = tally_more gives blocks (tally_at (bucket_pos pointer.place) tallies) in
    omega (arith, counted_few gives blocks pointers (with_value pos_cmp (bucket_pos pointer.place) more tallies), with_few (bucket_pos pointer.place) more tallies)

values_few : (gives : Bool) (values : Values) (tallies : Tallies) → length (counted_values gives values tallies) ≤ length tallies + pointers_in_all values
values_few gives [] tallies = omega arith
values_few gives (entry ∷ values) tallies = omega (arith, values_few gives values (counted gives (blocks_in entry.1) (pointers_in entry.1) tallies), counted_few gives (blocks_in entry.1) (pointers_in entry.1) tallies)

module _ (keys : KeyMap) (updates : List Update) where
  -- Each pointer is of one bucket,
  pub tallies_few : length (tallies_of keys updates) ≤ pointers_changed keys updates
  tallies_few = omega (arith, values_few true (values_after updates []) (counted_values false (values_before keys updates []) []), values_few false (values_before keys updates []) [])

  -- and begins at one block.
  pub owners_few : length (owners_of keys updates) ≤ pointers_changed keys updates
  owners_few = omega (arith, held_few (values_after updates []) (left_by (values_before keys updates []) []), left_few (values_before keys updates []) [])

  pub expanded_few : length (expanded keys updates) ≤ most_expanded keys updates
  expanded_few = omega (
    arith,
    tallies_few,
    owners_few,
    length-append (map (stamped keys) updates ++ map (live_update keys) (tallies_of keys updates)) (map owner_update (owners_of keys updates)),
    length-append (map (stamped keys) updates) (map (live_update keys) (tallies_of keys updates)),
    length-map {B = Update} updates (stamped keys),
    length-map {B = Update} (tallies_of keys updates) (live_update keys),
    length-map {B = Update} (owners_of keys updates) owner_update,
  )
