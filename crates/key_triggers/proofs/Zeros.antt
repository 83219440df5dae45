-- Keys on space stand at positions without a snapshot id.
use Rattle.std.proofs.Common.{◌≡◌, ℕ, Bool, true, false, List, [], ◌∷◌, ◌++◌, map, Option, Some, None, refl, sym, ◌∙◌, All, inl, inr}
use Rattle.std.specs.Ordering.{match_ordering}
use Rattle.std.specs.declared.cmp.Ordering.{Ordering}
use Rattle.std.specs.declared.cmp.Ordering.TheVariants.{Less, Equal, Greater}
use Rattle.std.proofs.lemmas.Bool.{false≢true}
use Rattle.std.proofs.lemmas.List.Elements.{All-append, All-cons, All-head, All-nil, All-tail}
use Rattle.key_meaning.specs.EntryLaws.{all-with_update}
use Rattle.key_triggers.specs.Changes.{Values, blocks_in, pointers_in, values_after, values_before}
use Rattle.key_triggers.specs.Expanding.{expanded, owners_of, tallies_of}
use Rattle.key_triggers.specs.Follows.{IsSpaceUpdate}
use Rattle.key_triggers.specs.Owners.{Owners, held_by, left_by, owned, owner_update}
use Rattle.key_triggers.specs.Positions.{block_pos, bucket_pos}
use Rattle.key_triggers.specs.Stamps.{stamped}
use Rattle.key_triggers.specs.Tallies.{Tallies, counted, counted_values, live_update, tally_at, tally_more}
use Rattle.vol_types.specs.KeyMaps.{KeyMap, entries_of, is_update_of, with_update, with_updates}
use Rattle.vol_types.specs.Maps.{with_value}
use Rattle.vol_types.specs.Positions.{pos_cmp}
use Rattle.vol_types.specs.declared.keys.Update.{Update}
use Rattle.vol_types.specs.declared.pointers.Pointer.{Pointer}
use Rattle.vol_types.specs.declared.positions.Btree.{Btree}
use Rattle.vol_types.specs.declared.positions.Pos.{Pos}
use Rattle.vol_types.specs.declared.values.Value.{Value}

-- All keys stand without a snapshot id.
abbrev pub AtZero : {X : Type 0} → List (Pos × X) → Type 0
AtZero [] = Unit {0}
AtZero (entry ∷ entries) = (entry.0.snapshot ≡ 0) × AtZero entries

zero_put : {X : Type 0} (pos : Pos) (x : X) (entries : List (Pos × X)) → pos.snapshot ≡ 0 → AtZero entries → AtZero (with_value pos_cmp pos x entries)
zero_put pos x [] zero all = (zero, tt)
zero_put {X} pos x (entry ∷ entries) zero all = by (pos_cmp pos entry.0) (zero_put pos x entries zero all.1)
  where
    by : (r : Ordering) → AtZero (with_value pos_cmp pos x entries) → AtZero {X = X} (match_ordering r ((pos, x) ∷ entry ∷ entries) ((entry.0, x) ∷ entries) (entry ∷ with_value pos_cmp pos x entries))
    by Less rest = (zero, all)
    by Equal rest = all
    by Greater rest = (all.0, rest)

counted_zero : (gives : Bool) (blocks : ℕ) (pointers : List Pointer) (tallies : Tallies) → AtZero tallies → AtZero (counted gives blocks pointers tallies)
counted_zero gives blocks [] tallies all = all
counted_zero gives blocks (pointer ∷ pointers) tallies all =
    counted_zero gives blocks pointers (with_value pos_cmp (bucket_pos pointer.place) (tally_more gives blocks (tally_at (bucket_pos pointer.place) tallies)) tallies)
    (zero_put (bucket_pos pointer.place) (tally_more gives blocks (tally_at (bucket_pos pointer.place) tallies)) tallies refl all)

values_zero : (gives : Bool) (values : Values) (tallies : Tallies) → AtZero tallies → AtZero (counted_values gives values tallies)
values_zero gives [] tallies all = all
values_zero gives (entry ∷ values) tallies all = values_zero gives values (counted gives (blocks_in entry.1) (pointers_in entry.1) tallies) (counted_zero gives (blocks_in entry.1) (pointers_in entry.1) tallies all)

owned_zero : (owner : Option Pos) (pointers : List Pointer) (owners : Owners) → AtZero owners → AtZero (owned owner pointers owners)
owned_zero owner [] owners all = all
owned_zero owner (pointer ∷ pointers) owners all = owned_zero owner pointers (with_value pos_cmp (block_pos pointer.place) owner owners) (zero_put (block_pos pointer.place) owner owners refl all)

left_zero : (values : Values) (owners : Owners) → AtZero owners → AtZero (left_by values owners)
left_zero [] owners all = all
left_zero (entry ∷ values) owners all = left_zero values (owned None (pointers_in entry.1) owners) (owned_zero None (pointers_in entry.1) owners all)

held_zero : (values : Values) (owners : Owners) → AtZero owners → AtZero (held_by values owners)
held_zero [] owners all = all
held_zero (entry ∷ values) owners all = held_zero values (owned (Some entry.0) (pointers_in entry.1) owners) (owned_zero (Some entry.0) (pointers_in entry.1) owners all)

-- What the update puts into a btree has P.
abbrev MayPut : (Pos × Value → Type 0) → Btree → Update → Type 0
MayPut P btree update = is_update_of btree update ≡ true → (put : Value) → update.value ≡ Some put → P (update.pos, put)

all_updated : (P : Pos × Value → Type 0) (btree : Btree) (updates : List Update) (keys : KeyMap) → All (MayPut P btree) updates → All P (entries_of keys btree) → All P (entries_of (with_updates updates keys) btree)
all_updated P btree [] keys may all = all
all_updated P btree (update ∷ updates) keys may all =
    all_updated P btree updates (with_update update keys) (All-tail (MayPut P btree) update updates may) (all-with_update P update keys btree (All-head (MayPut P btree) update updates may) all)

stamps_put : (P : Pos × Value → Type 0) (btree : Btree) (keys : KeyMap) (updates : List Update) → All (λ update. is_update_of btree update ≡ false) updates → All (MayPut P btree) (map (stamped keys) updates)
stamps_put P btree keys [] apart = All-nil (MayPut P btree)
stamps_put P btree keys (update ∷ updates) apart =
    All-cons (MayPut P btree) (stamped keys update) (map (stamped keys) updates)
    (λ of put is. absurd (false≢true (sym (All-head (λ u. is_update_of btree u ≡ false) update updates apart) ∙ of)))
    (stamps_put P btree keys updates (All-tail (λ u. is_update_of btree u ≡ false) update updates apart))

lives_put : (P : Pos × Value → Type 0) (btree : Btree) (keys : KeyMap) → ((pos : Pos) (put : Value) → pos.snapshot ≡ 0 → P (pos, put)) → (tallies : Tallies) → AtZero tallies → All (MayPut P btree) (map (live_update keys) tallies)
lives_put P btree keys at_zero [] all = All-nil (MayPut P btree)
lives_put P btree keys at_zero (entry ∷ tallies) all = All-cons (MayPut P btree) (live_update keys entry) (map (live_update keys) tallies) (λ of put is. at_zero entry.0 put all.0) (lives_put P btree keys at_zero tallies all.1)

owners_put : (P : Pos × Value → Type 0) (btree : Btree) → ((pos : Pos) (put : Value) → pos.snapshot ≡ 0 → P (pos, put)) → (owners : Owners) → AtZero owners → All (MayPut P btree) (map owner_update owners)
owners_put P btree at_zero [] all = All-nil (MayPut P btree)
owners_put P btree at_zero (entry ∷ owners) all = All-cons (MayPut P btree) (owner_update entry) (map owner_update owners) (λ of put is. at_zero entry.0 put all.0) (owners_put P btree at_zero owners all.1)

-- What holds of the keys of a btree on space, and of all that stands without a snapshot id, holds after updates were expanded.
pub expanded_keys : (P : Pos × Value → Type 0) (btree : Btree) (keys : KeyMap) (updates : List Update) → ((pos : Pos) (put : Value) → pos.snapshot ≡ 0 → P (pos, put))
    → All (λ update. is_update_of btree update ≡ false) updates → All P (entries_of keys btree) → All P (entries_of (with_updates (expanded keys updates) keys) btree)
expanded_keys P btree keys updates at_zero apart all =
    all_updated P btree (expanded keys updates) keys
    (All-append (MayPut P btree) (map (stamped keys) updates ++ map (live_update keys) (tallies_of keys updates)) (map owner_update (owners_of keys updates))
    (All-append (MayPut P btree) (map (stamped keys) updates) (map (live_update keys) (tallies_of keys updates)) (stamps_put P btree keys updates apart)
    (lives_put P btree keys at_zero (tallies_of keys updates) (values_zero true (values_after updates []) (counted_values false (values_before keys updates []) []) (values_zero false (values_before keys updates []) [] tt))))
    (owners_put P btree at_zero (owners_of keys updates) (held_zero (values_after updates []) (left_by (values_before keys updates []) []) (left_zero (values_before keys updates []) [] tt))))
    all

-- The updates that are added are of keys on space.
pub lives_of_space : (keys : KeyMap) (tallies : Tallies) → All IsSpaceUpdate (map (live_update keys) tallies)
lives_of_space keys [] = All-nil IsSpaceUpdate
lives_of_space keys (entry ∷ tallies) = All-cons IsSpaceUpdate (live_update keys entry) (map (live_update keys) tallies) (inl refl) (lives_of_space keys tallies)

pub owners_of_space : (owners : Owners) → All IsSpaceUpdate (map owner_update owners)
owners_of_space [] = All-nil IsSpaceUpdate
owners_of_space (entry ∷ owners) = All-cons IsSpaceUpdate (owner_update entry) (map owner_update owners) (inr refl) (owners_of_space owners)

-- They stand without a snapshot id.
lives_at_zero : (keys : KeyMap) (tallies : Tallies) → AtZero tallies → All (λ (update : Update). update.pos.snapshot ≡ 0) (map (live_update keys) tallies)
lives_at_zero keys [] all = All-nil (λ (update : Update). update.pos.snapshot ≡ 0)
lives_at_zero keys (entry ∷ tallies) all = All-cons (λ (update : Update). update.pos.snapshot ≡ 0) (live_update keys entry) (map (live_update keys) tallies) all.0 (lives_at_zero keys tallies all.1)

owners_at_zero : (owners : Owners) → AtZero owners → All (λ (update : Update). update.pos.snapshot ≡ 0) (map owner_update owners)
owners_at_zero [] all = All-nil (λ (update : Update). update.pos.snapshot ≡ 0)
owners_at_zero (entry ∷ owners) all = All-cons (λ (update : Update). update.pos.snapshot ≡ 0) (owner_update entry) (map owner_update owners) all.0 (owners_at_zero owners all.1)

pub space_at_zero : (keys : KeyMap) (updates : List Update) → All (λ (update : Update). update.pos.snapshot ≡ 0) (map (live_update keys) (tallies_of keys updates) ++ map owner_update (owners_of keys updates))
space_at_zero keys updates = All-append (λ (update : Update). update.pos.snapshot ≡ 0) (map (live_update keys) (tallies_of keys updates)) (map owner_update (owners_of keys updates))
    (lives_at_zero keys (tallies_of keys updates) (values_zero true (values_after updates []) (counted_values false (values_before keys updates []) []) (values_zero false (values_before keys updates []) [] tt)))
    (owners_at_zero (owners_of keys updates) (held_zero (values_after updates []) (left_by (values_before keys updates []) []) (left_zero (values_before keys updates []) [] tt)))
