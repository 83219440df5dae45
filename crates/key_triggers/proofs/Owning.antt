-- To which extent a block belongs after owners were left and held.
use Rattle.std.proofs.Common.{◌≡◌, ℕ, zero, suc, ◌+◌, ◌≤◌, Bool, true, false, cond, List, [], ◌∷◌, map, Option, Some, None, refl, sym, ap, ◌∙◌, arith, inl, inr}
use Rattle.std.specs.Prelude.{◌==◌, ◌&&◌, ◌||◌, count_by, flat_map}
use Rattle.std.specs.BTreeMap.{is_at}
use Rattle.std.specs.List.{list_any, range_with_len}
use Rattle.std.specs.Cmp.Derive.{both_true}
use Rattle.std.proofs.lemmas.Bool.{eq-eqb, eqb-true, false≢true}
use Rattle.std.proofs.lemmas.Option.{none-some, same_Some}
use Rattle.key_meaning.specs.Blocks.{blocks_of, place_at}
use Rattle.key_meaning.specs.Checks.{has_pointer_at, is_place, places_behind, places_of, pointers_of}
use Rattle.key_meaning.specs.SoundLaws.{IsIn}
use Rattle.key_triggers.specs.Changes.{Values, pointers_in, values_after, values_before}
use Rattle.key_triggers.specs.Expanding.{owners_of}
use Rattle.key_triggers.specs.Owners.{Owners, held_by, left_by, owned}
use Rattle.key_triggers.specs.Positions.{block_pos}
use Rattle.key_triggers.proofs.Counting.{same_pos}
use Rattle.key_triggers.proofs.Placing.{count-append, count-cons, count-entries, one_if, pos_of, pos_tests}
use Rattle.key_triggers.proofs.Sums.{no_entries, of_maybe, total-without}
use Rattle.vol_types.specs.KeyMaps.{Entries, KeyMap}
use Rattle.vol_types.specs.declared.keys.Update.{Update}
use Rattle.vol_types.specs.MapLaws.{IsMap-with_value, value_at-with_value, value_at-without}
use Rattle.vol_types.specs.Maps.{IsMap, value_at, with_value, without}
use Rattle.vol_types.specs.PositionLaws.{pos_total}
use Rattle.vol_types.specs.Positions.{pos_cmp}
use Rattle.vol_types.specs.declared.pointers.Place.{Place}
use Rattle.vol_types.specs.declared.pointers.Pointer.{Pointer}
use Rattle.vol_types.specs.declared.positions.Pos.{Pos}
use Rattle.vol_types.specs.declared.values.Value.{Value}

module _ (dev block : ℕ) where
  -- whether a pointer begins at the block
  abbrev begins : Pointer → Bool
  begins pointer = pointer.place.dev == dev && pointer.place.block == block

  -- whether a pointer of one of these values does
  abbrev pub any_begins : Values → Bool
  any_begins [] = false
  any_begins (entry ∷ values) = has_pointer_at dev block entry.1 || any_begins values

  owned_at : (owner : Option Pos) (pointers : List Pointer) (owners : Owners) → value_at pos_cmp (pos_of dev block) (owned owner pointers owners) ≡ cond (list_any begins pointers) (Some owner) (value_at pos_cmp (pos_of dev block) owners)
  owned_at owner [] owners = refl
  owned_at owner (pointer ∷ pointers) owners =
      owned_at owner pointers (with_value pos_cmp (block_pos pointer.place) owner owners)
      ∙ ap (λ (o : Option (Option Pos)). cond (list_any begins pointers) (Some owner) o) (value_at-with_value pos_total (block_pos pointer.place) owner (pos_of dev block) owners ∙ ap (λ b. cond b (Some owner) (value_at pos_cmp (pos_of dev block) owners)) (pos_tests pointer.place.dev pointer.place.block dev block))
      ∙ by (begins pointer) (list_any begins pointers)
    where
      by : (b c : Bool) → cond c (Some owner) (cond b (Some owner) (value_at pos_cmp (pos_of dev block) owners)) ≡ cond (b || c) (Some owner) (value_at pos_cmp (pos_of dev block) owners)
      by true true = refl
      by true false = refl
      by false true = refl
      by false false = refl

  any_pointer : (value : Option Value) → list_any begins (pointers_in value) ≡ has_pointer_at dev block value
  any_pointer None = refl
  any_pointer (Some value) = refl

  owned_by : (owner : Option Pos) (value : Option Value) (owners : Owners) → value_at pos_cmp (pos_of dev block) (owned owner (pointers_in value) owners) ≡ cond (has_pointer_at dev block value) (Some owner) (value_at pos_cmp (pos_of dev block) owners)
  owned_by owner value owners = owned_at owner (pointers_in value) owners ∙ ap (λ b. cond b (Some owner) (value_at pos_cmp (pos_of dev block) owners)) (any_pointer value)

  -- A block at which a pointer of the values begins is left.
  pub left_at : (values : Values) (owners : Owners) → value_at pos_cmp (pos_of dev block) (left_by values owners) ≡ cond (any_begins values) (Some None) (value_at pos_cmp (pos_of dev block) owners)
  left_at [] owners = refl
  left_at (entry ∷ values) owners =
      left_at values (owned None (pointers_in entry.1) owners)
      ∙ ap (λ (o : Option (Option Pos)). cond (any_begins values) (Some None) o) (owned_by None entry.1 owners)
      ∙ by (has_pointer_at dev block entry.1) (any_begins values)
    where
      by : (b c : Bool) → cond c (Some None) (cond b (Some None) (value_at pos_cmp (pos_of dev block) owners)) ≡ cond {A = Option (Option Pos)} (b || c) (Some None) (value_at pos_cmp (pos_of dev block) owners)
      by true true = refl
      by true false = refl
      by false true = refl
      by false false = refl

  -- A block at which none of them begins stays as it is,
  pub held_none : (values : Values) (owners : Owners) → any_begins values ≡ false → value_at pos_cmp (pos_of dev block) (held_by values owners) ≡ value_at pos_cmp (pos_of dev block) owners
  held_none [] owners none = refl
  held_none (entry ∷ values) owners none =
      let parts = neither (has_pointer_at dev block entry.1) (any_begins values) none in
      held_none values (owned (Some entry.0) (pointers_in entry.1) owners) parts.1
      ∙ owned_by (Some entry.0) entry.1 owners ∙ ap (λ b. cond b (Some (Some entry.0)) (value_at pos_cmp (pos_of dev block) owners)) parts.0
    where
      neither : (b c : Bool) → (b || c) ≡ false → (b ≡ false) × (c ≡ false)
      neither true true is = absurd (false≢true (sym is))
      neither true false is = absurd (false≢true (sym is))
      neither false true is = absurd (false≢true (sym is))
      neither false false is = (refl, refl)

  -- One of the values has a pointer that begins at the block, and the block belongs to it.
  pub record IsHeld (values : Values) (owners : Owners) : Type 0 where
    pub entry : Pos × Option Value
    pub member : IsIn entry values
    pub here : has_pointer_at dev block entry.1 ≡ true
    pub owner : value_at pos_cmp (pos_of dev block) (held_by values owners) ≡ Some (Some entry.0)

  -- and one at which some begins belongs to one of these.
  pub held_some : (values : Values) (owners : Owners) → any_begins values ≡ true → IsHeld values owners
  held_some [] owners some = absurd (false≢true some)
  held_some (entry ∷ values) owners some = by (any_begins values) refl (λ later. held_some values (owned (Some entry.0) (pointers_in entry.1) owners) later)
    where
      this : (b : Bool) → (b || false) ≡ true → b ≡ true
      this true is = refl
      this false is = is

      by : (c : Bool) → any_begins values ≡ c → (any_begins values ≡ true → IsHeld values (owned (Some entry.0) (pointers_in entry.1) owners)) → IsHeld (entry ∷ values) owners
      by true later rest =
          let held = rest later in
          record { entry = held.entry; member = inr held.member; here = held.here; owner = held.owner }
      by false none rest =
          let here : has_pointer_at dev block entry.1 ≡ true = this (has_pointer_at dev block entry.1) (sym (ap (λ c. has_pointer_at dev block entry.1 || c) none) ∙ some) in
          record {
            entry = entry;
            member = inl refl;
            here = here;
            owner = held_none values (owned (Some entry.0) (pointers_in entry.1) owners) none ∙ owned_by (Some entry.0) entry.1 owners ∙ ap (λ b. cond b (Some (Some entry.0)) (value_at pos_cmp (pos_of dev block) owners)) here;
          }

  -- A value that is at a position and has such a pointer is one with such a pointer.
  pub any_at : (values : Values) (pos : Pos) (value : Option Value) → value_at pos_cmp pos values ≡ Some value → has_pointer_at dev block value ≡ true → any_begins values ≡ true
  any_at [] pos value there has = absurd (none-some value there)
  any_at (entry ∷ values) pos value there has = by (is_at (pos_cmp pos) entry.0) there (λ is. any_at values pos value is has)
    where
      either : (b c : Bool) → c ≡ true → (b || c) ≡ true
      either true c is = refl
      either false c is = is

      by : (b : Bool) → cond b (Some entry.1) (value_at pos_cmp pos values) ≡ Some value → (value_at pos_cmp pos values ≡ Some value → any_begins values ≡ true) → (has_pointer_at dev block entry.1 || any_begins values) ≡ true
      by true is later = ap (λ b. b || any_begins values) (ap (has_pointer_at dev block) (same_Some entry.1 value is) ∙ has)
      by false is later = either (has_pointer_at dev block entry.1) (any_begins values) (later is)

  -- the block
  abbrev this_place : Place
  this_place = record { dev = dev; block = block }

  -- A pointer that begins at the block uses it.
  uses_first : (blocks : ℕ) (pointers : List Pointer) → 1 ≤ blocks → list_any begins pointers ≡ true → 1 ≤ count_by (is_place this_place) (flat_map (places_behind blocks) pointers)
  uses_first blocks [] some has = absurd (false≢true has)
  uses_first blocks (pointer ∷ pointers) some has =
      let parts = count-append (is_place this_place) (places_behind blocks pointer) (flat_map (places_behind blocks) pointers) in
      by (begins pointer) refl has parts (λ more. uses_first blocks pointers some more)
    where
      first : (n : ℕ) → 1 ≤ n → begins pointer ≡ true → 1 ≤ count_by (is_place this_place) (map (λ index. place_at index pointer) (range_with_len 0 n))
      first zero some is = absurd (omega (arith, some))
      first (suc n) some is =
          let one : one_if (is_place this_place (place_at 0 pointer)) ≡ 1 = ap one_if (both_true (eq-eqb dev pointer.place.dev (sym (both_parts (pointer.place.dev == dev) (pointer.place.block == block) refl refl is).0)) (eq-eqb block (pointer.place.block + 0) (omega (arith, (both_parts (pointer.place.dev == dev) (pointer.place.block == block) refl refl is).1)))) in
          omega (arith, count-cons (is_place this_place) (place_at 0 pointer) (map (λ index. place_at index pointer) (range_with_len 1 n)), one)
        where
          both_parts : (s t : Bool) → (pointer.place.dev == dev) ≡ s → (pointer.place.block == block) ≡ t → (s && t) ≡ true → (pointer.place.dev ≡ dev) × (pointer.place.block ≡ block)
          both_parts true true one other is = (eqb-true pointer.place.dev dev one, eqb-true pointer.place.block block other)
          both_parts true false one other is = absurd (false≢true is)
          both_parts false true one other is = absurd (false≢true is)
          both_parts false false one other is = absurd (false≢true is)

      by : (b : Bool) → begins pointer ≡ b → (b || list_any begins pointers) ≡ true
          → count_by (is_place this_place) (flat_map (places_behind blocks) (pointer ∷ pointers)) ≡ count_by (is_place this_place) (places_behind blocks pointer) + count_by (is_place this_place) (flat_map (places_behind blocks) pointers)
          → (list_any begins pointers ≡ true → 1 ≤ count_by (is_place this_place) (flat_map (places_behind blocks) pointers))
          → 1 ≤ count_by (is_place this_place) (flat_map (places_behind blocks) (pointer ∷ pointers))
      by true is has parts rest = let here = first blocks some is in omega (arith, parts, here)
      by false is has parts rest = let later = rest has in omega (arith, parts, later)

  -- Where no place is used twice, at most one extent has a pointer that begins at the block.
  pub one_begins : (entries : Entries) → IsMap pos_cmp entries → ((place : Place) → count_by (is_place place) (flat_map (λ (entry : Pos × Value). places_of entry.1) entries) ≤ 1)
      → (p q : Pos) (one other : Value) → value_at pos_cmp p entries ≡ Some one → value_at pos_cmp q entries ≡ Some other → 1 ≤ blocks_of one → 1 ≤ blocks_of other
      → has_pointer_at dev block (Some one) ≡ true → has_pointer_at dev block (Some other) ≡ true → p ≡ q
  one_begins entries is once p q one other there also some more has too = by (is_at (pos_cmp p) q) refl
    where
      by : (b : Bool) → is_at (pos_cmp p) q ≡ b → p ≡ q
      by true at = same_pos p q at
      by false apart =
          let all = total-without (λ value. count_by (is_place this_place) (places_of value)) p entries in
          let rest = total-without (λ value. count_by (is_place this_place) (places_of value)) q (without pos_cmp p entries) in
          let still : value_at pos_cmp q (without pos_cmp p entries) ≡ Some other = value_at-without pos_total p q entries is ∙ ap (λ b. cond b None (value_at pos_cmp q entries)) apart ∙ also in
          let first = uses_first (blocks_of one) (pointers_of one) some has in
          let second = uses_first (blocks_of other) (pointers_of other) more too in
          absurd (omega (
            arith,
            all,
            rest,
            ap (of_maybe (λ value. count_by (is_place this_place) (places_of value))) there,
            ap (of_maybe (λ value. count_by (is_place this_place) (places_of value))) still,
            first,
            second,
            count-entries (is_place this_place) entries,
            once this_place,
          ))

owned_map : (owner : Option Pos) (pointers : List Pointer) (owners : Owners) → IsMap pos_cmp owners → IsMap pos_cmp (owned owner pointers owners)
owned_map owner [] owners is = is
owned_map owner (pointer ∷ pointers) owners is = owned_map owner pointers (with_value pos_cmp (block_pos pointer.place) owner owners) (IsMap-with_value pos_total (block_pos pointer.place) owner owners is)

left_map : (values : Values) (owners : Owners) → IsMap pos_cmp owners → IsMap pos_cmp (left_by values owners)
left_map [] owners is = is
left_map (entry ∷ values) owners is = left_map values (owned None (pointers_in entry.1) owners) (owned_map None (pointers_in entry.1) owners is)

held_map : (values : Values) (owners : Owners) → IsMap pos_cmp owners → IsMap pos_cmp (held_by values owners)
held_map [] owners is = is
held_map (entry ∷ values) owners is = held_map values (owned (Some entry.0) (pointers_in entry.1) owners) (owned_map (Some entry.0) (pointers_in entry.1) owners is)

-- The owners by updates are a map.
pub owners_map : (keys : KeyMap) (updates : List Update) → IsMap pos_cmp (owners_of keys updates)
owners_map keys updates = held_map (values_after updates []) (left_by (values_before keys updates []) []) (left_map (values_before keys updates []) [] (no_entries (Option Pos)))
