-- Sums over the values of a map, when keys are taken out of it.
use Rattle.std.proofs.Common.{◌≡◌, ℕ, ◌+◌, Bool, true, false, cond, [], ◌∷◌, Option, Some, None, refl, sym, ap, ◌∙◌, arith, ⊎_elim}
use Rattle.std.specs.BTreeMap.{is_at}
use Rattle.std.specs.List.Sorted.{IsStrictlySortedBy}
use Rattle.std.specs.Map.{keys_of}
use Rattle.std.specs.Ordering.{is_eq}
use Rattle.std.proofs.lemmas.Cmp.{eq_by_cmp_equiv, tied_itself}
use Rattle.std.proofs.lemmas.Map.{lookup-none}
use Rattle.std.proofs.lemmas.Map.Entries.{none_past_head}
use Rattle.std.proofs.lemmas.Map.Keys.{IsDistinct-from_sorted, sorted_tail}
use Rattle.std.proofs.lemmas.Option.{none-some}
use Rattle.vol_types.specs.KeyMaps.{Entries}
use Rattle.vol_types.specs.MapLaws.{IsMap-without, value_at-without}
use Rattle.vol_types.specs.Maps.{IsMap, value_at, without}
use Rattle.vol_types.specs.PositionLaws.{pos_total}
use Rattle.vol_types.specs.Positions.{pos_cmp}
use Rattle.vol_types.specs.declared.positions.Pos.{Pos}
use Rattle.vol_types.specs.declared.values.Value.{Value}
use Rattle.key_meaning.specs.SoundLaws.{IsIn}
use Rattle.key_triggers.specs.Changes.{Values}

-- what a value counts for, if there is one
abbrev pub of_maybe : (Value → ℕ) → Option Value → ℕ
of_maybe count None = 0
of_maybe count (Some value) = count value

-- what all values of a map count for
abbrev pub total : (Value → ℕ) → Entries → ℕ
total count [] = 0
total count (entry ∷ entries) = count entry.1 + total count entries

-- what all values of some positions count for
abbrev pub sum_of : (Value → ℕ) → Values → ℕ
sum_of count [] = 0
sum_of count (entry ∷ values) = of_maybe count entry.1 + sum_of count values

-- the map without some positions
abbrev pub without_all : Values → Entries → Entries
without_all [] entries = entries
without_all (entry ∷ values) entries = without_all values (without pos_cmp entry.0 entries)

-- A map without a key counts for as much less as the key's value does.
pub total-without : (count : Value → ℕ) (pos : Pos) (entries : Entries) → total count (without pos_cmp pos entries) + of_maybe count (value_at pos_cmp pos entries) ≡ total count entries
total-without count pos [] = refl
total-without count pos (entry ∷ entries) = by (is_at (pos_cmp pos) entry.0) (total-without count pos entries)
  where
    by : (b : Bool) → total count (without pos_cmp pos entries) + of_maybe count (value_at pos_cmp pos entries) ≡ total count entries
        → total count (cond b entries (entry ∷ without pos_cmp pos entries)) + of_maybe count (cond b (Some entry.1) (value_at pos_cmp pos entries)) ≡ count entry.1 + total count entries
    by true rest = omega arith
    by false rest = omega (arith, rest)

-- The values say what stands at their positions.
pub record StandIn (entries : Entries) (values : Values) : Type 0 where
  pub is_map : IsMap pos_cmp entries
  pub positions : IsMap pos_cmp values
  pub each : (pos : Pos) (value : Option Value) → value_at pos_cmp pos values ≡ Some value → value_at pos_cmp pos entries ≡ value

-- No entries are a map.
pub no_entries : (X : Type 0) → IsMap {X = X} pos_cmp []
unfolding IsStrictlySortedBy
no_entries X = tt

-- whether two positions are one doesn't depend on which is asked for
pub turned : (p q : Pos) → is_at (pos_cmp p) q ≡ is_at (pos_cmp q) p
turned p q = (eq_by_cmp_equiv pos_total).symm p q

-- a position is at itself
pub at_itself : (pos : Pos) → is_at (pos_cmp pos) pos ≡ true
at_itself pos = ap is_eq (tied_itself pos_total pos)

-- The first of some positions isn't a later one.
not_later : (entry : Pos × Option Value) (values : Values) → IsMap pos_cmp (entry ∷ values) → (pos : Pos) (value : Option Value) → value_at pos_cmp pos values ≡ Some value → is_at (pos_cmp pos) entry.0 ≡ false
not_later entry values rises pos value there = by (is_at (pos_cmp pos) entry.0) refl
  where
    by : (b : Bool) → is_at (pos_cmp pos) entry.0 ≡ b → is_at (pos_cmp pos) entry.0 ≡ false
    by true same =
        let none : value_at pos_cmp pos values ≡ None = lookup-none (is_at (pos_cmp pos)) values (none_past_head (eq_by_cmp_equiv pos_total) pos entry values (IsDistinct-from_sorted pos_cmp (keys_of (entry ∷ values)) rises) same) in
        absurd (none-some value (sym none ∙ there))
    by false apart = apart

-- What stands at later positions stands there without the first one.
stand_later : (entries : Entries) (entry : Pos × Option Value) (values : Values) → StandIn entries (entry ∷ values) → StandIn (without pos_cmp entry.0 entries) values
stand_later entries entry values stand = record {
  is_map = IsMap-without pos_total entry.0 entries stand.is_map;
  positions = sorted_tail pos_cmp entry.0 (keys_of values) stand.positions;
  each = λ pos value there.
      let apart = not_later entry values stand.positions pos value there in
      value_at-without pos_total entry.0 pos entries stand.is_map
      ∙ ap (λ b. cond b None (value_at pos_cmp pos entries)) (turned entry.0 pos ∙ apart)
      ∙ stand.each pos value (ap (λ b. cond b (Some entry.1) (value_at pos_cmp pos values)) apart ∙ there);
}

-- A map without some positions counts for as much less as their values do.
pub total-without_all : (count : Value → ℕ) (values : Values) (entries : Entries) → StandIn entries values → total count (without_all values entries) + sum_of count values ≡ total count entries
total-without_all count [] entries stand = omega arith
total-without_all count (entry ∷ values) entries stand =
    let rest = total-without_all count values (without pos_cmp entry.0 entries) (stand_later entries entry values stand) in
    let first = total-without count entry.0 entries in
    let is : value_at pos_cmp entry.0 entries ≡ entry.1 = stand.each entry.0 entry.1 (ap (λ b. cond b (Some entry.1) (value_at pos_cmp entry.0 values)) (at_itself entry.0)) in
    omega (arith, rest, first, ap (of_maybe count) is)

-- A member of a map is at its position.
pub found_at : (entry : Pos × Option Value) (values : Values) → IsMap pos_cmp values → IsIn entry values → value_at pos_cmp entry.0 values ≡ Some entry.1
found_at entry [] rises is = absurd is
found_at entry (first ∷ values) rises is = ⊎_elim
    (λ (same : entry ≡ first). ap (λ b. cond b (Some first.1) (value_at pos_cmp entry.0 values)) (ap (λ (e : Pos × Option Value). is_at (pos_cmp e.0) first.0) same ∙ at_itself first.0) ∙ sym (ap (λ (e : Pos × Option Value). Some e.1) same))
    (λ (later : IsIn entry values).
    let there = found_at entry values (sorted_tail pos_cmp first.0 (keys_of values) rises) later in
    ap (λ b. cond b (Some first.1) (value_at pos_cmp entry.0 values)) (not_later first values rises entry.0 entry.1 there) ∙ there)
    is
