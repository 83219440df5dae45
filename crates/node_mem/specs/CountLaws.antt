-- How many bytes the keys of entries take after a value was put or taken away, and what still holds of each entry.
use Rattle.std.proofs.Common.{◌≡◌, ◌+◌, ◌*◌, ◌≤◌, Option, Some, None, [], ◌∷◌, ◌++◌, length, refl, sym, ap, ◌∙◌, arith}
use Rattle.std.specs.Prelude.{All, sum_by, unwrap_or, option_map, IfSome}
use Rattle.std.specs.Map.{keys_of, values_of}
use Rattle.std.specs.BTreeMap.{is_at}
use Rattle.std.proofs.lemmas.List.{map-append}
use Rattle.std.proofs.lemmas.List.Elements.{All-weaker}
use Rattle.std.proofs.lemmas.List.Sums.{sum_by-append, sum_by-cons, sum_by-le}
use Rattle.std.proofs.lemmas.Map.Entries.{length-values_of, sum_by-insert_entry, sum_by-remove_entry}
use Rattle.std.proofs.lemmas.Map.Views.{All-keys-insert_entry, All-values-insert_entry, All-map-remove_entry, IfSome-lookup_from_All}
use Rattle.vol_types.specs.KeyMaps.{Entries, keys_in}
use Rattle.vol_types.specs.LengthLaws.{short_key}
use Rattle.vol_types.specs.Lengths.{key_length_of}
use Rattle.vol_types.specs.Maps.{IsMap, value_at, put_at}
use Rattle.vol_types.specs.PositionLaws.{pos_total}
use Rattle.vol_types.specs.Positions.{pos_cmp}
use Rattle.vol_types.specs.Ranges.{IsKeyValue, IsValue}
use Rattle.vol_types.specs.Sets.{set_length_of}
use Rattle.vol_types.specs.declared.positions.Pos.{Pos}
use Rattle.vol_types.specs.declared.values.Value.{Value}
use Rattle.node_mem.specs.Counts.{length_of, lengths_of}

-- The bytes of the keys of entries are those of their values.
pub sum_keys : (entries : Entries) → sum_by (λ key. key_length_of key.value) (keys_in entries) ≡ lengths_of entries
sum_keys [] = refl
sum_keys (e ∷ entries) =
    sum_by-cons (λ key. key_length_of key.value) (record { pos = e.0; value = Some e.1 }) (keys_in entries)
    ∙ ap (λ n. key_length_of (Some e.1) + n) (sum_keys entries)
    ∙ sym (sum_by-cons (λ value. key_length_of (Some value)) e.1 (values_of entries))

length_of_option : (o : Option Value) → unwrap_or (option_map (λ value. key_length_of (Some value)) o) 0 ≡ length_of o
length_of_option None = refl
length_of_option (Some value) = refl

-- The bytes of joined entries are those of both added.
pub lengths-append : (first second : Entries) → lengths_of (first ++ second) ≡ lengths_of first + lengths_of second
lengths-append first second =
    ap (sum_by (λ value. key_length_of (Some value))) (map-append (λ (e : Pos × Value). e.1) first second) ∙ sum_by-append (λ value. key_length_of (Some value)) (values_of first) (values_of second)

module _ (pos : Pos) (entries : Entries) (rises : IsMap pos_cmp entries) where
  -- Once a value is put at a position or taken away, the bytes and those of what was there are the bytes before and those of what is put.
  pub length-put_at : (value : Option Value) → set_length_of (keys_in (put_at pos_cmp pos value entries)) + length_of (value_at pos_cmp pos entries) ≡ set_length_of (keys_in entries) + length_of value
  length-put_at None =
      omega (arith, sum_keys entries, sum_keys (put_at pos_cmp pos None entries), length_of_option (value_at pos_cmp pos entries), sum_by-remove_entry (λ value. key_length_of (Some value)) (is_at (pos_cmp pos)) entries)
  length-put_at (Some value) =
      omega (arith, sum_keys entries, sum_keys (put_at pos_cmp pos (Some value) entries), length_of_option (value_at pos_cmp pos entries), sum_by-insert_entry (λ value. key_length_of (Some value)) pos_total entries pos value rises)

-- What holds of each value still does after a value was put for which it holds, or one was taken away.
pub values-put_at : (P : Value → Type 0) (pos : Pos) (value : Option Value) (entries : Entries) → All P (values_of entries) → IfSome value P → All P (values_of (put_at pos_cmp pos value entries))
values-put_at P pos None entries all put = All-map-remove_entry (is_at (pos_cmp pos)) (λ e. e.1) P entries all
values-put_at P pos (Some value) entries all put = All-values-insert_entry pos_cmp pos value P entries all put

-- What holds of each position still does after a value was taken away.
pub keys-without : (P : Pos → Type 0) (pos : Pos) (entries : Entries) → All P (keys_of entries) → All P (keys_of (put_at pos_cmp pos None entries))
keys-without P pos entries all = All-map-remove_entry (is_at (pos_cmp pos)) (λ e. e.0) P entries all

-- And it does after a value was put at a position for which it holds.
pub keys-put_at : (P : Pos → Type 0) (pos : Pos) (value : Option Value) (entries : Entries) → All P (keys_of entries) → P pos → All P (keys_of (put_at pos_cmp pos value entries))
keys-put_at P pos None entries all put = keys-without P pos entries all
keys-put_at P pos (Some value) entries all put = All-keys-insert_entry pos_cmp pos value P entries all put

-- The value at a position is in range, if there is one, where all are.
pub value_at-in_range : (pos : Pos) (entries : Entries) → All IsValue (values_of entries) → IsKeyValue (value_at pos_cmp pos entries)
value_at-in_range pos entries all = found (value_at pos_cmp pos entries) (IfSome-lookup_from_All IsValue (is_at (pos_cmp pos)) entries all)
  where
    found : (o : Option Value) → IfSome o IsValue → IsKeyValue o
    found None p = tt
    found (Some value) p = p

-- A set takes at most 56 bytes, and 2,221 for each key.
pub set_length-le : (entries : Entries) → All IsValue (values_of entries) → set_length_of (keys_in entries) ≤ 56 + 2221 * length entries
set_length-le entries values =
    let each = All-weaker IsValue (λ v. key_length_of (Some v) ≤ 2221) (λ v is. short_key (Some v) is) (values_of entries) values in
    omega (arith, sum_keys entries, sum_by-le (λ v. key_length_of (Some v)) 2221 (values_of entries) each, length-values_of entries)
