-- What stays true of the keys and the counted leaves when a value is put or taken away.
use Rattle.std.proofs.Common.{◌≡◌, ℕ, ◌+◌, ◌-◌, ◌^◌, ◌<◌, ◌≤◌, Bool, true, false, cond, Option, Some, List, [], ◌∷◌, length, refl, sym, ap, ◌∙◌, subst, arith}
use Rattle.std.specs.Prelude.{is_some}
use Rattle.std.specs.BTreeMap.{is_at}
use Rattle.std.specs.List.{filter}
use Rattle.std.specs.Map.{keys_of}
use Rattle.std.proofs.lemmas.Option.{same_Some}
use Rattle.node_mem.specs.CountLaws.{set_length-le}
use Rattle.node_mem.specs.Counts.{length_of}
use Rattle.node_mem.specs.RangeLaws.{All-part}
use Rattle.tree_keys.specs.Counts.{AreCounted, leaf_bytes}
use Rattle.tree_keys.specs.Cuts.{Cut, IsCut, end_of, is_end, leaf_entries, start_of, with_entries}
use Rattle.tree_keys.specs.LeafLaws.{IsCut-put_at, leaf_bytes-put_at, leaf_bytes-untouched}
use Rattle.tree_keys.specs.OrderLaws.{at_turned, same_from_at}
use Rattle.tree_keys.specs.LeafLaws.{is_end-keys}
use Rattle.vol_types.specs.KeyMaps.{Entries}
use Rattle.vol_types.specs.MapLaws.{value_at-with_value}
use Rattle.vol_types.specs.Maps.{put_at, value_at, with_value}
use Rattle.vol_types.specs.PositionLaws.{pos_total}
use Rattle.vol_types.specs.Positions.{is_within, pos_cmp}
use Rattle.vol_types.specs.Ranges.{IsKeyValue, IsValue}
use Rattle.vol_types.specs.Widths.{PosFits}
use Rattle.vol_types.specs.declared.positions.Pos.{Pos}
use Rattle.vol_types.specs.declared.values.Value.{Value}

-- the keys with the leaves that are counted
abbrev pub cut_of : Entries → List (Pos × ℕ) → Cut
cut_of entries leaves = record { entries = entries; ends = keys_of leaves }

-- what the keys keep beside their values, as their `impl Model` says
abbrev pub IsKept : Entries → List (Pos × ℕ) → Type 0
IsKept entries leaves = IsCut (cut_of entries leaves) × AreCounted (cut_of entries leaves) leaves

-- a leaf that is counted is one
pub counted_end : (end : Pos) (bytes : ℕ) (leaves : List (Pos × ℕ)) → value_at pos_cmp end leaves ≡ Some bytes → is_end end (keys_of leaves) ≡ true
counted_end end bytes leaves found = is_end-keys end leaves ∙ ap is_some found

-- a part is no longer than the whole
pub length-filter-le : {X : Type 0} (p : X → Bool) (xs : List X) → length (filter p xs) ≤ length xs
length-filter-le p [] = omega arith
length-filter-le p (x ∷ xs) = by (p x) (length-filter-le p xs)
  where
    by : (b : Bool) → length (filter p xs) ≤ length xs → length (cond b (x ∷ filter p xs) (filter p xs)) ≤ length (x ∷ xs)
    by true le = omega (arith, le)
    by false le = omega (arith, le)

module _ (entries : Entries) (leaves : List (Pos × ℕ)) (kept : IsKept entries leaves) (end : Pos) (bytes : ℕ) (found : value_at pos_cmp end leaves ≡ Some bytes) where
  leaf : Entries
  leaf = leaf_entries end (cut_of entries leaves)

  -- the bytes of a leaf fit, and those of a key more
  pub bytes-fit : length entries < 2 ^ 63 → bytes < 2 ^ 96
  unfolding leaf
  bytes-fit few =
      let values = All-part (λ (e : Pos × Value). e.1) IsValue IsValue (λ e. is_within (start_of end (keys_of leaves)) end e.0) (λ e test is. is) entries kept.0.in_range in
      omega (arith, few, kept.1.each end bytes found, set_length-le leaf values, length-filter-le (λ (e : Pos × Value). is_within (start_of end (keys_of leaves)) end e.0) entries)

  module _ (pos : Pos) (fits : PosFits pos) (covers : end ≡ end_of pos (keys_of leaves)) (value before : Option Value) (added removed : ℕ)
      (was : before ≡ value_at pos_cmp pos entries) (adds : added ≡ length_of value) (takes : removed ≡ length_of before) where
    changed : leaf_bytes end (with_entries (cut_of entries leaves) (put_at pos_cmp pos value entries)) + removed ≡ bytes + added
    changed =
        omega
        (arith, kept.1.each end bytes found, adds, takes, ap length_of was, leaf_bytes-put_at (cut_of entries leaves) kept.0 pos fits value end (counted_end end bytes leaves found) (sym covers))

    -- what was there weighs no more than all
    pub removed-le : removed ≤ bytes + added
    removed-le = omega (arith, changed)

    module _ (new : Entries) (new_leaves : List (Pos × ℕ)) (put : new ≡ put_at pos_cmp pos value entries) (counts : new_leaves ≡ with_value pos_cmp end (bytes + added - removed) leaves) (stay : keys_of new_leaves ≡ keys_of leaves) where
      same_leaf : (e : Pos) → leaf_bytes e (cut_of new new_leaves) ≡ leaf_bytes e (with_entries (cut_of entries leaves) (put_at pos_cmp pos value entries))
      same_leaf e = λ i. leaf_bytes e (record { entries = put i; ends = stay i })

      counted_by : (e : Pos) (n : ℕ) (b : Bool) → is_at (pos_cmp end) e ≡ b → cond b (Some (bytes + added - removed)) (value_at pos_cmp e leaves) ≡ Some n → n ≡ leaf_bytes e (cut_of new new_leaves)
      counted_by e n true at is =
          omega (arith, same_Some (bytes + added - removed) n is, changed)
          ∙ ap (λ p. leaf_bytes p (with_entries (cut_of entries leaves) (put_at pos_cmp pos value entries))) (same_from_at end e at)
          ∙ sym (same_leaf e)
      counted_by e n false at is =
          let other : is_at (pos_cmp e) (end_of pos (keys_of leaves)) ≡ false = ap (is_at (pos_cmp e)) (sym covers) ∙ at_turned e end ∙ at in
          kept.1.each e n is ∙ sym (leaf_bytes-untouched (cut_of entries leaves) kept.0 pos fits value e (counted_end e n leaves is) other) ∙ sym (same_leaf e)

      -- the keys with a value put or taken away are cut as before, and their leaves are counted
      pub kept-put_at : IsKeyValue value → IsKept new new_leaves
      kept-put_at range = (
        subst IsCut (λ i. record { entries = (sym put) i; ends = (sym stay) i }) (IsCut-put_at (cut_of entries leaves) kept.0 pos fits value range),
        record {
          each = λ e n is. counted_by e n (is_at (pos_cmp end) e) refl (sym (ap (value_at pos_cmp e) counts ∙ value_at-with_value pos_total end (bytes + added - removed) e leaves) ∙ is);
        },
      )
