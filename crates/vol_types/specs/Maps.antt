-- Finite maps as the list of their entries, in the order of their keys.
use Rattle.std.specs.Prelude.{Option, None, Some, List}
use Rattle.std.specs.declared.cmp.Ordering.{Ordering}
use Rattle.std.specs.Map.{lookup, keys_of, remove_entry}
use Rattle.std.specs.List.Sorted.{IsStrictlySortedBy}
use Rattle.std.specs.BTreeMap.{is_at, insert_entry}

module _ {K X : Type 0} (cmp : K → K → Ordering) where
  -- Each key is above the one before it.
  abbrev pub IsMap : List (K × X) → Type 0
  IsMap entries = IsStrictlySortedBy cmp (keys_of entries)

  -- the value at a key
  abbrev pub value_at : K → List (K × X) → Option X
  value_at key entries = lookup (is_at (cmp key)) entries

  -- the entries with a value at a key, whether or not there was one
  abbrev pub with_value : K → X → List (K × X) → List (K × X)
  with_value key value entries = insert_entry cmp entries key value

  -- the entries without a key
  abbrev pub without : K → List (K × X) → List (K × X)
  without key entries = remove_entry (is_at (cmp key)) entries

  -- the entries with this value at a key, or without the key where no value is given
  abbrev pub put_at : K → Option X → List (K × X) → List (K × X)
  put_at key None entries = without key entries
  put_at key (Some value) entries = with_value key value entries
