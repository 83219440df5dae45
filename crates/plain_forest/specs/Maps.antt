-- Finite maps as the list of their entries, in the order of their keys.
use Rattle.std.specs.Prelude.{ℕ, Option, List, [], ◌∷◌, if◌then◌else◌}
use Rattle.std.specs.Ordering.{nat_cmp}
use Rattle.std.specs.declared.cmp.Ordering.{Ordering}
use Rattle.std.specs.Cmp.Lexicographic.{slice_cmp}
use Rattle.std.specs.Map.{lookup}
use Rattle.std.specs.BTreeMap.{is_at, insert_entry}

-- names are in the order of their bytes
abbrev pub name_cmp : List ℕ → List ℕ → Ordering
name_cmp = slice_cmp nat_cmp

module _ {K X : Type 0} (cmp : K → K → Ordering) where
  -- the value at a key
  abbrev pub value_at : K → List (K × X) → Option X
  value_at key entries = lookup (is_at (cmp key)) entries

  -- the entries with a value at a key, whether or not there was one
  abbrev pub with_value : K → X → List (K × X) → List (K × X)
  with_value key value entries = insert_entry cmp entries key value

  -- the entries with the value at a key changed; the same entries where there is none
  abbrev pub changed_at : K → (X → X) → List (K × X) → List (K × X)
  changed_at key change [] = []
  changed_at key change (e ∷ es) = if is_at (cmp key) e.0 then (e.0, change e.1) ∷ es else e ∷ changed_at key change es
