-- A finite map that is made of a function and of the keys at which it is asked.
use Rattle.std.specs.Prelude.{Option, None, Some, List, [], ◌∷◌}
use Rattle.std.specs.declared.cmp.Ordering.{Ordering}
use Rattle.vol_types.specs.Maps.{with_value}

module _ {K X : Type 0} (cmp : K → K → Ordering) where
  -- the entries with this value at a key, or as they are where no value is given
  abbrev pub with_any : K → Option X → List (K × X) → List (K × X)
  with_any key None entries = entries
  with_any key (Some value) entries = with_value cmp key value entries

  -- the map that has at each of these keys what a function gives there, if it gives something
  abbrev pub map_over : (K → Option X) → List K → List (K × X)
  map_over value [] = []
  map_over value (key ∷ keys) = with_any key (value key) (map_over value keys)
