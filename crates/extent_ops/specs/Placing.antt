-- When fresh extents may be taken: their blocks lie where blocks of users may, and no other extent uses them.
use Rattle.std.specs.Prelude.{◌≤◌, ◌++◌, All, IfSome, count_by, flat_map, Option, Some, None, List, []}
use Rattle.vol_types.specs.KeyMaps.{KeyMap}
use Rattle.vol_types.specs.declared.keys.Key.{Key}
use Rattle.vol_types.specs.declared.layout.Layout.{Layout}
use Rattle.vol_types.specs.declared.pointers.Place.{Place}
use Rattle.vol_types.specs.declared.values.Value.{Value}
use Rattle.key_meaning.specs.Checks.{HasWellPlaced, is_place, places_of, used_places}

-- the places that a value uses, if there is one
abbrev pub places_maybe : Option Value → List Place
places_maybe None = []
places_maybe (Some value) = places_of value

-- the places that some keys use, each as often as it is used
abbrev pub places_in : List Key → List Place
places_in keys = flat_map (λ key. places_maybe key.value) keys

-- The fresh keys' blocks lie in buckets of users, and none is used twice, by them or by the extents that there are.
pub record MayBePlaced (map : KeyMap) (nodes : List Place) (layout : Layout) (fresh : List Key) : Type 0 where
  pub placed : All (λ key. IfSome key.value (λ value. HasWellPlaced nodes layout (key.pos, value))) fresh
  pub blocks : (place : Place) → count_by (is_place place) (used_places map ++ places_in fresh) ≤ 1
