-- When a plan's looks are those of a key map.
use Rattle.std.specs.Prelude.{◌≡◌, Option, IfSome, List}
use Rattle.key_meaning.specs.Visible.{snaps_of}
use Rattle.snap_tree.specs.Snaps.{Snaps}
use Rattle.vol_types.specs.KeyMaps.{GivesLooks, IsKeyMap, KeyMap}
use Rattle.vol_types.specs.declared.queries.Look.{Look}

-- The key map gives the looks, and its snapshot ids are those that were told, if they were.
pub record IsGiven (keys : KeyMap) (looks : List Look) (told : Option Snaps) : Type 0 where
  pub is_map : IsKeyMap keys
  pub gives : GivesLooks keys looks
  pub ids : IfSome told (λ tree. snaps_of keys ≡ tree)
