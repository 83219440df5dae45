-- What a view has shown: the looks that it has made, and the snapshot ids that it has told.
use Rattle.std.specs.Prelude.{◌≡◌, ℕ, List, ◌++◌}
use Rattle.key_meaning.specs.Visible.{snaps_of}
use Rattle.snap_tree.specs.Snaps.{Snaps}
use Rattle.vol_types.specs.KeyMaps.{KeyMap, IsKeyMap, GivesLooks}
use Rattle.vol_types.specs.declared.queries.Look.{Look}

-- The key map gives the looks, and its snapshot ids are those of the tree.
pub record IsSeen (keys : KeyMap) (looks : List Look) (tree : Snaps) : Type 0 where
  pub is_map : IsKeyMap keys
  pub gives : GivesLooks keys looks
  pub ids : snaps_of keys ≡ tree

-- The looks are those of before, and maybe further ones after them.
pub record GoesOn (old new : List Look) : Type 0 where
  pub more : List Look
  pub is : new ≡ old ++ more
