-- What a view has shown of a key map, and how many blocks it was told the longest extent or hole to have.
use Rattle.std.specs.Prelude.{◌≡◌, ℕ, ◌-◌, ◌⊎◌, List, [], ◌∷◌, ◌++◌, length, option_map, slice_get, unwrap_or}
use Rattle.snap_tree.specs.Snaps.{Snaps}
use Rattle.vol_types.specs.KeyMaps.{KeyMap}
use Rattle.vol_types.specs.declared.keys.Key.{Key}
use Rattle.vol_types.specs.declared.queries.Look.{Look}
use Rattle.vol_types.specs.declared.queries.Query.{Query}
use Rattle.extent_ops.specs.Looking.{AreExtentsUpTo, reach}
use Rattle.key_view.specs.Seen.{IsSeen}
use Rattle.file_plan.specs.Sizes.{blocks_up_to, cut_size}
use Rattle.file_plan.specs.declared.change.Change.{Change}
use Rattle.file_plan.specs.declared.change.Change.TheVariants.{Put, Cut}

-- The key map gives the looks, its snapshot ids are those of the tree, and no extent or hole of it has more blocks than this.
pub record IsSeenUpTo (keys : KeyMap) (looks : List Look) (tree : Snaps) (longest : ℕ) : Type 0 where
  pub is_seen : IsSeen keys looks tree
  pub up_to : AreExtentsUpTo longest keys

-- No look was made, or one that asks this.
abbrev pub MayLook : Query → List Look → List Look → Type 0
MayLook query old new = (new ≡ old) ⊎ ((answer : List Key) × (new ≡ old ++ record { query = query; answer = answer } ∷ []))

-- the last block of extents; 0 where there are none
abbrev pub last_block : List Key → ℕ
last_block extents = unwrap_or (option_map (λ (key : Key). key.pos.offset - 1) (slice_get extents (length extents - 1))) 0

-- No look was made, or one at the keys that end between the first block which the change puts or cuts and so many blocks behind the
-- last one.
abbrev pub MayLookFor : Change → ℕ → ℕ → ℕ → List Look → List Look → Type 0
MayLookFor (Put first extents) number size longest old new = MayLook (reach number first (last_block extents) longest) old new
MayLookFor (Cut new_size) number size longest old new = MayLook (reach number (blocks_up_to (cut_size size new_size)) (blocks_up_to size - 1) longest) old new
