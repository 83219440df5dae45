-- When two images hold the same of the blocks that a key map names.
use Rattle.std.specs.Prelude.{◌≡◌, ℕ, ◌<◌, All, length}
use Rattle.vol_types.specs.KeyMaps.{KeyMap}
use Rattle.vol_types.specs.declared.positions.Pos.{Pos}
use Rattle.vol_types.specs.declared.values.Extent.{Extent}
use Rattle.vol_types.specs.declared.values.Value.{Value}
use Rattle.vol_types.specs.declared.values.Value.TheVariants as values
use Rattle.key_meaning.specs.Blocks.{block_of}
use Rattle.key_meaning.specs.Forest.{Read}

-- Both give the same for each block of the extent.
pub record AgreeOnExtent (one other : Read) (extent : Extent) : Type 0 where
  pub each : (index : ℕ) → index < length extent.digests → one (block_of extent index).places (block_of extent index).digest ≡ other (block_of extent index).places (block_of extent index).digest

-- Both give the same for each block of the entry, if it is an extent.
abbrev pub AgreeOnEntry : Read → Read → Pos × Value → Type 0
AgreeOnEntry one other entry = (extent : Extent) → entry.1 ≡ values.Extent extent → AgreeOnExtent one other extent

-- Both give the same for each block of each extent of the key map.
pub record AgreeOnBlocks (keys : KeyMap) (one other : Read) : Type 0 where
  pub each : All (AgreeOnEntry one other) keys.extents
