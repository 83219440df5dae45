-- An image of which one metadata device is left whole, while the others may have lost blocks of the journal and of nodes.
use Rattle.std.specs.Prelude.{◌≡◌, ◌≢◌, ◌⊎◌, ℕ, ◌<◌, ◌≤◌, List, length, map, All, Option, Some, None, option_and_then}
use Rattle.std.specs.List.{AllZip}
use Rattle.dev_model.specs.Disk.{Image, block_at, zeros}
use Rattle.image_view.specs.Bases.{AgreeAt}
use Rattle.image_view.specs.Found.{Found}
use Rattle.key_meaning.specs.Blocks.{block_of}
use Rattle.node_store.specs.Copies.{block_in}
use Rattle.node_store.specs.StoredSets.{Copies}
use Rattle.node_store.specs.declared.opening.OpenBlock.{OpenBlock}
use Rattle.sealed_block.specs.Opening.{opened}
use Rattle.sealed_block.specs.declared.heads.Head.{Head}
use Rattle.vol_types.specs.declared.layout.Layout.{Layout}
use Rattle.vol_types.specs.declared.positions.Pos.{Pos}
use Rattle.vol_types.specs.declared.values.Extent.{Extent}
use Rattle.vol_types.specs.declared.values.Value.{Value}
use Rattle.vol_types.specs.declared.values.Value.TheVariants as values

-- What is held opens as a block of the journal or of a node.
pub record IsOfMetadata (held : Option (List ℕ)) : Type 0 where
  pub head : Head
  pub opens : option_and_then opened held ≡ Some head
  pub kind : (head.kind ≡ 2) ⊎ (head.kind ≡ 3)

-- At this place of another metadata device, behind its superblocks and sessions, the first image shows a block of the journal or of a
-- node, and the second one holds what doesn't open.
pub record IsLostAt (layout : Layout) (mirror : ℕ) (one other : Image) (dev block : ℕ) : Type 0 where
  pub on_mirror : dev < layout.metadata_replicas
  pub another : dev ≢ mirror
  pub behind : 16 ≤ block
  pub shown : IsOfMetadata (block_at one dev block)
  pub lost : option_and_then opened (block_at other dev block) ≡ None

-- The second image is the first one degraded to this metadata device: it has equal lengths, and holds at each place the same, or has lost
-- a block of the journal or of a node of another metadata device. So all that the journals and nodes of the others hold may be lost, or
-- any part of it.
pub record IsDegradedTo (layout : Layout) (mirror : ℕ) (one other : Image) : Type 0 where
  pub lengths : map (λ blocks. length blocks) one ≡ map (λ blocks. length blocks) other
  pub each : (dev block : ℕ) → AgreeAt one other dev block ⊎ IsLostAt layout mirror one other dev block

-- At such a place the second image holds zeros.
pub record IsWipedAt (layout : Layout) (mirror : ℕ) (one other : Image) (dev block : ℕ) : Type 0 where
  pub on_mirror : dev < layout.metadata_replicas
  pub another : dev ≢ mirror
  pub behind : 16 ≤ block
  pub shown : IsOfMetadata (block_at one dev block)
  pub wiped : block_at other dev block ≡ Some zeros

-- The second copy of a node shows in each block what the first one does, or nothing.
abbrev pub IsLostOf : List (Option OpenBlock) → List (Option OpenBlock) → Type 0
IsLostOf copy left = (n : ℕ) → (block_in left n ≡ block_in copy n) ⊎ (block_in left n ≡ None)

-- So does each copy.
abbrev pub AreLostOf : Copies → Copies → Type 0
AreLostOf copies left = AllZip IsLostOf copies left

-- No place of an extent's blocks shows a block of the journal or of a node.
abbrev pub ShowsNoMetadata : Image → Pos × Value → Type 0
ShowsNoMetadata image entry =
    (extent : Extent) → entry.1 ≡ values.Extent extent → (index : ℕ) → index < length extent.digests → All (λ place. ¬ IsOfMetadata (block_at image place.dev place.block)) (block_of extent index).places

-- No block of a file looks like one of the journal or of a node.
pub record HasPlainFiles (f : Found) (image : Image) : Type 0 where
  pub extents : All (ShowsNoMetadata image) f.trees.keys.extents
