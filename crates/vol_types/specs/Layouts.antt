-- Which layouts a volume may have: as a test, and in its parts.
use Rattle.std.specs.Prelude.{◌≡◌, ℕ, ◌+◌, ◌*◌, ◌%◌, ◌≤◌, Bool, ◌&&◌, ◌==◌, nat_le, min, length, All}
use Rattle.std.specs.Int.{is_in_range, IsInRange}
use Rattle.std.specs.List.{list_all}
use Rattle.vol_types.specs.declared.layout.Layout.{Layout}
use Rattle.vol_types.specs.Limits.{bucket_blocks}

-- a device may have so many blocks beside a journal area of that many: 1,024 to 1,048,576, in whole buckets, of which the
-- journal and the first bucket take no more than half
abbrev pub is_device_size : ℕ → ℕ → Bool
is_device_size journal blocks = is_in_range 1024 1048576 blocks && blocks % bucket_blocks == 0 && nat_le (2 * (journal + bucket_blocks)) blocks

-- a volume may lie so on its devices: there are 1 to 8 of them, the journal area has 256 to 4,096 blocks in whole buckets,
-- and metadata and data have 1 to 3 replicas, on as many devices
unfoldable pub is_layout : Layout → Bool
is_layout layout =
    is_in_range 1 8 (length layout.blocks)
    && is_in_range 256 4096 layout.journal && layout.journal % bucket_blocks == 0
    && is_in_range 1 (min 3 (length layout.blocks)) layout.metadata_replicas
    && is_in_range 1 (min 3 (length layout.blocks)) layout.data_replicas
    && list_all (is_device_size layout.journal) layout.blocks

-- A device may have so many blocks beside a journal area of that many.
pub record IsDeviceSize (journal blocks : ℕ) : Type 0 where
  pub blocks_range : IsInRange 1024 1048576 blocks
  pub whole_buckets : blocks % bucket_blocks ≡ 0
  pub half : 2 * (journal + bucket_blocks) ≤ blocks

-- A volume may lie so on its devices.
pub record IsLayout (layout : Layout) : Type 0 where
  pub devices : IsInRange 1 8 (length layout.blocks)
  pub journal_range : IsInRange 256 4096 layout.journal
  pub journal_buckets : layout.journal % bucket_blocks ≡ 0
  pub metadata : IsInRange 1 (min 3 (length layout.blocks)) layout.metadata_replicas
  pub data_copies : IsInRange 1 (min 3 (length layout.blocks)) layout.data_replicas
  pub sizes : All (IsDeviceSize layout.journal) layout.blocks
