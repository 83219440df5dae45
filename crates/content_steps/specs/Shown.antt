-- What shows in an id where blocks are given to a file, and when no block shows behind the file's end then.
use Rattle.std.specs.Prelude.{◌≡◌, ℕ, ◌-◌, ◌*◌, ◌<◌, ◌≤◌, ◌==◌, Option, None, Some, if◌then◌else◌, unwrap_or}
use Rattle.vol_types.specs.Limits.{block_size}
use Rattle.vol_types.specs.declared.keys.Key.{Key}
use Rattle.vol_types.specs.declared.values.Inode.{Inode}
use Rattle.key_meaning.specs.Blocks.{Block}
use Rattle.key_steps.specs.Shown.{Shown}

-- the same, but that each block of a file to which something is given shows that: a block, or none
abbrev pub with_blocks : ℕ → (ℕ → Option (Option Block)) → Shown → Shown
with_blocks file given shown = record { inodes = shown.inodes; links = shown.links; blocks = λ other block. if file == other then unwrap_or (given block) (shown.blocks other block) else shown.blocks other block }

-- No block is given to the file at or behind its end.
pub record DoBlocksEnd (shown : Shown) (file : ℕ) (given : ℕ → Option (Option Block)) : Type 0 where
  pub each : (block : ℕ) (inode : Inode) → shown.inodes file ≡ Some inode → inode.size ≤ block * block_size → unwrap_or (given block) None ≡ None

-- The key's last block begins before the end of a file of this size.
abbrev pub EndsWithin : ℕ → Key → Type 0
EndsWithin size key = (key.pos.offset - 1) * block_size < size
