-- The block of a file's end, with zeros behind the end.
use Rattle.std.specs.Prelude.{ℕ, ◌-◌, ◌/◌, ◌%◌, ◌≤◌, ◌==◌, Bool, not, ◌&&◌, Option, None, is_some, option_map, List, ◌++◌, length, take, replicate, if◌then◌else◌}
use Rattle.vol_types.specs.KeyMaps.{KeyMap}
use Rattle.vol_types.specs.Limits.{block_size}
use Rattle.vol_types.specs.declared.keys.Key.{Key}
use Rattle.key_meaning.specs.Blocks.{Block, block_in}
use Rattle.key_meaning.specs.Forest.{Read, bytes_in}
use Rattle.file_plan.specs.BlockIo.{OnlyReads}
use Rattle.file_plan.specs.declared.block_io.BlockIo.{BlockIo}
use Rattle.file_plan.specs.Runs.{IsWritten}

-- the bytes of a block, with zeros from one of them on
abbrev pub zeroed : ℕ → List ℕ → List ℕ
zeroed from bytes = take from bytes ++ replicate (block_size - from) 0

-- whether a file of this size ends inside a block that shows
abbrev pub has_end : KeyMap → ℕ → ℕ → ℕ → Bool
has_end keys id number size = not (size % block_size == 0) && is_some (block_in keys id number (size / block_size))

-- the block inside which it ends, if one shows there
abbrev pub end_of : KeyMap → ℕ → ℕ → ℕ → Option Block
end_of keys id number size = if size % block_size == 0 then None else block_in keys id number (size / block_size)

-- the bytes of that block, with zeros behind the end; none where the file ends with a block, or the block of its end doesn't show
abbrev pub end_bytes : KeyMap → Read → ℕ → ℕ → ℕ → Option (List ℕ)
end_bytes keys read id number size =
    if size % block_size == 0 then None
    else option_map (zeroed (size % block_size)) (bytes_in keys read id number (size / block_size))

-- The keys are that of the block of a file's end, written anew, or none. Before it was written blocks were only read.
pub record IsEndWritten (file id size : ℕ) (keys : List Key) (old new : BlockIo) : Type 0 where
  pub blocks : List (List ℕ)
  pub one : length blocks ≤ 1
  pub after_reads : BlockIo
  pub reads : OnlyReads old after_reads
  pub written : IsWritten file id (size / block_size) blocks keys after_reads new
