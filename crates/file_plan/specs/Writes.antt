-- Bytes that are written into a file at an offset, over the bytes that it has.
use Rattle.std.specs.Prelude.{◌≡◌, ℕ, ◌+◌, ◌-◌, ◌*◌, ◌/◌, max, Bool, true, ◌&&◌, nat_le, nat_lt, Option, Some, IsSome, List, length, map, slice_index, if◌then◌else◌}
use Rattle.std.specs.List.{range_with_len}
use Rattle.vol_types.specs.Limits.{block_size}
use Rattle.vol_types.specs.declared.keys.Key.{Key}
use Rattle.key_meaning.specs.Blocks.{Block}
use Rattle.key_meaning.specs.Forest.{Read}
use Rattle.extent_ops.specs.Content.{given_by}
use Rattle.file_plan.specs.Runs.{bytes_of}

-- whether bytes that are written at an offset lie over a byte
abbrev pub is_over : ℕ → List ℕ → ℕ → Bool
is_over offset bytes index = nat_le offset index && nat_lt index (offset + length bytes)

-- a byte after they were written: one of them, or what it was, and zero behind the end
abbrev pub byte_after : ℕ → List ℕ → List ℕ → ℕ → ℕ
byte_after offset bytes old index = if is_over offset bytes index then slice_index bytes (index - offset) else slice_index old index

-- a block after they were written
abbrev pub block_after : ℕ → List ℕ → List ℕ → ℕ → List ℕ
block_after offset bytes old block = map (byte_after offset bytes old) (range_with_len (block * block_size) block_size)

-- all bytes after they were written, as many as before, or more where they reach behind the end
abbrev pub written : ℕ → List ℕ → List ℕ → List ℕ
written offset bytes old = map (byte_after offset bytes old) (range_with_len 0 (max (length old) (offset + length bytes)))

-- a byte of a block that begins at one, over what the block had, which counts up to a size
abbrev pub byte_over : List ℕ → ℕ → ℕ → ℕ → List ℕ → ℕ → ℕ
byte_over base size start offset bytes index =
    if is_over offset bytes index then slice_index bytes (index - offset)
    else if nat_lt index size then slice_index base (index - start)
    else 0

-- Extents give each of their blocks the bytes that it has after they were written, and they have each block over which some of them lie.
pub record GiveAfter (read : Read) (extents : List Key) (offset : ℕ) (bytes old : List ℕ) : Type 0 where
  pub given : (block : ℕ) (shown : Option Block) → given_by extents block ≡ Some shown → bytes_of read shown ≡ Some (block_after offset bytes old block)
  pub all : (index : ℕ) → is_over offset bytes index ≡ true → IsSome (given_by extents (index / block_size))
