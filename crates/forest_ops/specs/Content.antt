-- The bytes of files: what is put, read and cut.
use Rattle.std.specs.Prelude.{ℕ, ◌+◌, ◌-◌, ◌*◌, ◌/◌, nat_le, List, ◌++◌, length, take, drop, replicate, if◌then◌else◌}

-- how many bytes a file may have
abbrev pub max_size : ℕ
max_size = 16777216

-- how many bytes a block has
abbrev pub block_bytes : ℕ
block_bytes = 4096

-- how many blocks one truncation cuts at most
abbrev pub max_cut : ℕ
max_cut = 256

-- the bytes as a file of this size: cut, or with zeros behind them
abbrev pub resized : ℕ → List ℕ → List ℕ
resized size bytes = take size bytes ++ replicate (size - length bytes) 0

-- the bytes of a file with others put at an offset; zeros stand between the old end and the offset
abbrev pub put_at : ℕ → List ℕ → List ℕ → List ℕ
put_at offset put bytes = resized offset bytes ++ put ++ drop (offset + length put) bytes

-- at most so many bytes from an offset
abbrev pub part_of : ℕ → ℕ → List ℕ → List ℕ
part_of offset len bytes = take len (drop offset bytes)

-- how many blocks a file of this size has
abbrev pub blocks_of : ℕ → ℕ
blocks_of size = (size + (block_bytes - 1)) / block_bytes

-- the size to which one truncation brings a file of a size
abbrev pub cut_size : ℕ → ℕ → ℕ
cut_size size wanted = if nat_le (blocks_of size - blocks_of wanted) max_cut then wanted else (blocks_of size - max_cut) * block_bytes
