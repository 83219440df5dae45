-- How many blocks a file has, and how far one truncation goes.
use Rattle.std.specs.Prelude.{ℕ, ◌+◌, ◌-◌, ◌*◌, nat_le, if◌then◌else◌}
use Rattle.std.specs.Int.{div_ceil}
use Rattle.vol_types.specs.Limits.{block_size}

-- how many blocks one truncation cuts at most
abbrev pub most_cut : ℕ
most_cut = 256

-- how many blocks a file of this size has; its last one may lie in part behind the end
abbrev pub blocks_up_to : ℕ → ℕ
blocks_up_to size = div_ceil size block_size

-- the size after one truncation to a new size: this one where no more blocks than may be lie between, else the least size for
-- which that many are cut
abbrev pub cut_size : ℕ → ℕ → ℕ
cut_size size new =
    if nat_le (blocks_up_to size) (blocks_up_to new + most_cut) then new
    else (blocks_up_to size - most_cut) * block_size
