-- How many blocks some keys have. The number of updates that take blocks over is bounded by it.
use Rattle.std.specs.Prelude.{ℕ, ◌+◌, List, [], ◌∷◌}
use Rattle.vol_types.specs.declared.keys.Key.{Key}
use Rattle.extent_ops.specs.Above.{blocks_maybe}

-- how many blocks the extents and holes of some keys have
abbrev pub blocks_in_all : List Key → ℕ
blocks_in_all [] = 0
blocks_in_all (key ∷ keys) = blocks_maybe key.value + blocks_in_all keys
