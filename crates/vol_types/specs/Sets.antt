-- How many bytes the keys of a node take on disk.
use Rattle.std.specs.Prelude.{ℕ, ◌+◌, List, sum_by}
use Rattle.vol_types.specs.Lengths.{key_length_of}
use Rattle.vol_types.specs.declared.keys.Key.{Key}

-- the bytes before the keys of a set: 8 for the node's birth, 1 for its btree, 1 for its level, 2 that are zero, 20 for
-- each end of its range, and 4 for the number of keys
abbrev pub set_head_length : ℕ
set_head_length = 56

-- the bytes of a set of keys
abbrev pub set_length_of : List Key → ℕ
set_length_of keys = set_head_length + sum_by (λ key. key_length_of key.value) keys
