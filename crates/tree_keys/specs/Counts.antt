-- How many bytes the leaves of a btree take.
use Rattle.std.specs.Prelude.{◌≡◌, ℕ, Some, List}
use Rattle.node_mem.specs.Nodes.{size_of}
use Rattle.tree_keys.specs.Cuts.{Cut, leaf_entries}
use Rattle.vol_types.specs.KeyMaps.{keys_in}
use Rattle.vol_types.specs.Maps.{value_at}
use Rattle.vol_types.specs.Positions.{pos_cmp}
use Rattle.vol_types.specs.Sets.{set_length_of}
use Rattle.vol_types.specs.declared.positions.Pos.{Pos}

-- the bytes that a leaf takes as one set
abbrev pub leaf_bytes : Pos → Cut → ℕ
leaf_bytes end cut = set_length_of (keys_in (leaf_entries end cut))

-- the size of a leaf: the bytes that it takes as one set, or 2^32 - 1 where they are more
abbrev pub leaf_size : Pos → Cut → ℕ
leaf_size end cut = size_of (leaf_entries end cut)

-- The bytes of each leaf are counted, under its end.
pub record AreCounted (cut : Cut) (leaves : List (Pos × ℕ)) : Type 0 where
  pub each : (end : Pos) (bytes : ℕ) → value_at pos_cmp end leaves ≡ Some bytes → bytes ≡ leaf_bytes end cut
