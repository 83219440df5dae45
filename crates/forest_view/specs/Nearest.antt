-- The nearest id of a chain that has a key, for each place of a btree.
use Rattle.std.specs.Prelude.{ℕ, List, [], ◌∷◌, if◌then◌else◌}
use Rattle.forest_ops.specs.Parts.{with_new}
use Rattle.snap_tree.specs.Names.{has_id, pair_cmp}
use Rattle.vol_types.specs.KeyMaps.{Entries}
use Rattle.vol_types.specs.declared.positions.Pos.{Pos}

-- for each place, which is an inode with an offset, an id
abbrev pub Nearest : Type 0
Nearest = List ((ℕ × ℕ) × ℕ)

-- the ids at places after one more key, whose own id counts if the chain has it and no key stood at its place before
abbrev pub noted : List ℕ → Pos → Nearest → Nearest
noted chain pos nearest = if has_id chain pos.snapshot then with_new pair_cmp (pos.inode, pos.offset) pos.snapshot nearest else nearest

-- the ids at places after further keys, in their order
abbrev pub nearest_with : List ℕ → Entries → Nearest → Nearest
nearest_with chain [] nearest = nearest
nearest_with chain (entry ∷ entries) nearest = nearest_with chain entries (noted chain entry.0 nearest)
