-- The query whose answer has the keys of a file that cover one of some blocks, and the most blocks that extents and holes have.
use Rattle.std.specs.Prelude.{ℕ, ◌+◌, ◌-◌, ◌^◌, ◌≤◌, All, List, Option, min}
use Rattle.vol_types.specs.KeyMaps.{KeyMap}
use Rattle.vol_types.specs.declared.positions.Btree.TheVariants.{Extents}
use Rattle.vol_types.specs.declared.positions.Pos.{Pos}
use Rattle.vol_types.specs.declared.queries.Query.{Query}
use Rattle.vol_types.specs.declared.queries.Query.TheVariants.{Span}
use Rattle.vol_types.specs.declared.values.Value.{Value}
use Rattle.key_meaning.specs.Blocks.{blocks_of}
use Rattle.extent_ops.specs.Above.{blocks_maybe}

-- the ends of those that cover one lie behind the first block, and at most so many blocks behind the last one as the longest of them has
abbrev pub reach : ℕ → ℕ → ℕ → ℕ → Query
reach file first last longest = Span Extents
    (record { inode = file; offset = min (first + 1) (2 ^ 64 - 1); snapshot = 0 })
    (record { inode = file; offset = min (last + longest) (2 ^ 64 - 1); snapshot = 2 ^ 32 - 1 })

-- No extent or hole of the key map has more blocks than this.
pub record AreExtentsUpTo (longest : ℕ) (map : KeyMap) : Type 0 where
  pub each : All (λ (entry : Pos × Value). blocks_of entry.1 ≤ longest) map.extents

-- The value is no extent or hole of more blocks than this.
abbrev pub IsUpTo : ℕ → Option Value → Type 0
IsUpTo longest value = blocks_maybe value ≤ longest

-- It is the greatest of a number and of the numbers of blocks that extents and holes among some values have.
pub record IsLongest (so_far : ℕ) (values : List (Option Value)) (longest : ℕ) : Type 0 where
  pub before : so_far ≤ longest
  pub each : All (IsUpTo longest) values
  pub least : (other : ℕ) → so_far ≤ other → All (IsUpTo other) values → longest ≤ other
