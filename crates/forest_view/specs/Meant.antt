-- Which key maps a forest in memory can mean whole, and what is read for it: nothing.
use Rattle.std.specs.Prelude.{ℕ, ◌<◌, ◌≤◌, None}
use Rattle.plain_forest.specs.Steps.{numbers_per_client}
use Rattle.vol_types.specs.KeyMaps.{KeyMap}
use Rattle.key_meaning.specs.Forest.{Read, next_in}

-- no block is read: each byte of a file is zero
abbrev pub no_blocks : Read
no_blocks places digest = None

-- A forest can hold the counters of all clients: none stands above the number of a client's inode numbers.
pub record IsMeant (keys : KeyMap) : Type 0 where
  pub clients : (client : ℕ) → client < 16 → next_in keys client ≤ numbers_per_client
