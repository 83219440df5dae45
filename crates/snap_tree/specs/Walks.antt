-- How many links a search for an ancestor follows.
use Rattle.std.specs.Prelude.{◌≡◌, ℕ, ◌+◌, ◌-◌, ◌^◌, ◌≤◌, length, min}
use Rattle.snap_tree.specs.Snaps.{Snaps, chain_of}

-- how many ancestors an id has, itself left out
abbrev pub ancestors : Snaps → ℕ → ℕ
ancestors snaps id = length (chain_of snaps id) - 1

-- The count rises by a number of steps that is at most the logarithm of the number of ancestors and one, or stands still
-- at its type's end.
pub record FollowsFew (snaps : Snaps) (id old new : ℕ) : Type 0 where
  pub steps : ℕ
  pub counted : new ≡ min (old + steps) (2 ^ 64 - 1)
  pub few : 2 ^ steps ≤ ancestors snaps id + 1
