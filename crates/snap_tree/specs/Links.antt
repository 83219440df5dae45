-- The links that a tree keeps for each id: to its ancestors 1, 2, 4 and so on above it.
use Rattle.std.specs.Prelude.{◌≡◌, ℕ, ◌+◌, ◌^◌, ◌<◌, ◌≤◌, ◌==◌, Option, Some, None, IsSome, is_some, List, ⊤, length, slice_index, if◌then◌else◌}
use Rattle.std.specs.Ordering.{nat_cmp}
use Rattle.vol_types.specs.Maps.{value_at}
use Rattle.snap_tree.specs.Snaps.{Snaps, IsSnapTree, chain_of, live_leaves}
use Rattle.snap_tree.specs.Names.{Pairs, IsIndex}
use Rattle.snap_tree.specs.declared.links.Links.{Links}

-- ids in rising order, each with its links
abbrev pub AllLinks : Type 0
AllLinks = List (ℕ × Links)

-- where a link of an id leads to; 0 where there is none
abbrev pub link_in : Option Links → ℕ → ℕ
link_in None level = 0
link_in (Some links) level = slice_index links.above level

-- where a link leads to from an id that may be 0, which has none
abbrev pub link_at : AllLinks → ℕ → ℕ → ℕ
link_at links id level = if id == 0 then 0 else link_in (value_at nat_cmp id links) level

-- Links lead to the members 1, 2, 4 and so on of a chain after its first one, and are 0 past its end.
abbrev pub AreLinks : List ℕ → List ℕ → Type 0
AreLinks chain above = (level : ℕ) → level < 32 → slice_index above level ≡ slice_index chain (2 ^ level)

-- The id has its links, and 32 of them pass the end of its chain, since ids below 2^32 rise on it.
pub record HasLinks (snaps : Snaps) (links : AllLinks) (id : ℕ) : Type 0 where
  pub own : Links
  pub found : value_at nat_cmp id links ≡ Some own
  pub lead : AreLinks (chain_of snaps id) own.above
  pub fits : id + length (chain_of snaps id) ≤ 2 ^ 32

-- The number is above the greatest id of some, or there is none.
abbrev pub IsPast : Option ℕ → ℕ → Type 0
IsPast None id = ⊤
IsPast (Some greatest) id = greatest < id

-- Each id has its links.
abbrev pub AllHaveLinks : Snaps → AllLinks → Type 0
AllHaveLinks snaps links = (id : ℕ) → IsSome (value_at nat_cmp id snaps) → HasLinks snaps links id

-- The ids that have room for their links are those that are there.
abbrev pub HaveSameIds : Snaps → AllLinks → Type 0
HaveSameIds snaps links = (id : ℕ) → is_some (value_at nat_cmp id links) ≡ is_some (value_at nat_cmp id snaps)

-- What is kept beside the records of trees agrees with them.
pub record IsKept (snaps : Snaps) (links : AllLinks) (pairs : Pairs) (count : ℕ) : Type 0 where
  pub tree : IsSnapTree snaps
  pub linked : AllHaveLinks snaps links
  pub ids : HaveSameIds snaps links
  pub index : IsIndex snaps pairs
  pub live : count ≡ live_leaves snaps
