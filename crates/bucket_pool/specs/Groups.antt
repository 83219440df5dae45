-- The buckets of a device in groups of 256, of which it is counted how many are free, and how many wait or are open.
use Rattle.std.specs.Prelude.{◌≡◌, ℕ, ◌+◌, ◌*◌, ◌<◌, ◌≤◌, Bool, true, false, List, length, take, drop, count_by, slice_index_or}
use Rattle.bucket_pool.specs.declared.bucket.Bucket.{Bucket}
use Rattle.bucket_pool.specs.declared.bucket.State.{State}
use Rattle.bucket_pool.specs.declared.bucket.State.TheVariants.{Waiting, Opened}
use Rattle.bucket_pool.specs.declared.groups.Group.{Group}
use Rattle.bucket_pool.specs.declared.groups.Want.{Want}
use Rattle.bucket_pool.specs.declared.groups.Want.TheVariants.{FreeOne, CurrentOf, RoomOf}
use Rattle.bucket_pool.specs.Buckets.{has_room, is_current_of, is_free}

-- whether a bucket in this state waits or is open, so that it may change when an entry is durable or an actor commits
abbrev pub is_busy_state : State → Bool
is_busy_state (Waiting seq) = true
is_busy_state (Opened bucket) = true
is_busy_state _ = false

-- whether the bucket waits or is open
abbrev pub is_busy : Bucket → Bool
is_busy bucket = is_busy_state bucket.state

-- the members of a group
abbrev pub group_of : {X : Type 0} → ℕ → List X → List X
group_of group xs = take 256 (drop (256 * group) xs)

-- Each group's counts are those of its buckets, and the groups have all buckets.
pub record AreCounted (buckets : List Bucket) (groups : List Group) : Type 0 where
  pub covers : length buckets ≤ 256 * length groups
  pub free_ones : (group : ℕ) (d : Group) → group < length groups → (slice_index_or groups group d).free ≡ count_by is_free (group_of group buckets)
  pub busy_ones : (group : ℕ) (d : Group) → group < length groups → (slice_index_or groups group d).busy ≡ count_by is_busy (group_of group buckets)

-- The buckets of a device are counted: as a whole how many are free, and by groups.
pub record IsCounted (buckets : List Bucket) (groups : List Group) (free : ℕ) : Type 0 where
  pub free_ones : free ≡ count_by is_free buckets
  pub few : length buckets ≤ 65536
  pub by_groups : AreCounted buckets groups
  pub few_groups : length groups ≤ 256

-- No bucket of the group waits or is open.
abbrev pub IsIdle : ℕ → List Bucket → Type 0
IsIdle group buckets = (k : ℕ) (d : Bucket) → 256 * group ≤ k → k < 256 * group + 256 → k < length buckets → is_busy (slice_index_or buckets k d) ≡ false

-- whether a bucket is one that is wanted
abbrev pub fits : Want → Bucket → Bool
fits FreeOne bucket = is_free bucket
fits (CurrentOf actor) bucket = is_current_of actor bucket
fits (RoomOf actor count) bucket = has_room count actor bucket

-- whether a bucket is counted among those of which some are wanted
abbrev pub may_fit : Want → Bucket → Bool
may_fit FreeOne bucket = is_free bucket
may_fit _ bucket = is_busy bucket

-- how many buckets of a group are counted of which some are wanted
abbrev pub count_for : Want → Group → ℕ
count_for FreeOne group = group.free
count_for _ group = group.busy
