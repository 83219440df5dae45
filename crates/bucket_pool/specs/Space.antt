-- The space of a volume: for each device its buckets, and what each call makes of them.
use Rattle.std.specs.Prelude.{◌≡◌, ℕ, ◌+◌, ◌*◌, ◌/◌, ◌<◌, ⊤, Bool, false, ◌||◌, nat_lt, if◌then◌else◌, Option, None, option_map, unwrap_or, List, map, take, count_by, slice_get, slice_index}
use Rattle.std.specs.List.{fold, list_all, list_any, position_or_len}
use Rattle.vol_types.specs.declared.pointers.Place.{Place}
use Rattle.vol_types.specs.declared.pointers.Pointer.{Pointer}
use Rattle.vol_types.specs.declared.space.Short.{Short}
use Rattle.vol_types.specs.Limits.{bucket_blocks}
use Rattle.bucket_pool.specs.declared.bucket.Bucket.{Bucket}
use Rattle.bucket_pool.specs.declared.bucket.Run.{Run}
use Rattle.bucket_pool.specs.declared.bucket.State.TheVariants.{Node}
use Rattle.bucket_pool.specs.declared.fault.PoolFault.{PoolFault}
use Rattle.bucket_pool.specs.declared.fault.PoolFault.TheVariants.{NoSpace, NoMemory}
use Rattle.bucket_pool.specs.Buckets.{first_run, has_room, in_state, is_current_of, is_free, kept_at, let_go, marked_state, opened_for, settled, slots_of, waited}
use Rattle.bucket_pool.specs.Places.{Picked, changed, each_place, picked_from}

-- for each device its buckets, by their number
abbrev pub Space : Type 0
Space = List (List Bucket)

-- how many buckets of a device are free
abbrev pub free_count : List Bucket → ℕ
free_count buckets = count_by is_free buckets

-- the number of a device's first free bucket, or that of its buckets
abbrev pub first_free : List Bucket → ℕ
first_free buckets = position_or_len is_free buckets

-- whether the actor's open bucket of a device has so many blocks in a row that may be reserved
abbrev pub has_open_room : ℕ → ℕ → List Bucket → Bool
has_open_room count actor buckets = list_any (has_room count actor) buckets

-- whether a device can give an actor so many blocks in a row, where so many of its free buckets are held back
abbrev pub can_give : ℕ → ℕ → ℕ → List Bucket → Bool
can_give count actor held buckets = has_open_room count actor buckets || nat_lt held (free_count buckets)

-- a device's buckets where its first free one was opened for the actor, in place of the one that was open for it
abbrev pub reopened : ℕ → List Bucket → List Bucket
reopened actor buckets = changed (opened_for actor) (first_free buckets) (changed let_go (position_or_len (is_current_of actor) buckets) buckets)

-- a device's buckets where the actor's open one has so many blocks in a row: a free bucket was opened if need be
abbrev pub readied : ℕ → ℕ → List Bucket → List Bucket
readied count actor buckets = if has_open_room count actor buckets then buckets else reopened actor buckets

-- the number of the bucket in which the actor then reserves
abbrev pub spot : ℕ → ℕ → List Bucket → ℕ
spot count actor buckets = if has_open_room count actor buckets then position_or_len (has_room count actor) buckets else first_free buckets

-- the first so many blocks in a row of a bucket that may be reserved, by the number of the first one in the bucket
abbrev pub run_of : ℕ → Bucket → ℕ
run_of count bucket = unwrap_or (first_run count (slots_of bucket.state)) 0

-- a bucket in which these blocks are reserved
abbrev pub marked : ℕ → Bucket → Bucket
marked count bucket = in_state bucket (marked_state (run_of count bucket) count bucket.state)

-- the pointer to these blocks
abbrev pub pointer_to : ℕ → ℕ → ℕ → Bucket → Pointer
pointer_to count dev at bucket = record { place = record { dev = dev; block = bucket_blocks * at + run_of count bucket }; generation = bucket.generation }

-- the pointer to the blocks that are reserved in a bucket of a device, and its buckets then
abbrev pub reserved_at : ℕ → ℕ → ℕ → List Bucket → Option (Pointer × List Bucket)
reserved_at count dev at buckets = option_map (λ bucket. (pointer_to count dev at bucket, changed (marked count) at buckets)) (slice_get buckets at)

-- the pointer to so many blocks that are reserved for an actor on a device, and its buckets then, if it can give them
abbrev pub reserved_on : ℕ → ℕ → List ℕ → ℕ → List Bucket → Option (Pointer × List Bucket)
reserved_on count actor held dev buckets =
    if can_give count actor (slice_index held dev) buckets then reserved_at count dev (spot count actor buckets) (readied count actor buckets) else None

-- the pointers to so many blocks that are reserved for an actor on each of the first so many devices that can give them,
-- and the space then
abbrev pub reserved : ℕ → ℕ → ℕ → List ℕ → Space → Picked Pointer (List Bucket)
reserved count actor replicas held space = picked_from (reserved_on count actor held) 0 replicas space

-- how many devices can give an actor so many blocks in a row
abbrev pub givers : ℕ → ℕ → List ℕ → Space → ℕ
givers count actor held space = count_by (λ can. can) (each_place (λ dev. can_give count actor (slice_index held dev)) space)

-- the space after a commit of an actor that names the blocks of the runs
abbrev pub kept : ℕ → List Run → Space → Space
kept actor runs space = each_place (λ dev. each_place (kept_at actor runs dev)) space

-- the space in which the entry of this number empties the bucket that a place lies in
abbrev pub emptied : Place → ℕ → Space → Space
emptied place seq space = changed (changed (waited seq) (place.block / bucket_blocks)) place.dev space

-- the space in which the buckets at these places wait for an entry
abbrev pub emptied_all : List Place → ℕ → Space → Space
emptied_all places seq space = fold (λ (made : Space) (place : Place). emptied place seq made) space places

-- the space once all entries up to this number are durable
abbrev pub settled_space : ℕ → Space → Space
settled_space seq space = map (map (settled seq)) space

-- a bucket that holds a node
abbrev pub as_node : Bucket → Bucket
as_node bucket = in_state bucket Node

-- the first place of a device's first free bucket
abbrev pub node_place : ℕ → List Bucket → Place
node_place dev buckets = record { dev = dev; block = bucket_blocks * first_free buckets }

-- a device's buckets where the first free one holds a node
abbrev pub with_node : List Bucket → List Bucket
with_node buckets = changed as_node (first_free buckets) buckets

-- the first places of free buckets, one on each of the first so many devices
abbrev pub node_places : ℕ → Space → List Place
node_places count space = each_place node_place (take count space)

-- the space where each of the first so many devices has a node more
abbrev pub noded : ℕ → Space → Space
noded count space = each_place (λ dev buckets. if nat_lt dev count then with_node buckets else buckets) space

-- whether each of the first so many devices has a free bucket
abbrev pub have_free : ℕ → Space → Bool
have_free count space = list_all (list_any is_free) (take count space)

-- The space is too short for so many copies of so many blocks: fewer devices can give them, and this is told.
pub record IsShort (count actor replicas : ℕ) (held : List ℕ) (space : Space) (short : Short) : Type 0 where
  pub few : givers count actor held space < replicas
  pub told : short ≡ record { need = count; free = map free_count space; held = held }

-- The space is too short for a node on each of the first so many devices: one has no free bucket, and this is told.
pub record IsShortOfNodes (count : ℕ) (space : Space) (short : Short) : Type 0 where
  pub none : have_free count space ≡ false
  pub told : short ≡ record { need = 0; free = map free_count space; held = map (λ _. 0) space }

-- A fault of space says this of what is short; one of memory says nothing.
abbrev pub IsFaultOf : (Short → Type 0) → PoolFault → Type 0
IsFaultOf IsIt (NoSpace short) = IsIt short
IsFaultOf IsIt NoMemory = ⊤
