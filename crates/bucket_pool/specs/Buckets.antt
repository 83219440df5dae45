-- What a bucket is used for, and what each call makes of one bucket.
use Rattle.std.specs.Prelude.{ℕ, ◌+◌, ◌*◌, ◌-◌, ◌^◌, min, Bool, true, false, ◌&&◌, ◌||◌, ◌==◌, nat_le, nat_lt, if◌then◌else◌, Option, None, Some, is_some, List, [], ◌∷◌, map, length, take, replicate}
use Rattle.std.specs.List.{list_all, list_any}
use Rattle.bucket_pool.specs.declared.bucket.Bucket.{Bucket}
use Rattle.bucket_pool.specs.declared.bucket.OpenBucket.{OpenBucket}
use Rattle.bucket_pool.specs.declared.bucket.Run.{Run}
use Rattle.bucket_pool.specs.declared.bucket.Slot.{Slot}
use Rattle.bucket_pool.specs.declared.bucket.Slot.TheVariants.{Empty, Reserved, Used, Spent}
use Rattle.bucket_pool.specs.declared.bucket.State.{State}
use Rattle.bucket_pool.specs.declared.bucket.State.TheVariants.{Node, User, Free, Waiting, Opened, Retired}
use Rattle.vol_types.specs.Limits.{bucket_blocks}
use Rattle.bucket_pool.specs.Places.{each_place}

-- the greatest generation: a bucket that has it is used once more, and then retired
abbrev pub last_generation : ℕ
last_generation = 2 ^ 32 - 1

-- a bucket in another state
abbrev pub in_state : Bucket → State → Bucket
in_state bucket state = record { generation = bucket.generation; state = state }

-- a bucket in another state and the next generation, where there is one
abbrev pub in_next : Bucket → State → Bucket
in_next bucket state = record { generation = min (bucket.generation + 1) last_generation; state = state }

-- whether a bucket in this state is free
abbrev pub is_free_state : State → Bool
is_free_state Free = true
is_free_state _ = false

-- whether the bucket is free
abbrev pub is_free : Bucket → Bool
is_free bucket = is_free_state bucket.state

-- whether a block may be reserved
abbrev pub is_empty : Slot → Bool
is_empty Empty = true
is_empty _ = false

-- whether a block is reserved
abbrev pub is_reserved : Slot → Bool
is_reserved Reserved = true
is_reserved _ = false

-- whether a block is used
abbrev pub is_used : Slot → Bool
is_used Used = true
is_used _ = false

-- whether the first so many blocks are there and may be reserved
abbrev pub begins_empty : ℕ → List Slot → Bool
begins_empty count slots = nat_le count (length slots) && list_all is_empty (take count slots)

-- where the first so many blocks in a row are that may be reserved, where the first block's place is given
abbrev pub first_run_from : ℕ → ℕ → List Slot → Option ℕ
first_run_from at count [] = None
first_run_from at count (slot ∷ slots) = if begins_empty count (slot ∷ slots) then Some at else first_run_from (at + 1) count slots

-- where the first so many blocks in a row are that may be reserved
abbrev pub first_run : ℕ → List Slot → Option ℕ
first_run count slots = first_run_from 0 count slots

-- whether a bucket in this state is the one that the actor reserves in
abbrev pub is_current_state : ℕ → State → Bool
is_current_state actor (Opened bucket) = bucket.actor == actor && bucket.current
is_current_state actor _ = false

-- whether the bucket is the one that the actor reserves in
abbrev pub is_current_of : ℕ → Bucket → Bool
is_current_of actor bucket = is_current_state actor bucket.state

-- the blocks of an open bucket, and of others none
abbrev pub slots_of : State → List Slot
slots_of (Opened bucket) = bucket.blocks
slots_of _ = []

-- whether the bucket is the one that the actor reserves in, and has so many blocks in a row that may be reserved
abbrev pub has_room : ℕ → ℕ → Bucket → Bool
has_room count actor bucket = is_current_of actor bucket && is_some (first_run count (slots_of bucket.state))

-- the state of a bucket in which no block is used: it is free, or waits for the entry that emptied it
abbrev pub emptied_state : Option ℕ → State
emptied_state None = Free
emptied_state (Some seq) = Waiting seq

-- the state of an open bucket when it is closed: in use where a block is used, and else free or waiting
abbrev pub closed_state : OpenBucket → State
closed_state bucket = if list_any is_used bucket.blocks then User else emptied_state bucket.emptied

-- an open bucket stays open while its actor reserves in it or has reserved a block of it, and else is closed
abbrev pub rest_state : OpenBucket → State
rest_state bucket = if bucket.current || list_any is_reserved bucket.blocks then Opened bucket else closed_state bucket

-- a bucket in which its actor reserves no more
abbrev pub let_go_state : State → State
let_go_state (Opened bucket) = rest_state (record bucket { current = false })
let_go_state state = state

-- a bucket in which its actor reserves no more
abbrev pub let_go : Bucket → Bucket
let_go bucket = in_state bucket (let_go_state bucket.state)

-- the state of a bucket that is open for an actor, in which nothing is reserved yet
abbrev pub fresh_state : ℕ → State
fresh_state actor = Opened (record { actor = actor; current = true; emptied = None; blocks = replicate 16 Empty })

-- a bucket that was opened for an actor
abbrev pub opened_for : ℕ → Bucket → Bucket
opened_for actor bucket = in_state bucket (fresh_state actor)

-- a block, reserved if it is one of so many from the first one on
abbrev pub marked_slot : ℕ → ℕ → ℕ → Slot → Slot
marked_slot first count at slot = if nat_le first at && nat_lt at (first + count) then Reserved else slot

-- a state in which so many blocks from the first one on are reserved, where the bucket is open
abbrev pub marked_state : ℕ → ℕ → State → State
marked_state first count (Opened bucket) = Opened (record bucket { blocks = each_place (marked_slot first count) bucket.blocks })
marked_state first count state = state

-- the run has the block of the device
abbrev pub covers : ℕ → ℕ → Run → Bool
covers dev block run = run.place.dev == dev && nat_le run.place.block block && nat_lt block (run.place.block + run.blocks)

-- one of the runs has the block of the device
abbrev pub is_named : List Run → ℕ → ℕ → Bool
is_named runs dev block = list_any (covers dev block) runs

-- a block after a commit of its actor: one that was reserved is used if it is named, and else may be reserved again
abbrev pub kept_slot : Bool → Slot → Slot
kept_slot named Reserved = if named then Used else Empty
kept_slot named slot = slot

-- an open bucket after a commit of its actor that names blocks
abbrev pub kept_bucket : (ℕ → Bool) → OpenBucket → OpenBucket
kept_bucket named bucket = record bucket { blocks = each_place (λ at. kept_slot (named at)) bucket.blocks }

-- a state after a commit of an actor that names blocks
abbrev pub kept_state : ℕ → (ℕ → Bool) → State → State
kept_state actor named (Opened bucket) = if bucket.actor == actor then rest_state (kept_bucket named bucket) else Opened bucket
kept_state actor named state = state

-- a bucket of a device after a commit of an actor that names the blocks of the runs
abbrev pub kept_at : ℕ → List Run → ℕ → ℕ → Bucket → Bucket
kept_at actor runs dev at bucket = in_state bucket (kept_state actor (λ slot. is_named runs dev (bucket_blocks * at + slot)) bucket.state)

-- a block of an open bucket that is emptied: what was used isn't any more, and isn't given while the bucket is open
abbrev pub emptied_slot : Slot → Slot
emptied_slot Used = Spent
emptied_slot slot = slot

-- a bucket that the entry of this number empties: one in use waits for it, with the next generation where it held blocks of
-- files, and an open one stays open, with the next generation
abbrev pub waited_by : ℕ → Bucket → State → Bucket
waited_by seq bucket Node = in_state bucket (Waiting seq)
waited_by seq bucket User = in_next bucket (Waiting seq)
waited_by seq bucket (Opened inside) = in_next bucket (Opened (record inside { emptied = Some seq; blocks = map emptied_slot inside.blocks }))
waited_by seq bucket _ = bucket

-- a bucket that the entry of this number empties
abbrev pub waited : ℕ → Bucket → Bucket
waited seq bucket = waited_by seq bucket bucket.state

-- what a bucket is once nothing waits for it: free, or retired with the last generation
abbrev pub released : ℕ → State
released generation = if generation == last_generation then Retired else Free

-- a state once all entries up to this number are durable
abbrev pub settled_state : ℕ → ℕ → State → State
settled_state seq generation (Waiting entry) = if nat_le entry seq then released generation else Waiting entry
settled_state seq generation state = state

-- a bucket once all entries up to this number are durable
abbrev pub settled : ℕ → Bucket → Bucket
settled seq bucket = in_state bucket (settled_state seq bucket.generation bucket.state)
