-- What a reservation may give, and what a bucket is that a call leaves as it is.
use Rattle.std.specs.Prelude.{◌≡◌, ℕ, ◌+◌, ◌*◌, ◌≤◌, ◌⊎◌, Bool, true, false, nat_le, Option, Some, option_and_then, drop, slice_get}
use Rattle.vol_types.specs.declared.pointers.Pointer.{Pointer}
use Rattle.vol_types.specs.Limits.{bucket_blocks}
use Rattle.bucket_pool.specs.declared.bucket.Bucket.{Bucket}
use Rattle.bucket_pool.specs.declared.bucket.State.{State}
use Rattle.bucket_pool.specs.declared.bucket.State.TheVariants.{Node, User, Free, Waiting, Opened}
use Rattle.bucket_pool.specs.Buckets.{begins_empty, is_current_of, is_free, slots_of}
use Rattle.bucket_pool.specs.Space.{Space}

-- a bucket of a device
abbrev pub bucket_at : Space → ℕ → ℕ → Option Bucket
bucket_at space dev at = option_and_then (λ buckets. slice_get buckets at) (slice_get space dev)

-- So many blocks of a bucket from one on may be reserved for the actor: the bucket is free, or it is the one in which the
-- actor reserves, and none of them is reserved, used or spent.
abbrev pub AreUnused : ℕ → ℕ → ℕ → Bucket → Type 0
AreUnused count actor first bucket =
    ((is_free bucket ≡ true) × (first + count ≤ bucket_blocks)) ⊎ ((is_current_of actor bucket ≡ true) × (begins_empty count (drop first (slots_of bucket.state)) ≡ true))

-- So many blocks from the pointer's place on may be reserved for the actor, and it has their bucket's generation.
pub record LiesUnused (count actor : ℕ) (space : Space) (pointer : Pointer) : Type 0 where
  pub at : ℕ
  pub first : ℕ
  pub bucket : Bucket
  pub there : bucket_at space pointer.place.dev at ≡ Some bucket
  pub place : pointer.place.block ≡ bucket_blocks * at + first
  pub generation : pointer.generation ≡ bucket.generation
  pub unused : AreUnused count actor first bucket

-- whether a bucket in this state is open
abbrev pub is_open_state : State → Bool
is_open_state (Opened bucket) = true
is_open_state _ = false

-- whether a bucket in this state is neither free nor open, so that nothing of it is given
abbrev pub is_shut_state : State → Bool
is_shut_state Free = false
is_shut_state (Opened bucket) = false
is_shut_state _ = true

-- whether a bucket in this state may be emptied
abbrev pub is_used_state : State → Bool
is_used_state Node = true
is_used_state User = true
is_used_state (Opened bucket) = true
is_used_state _ = false

-- whether a bucket in this state waits for one of the entries up to this number
abbrev pub is_due : ℕ → State → Bool
is_due seq (Waiting entry) = nat_le entry seq
is_due seq _ = false
