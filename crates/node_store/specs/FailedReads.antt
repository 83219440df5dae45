-- Which block of a node's bucket couldn't be read: of several the farthest one.
use Rattle.std.specs.Prelude.{◌≡◌, ◌⊎◌, ℕ, ◌+◌, ◌<◌, ◌&&◌, ◌==◌, nat_lt, if◌then◌else◌, List, [], ◌∷◌, length, Option, Some, None, is_none, is_some, option_map, slice_get}
use Rattle.vol_types.specs.Limits.{bucket_blocks}
use Rattle.vol_types.specs.declared.pointers.Place.{Place}
use Rattle.node_store.specs.declared.opening.OpenBlock.{OpenBlock}
use Rattle.node_store.specs.declared.reading.Unread.{Unread}
use Rattle.node_store.specs.Copies.{block_in}
use Rattle.node_store.specs.StoredSets.{Copies}

-- the first block from which on all could be read, by the farthest one that couldn't
abbrev pub read_from : Option Unread → ℕ
read_from None = 0
read_from (Some unread) = unread.block + 1

-- the device of the block that couldn't be read
abbrev pub unread_device : Option Unread → Option ℕ
unread_device None = None
unread_device (Some unread) = Some unread.dev

-- the farthest block that couldn't be read, after block n of a device, which failed or not; of blocks that are as far the last counts
abbrev pub farthest : ℕ → Option ℕ → Option Unread → Option Unread
farthest n None before = before
farthest n (Some dev) None = Some (record { block = n; dev = dev })
farthest n (Some dev) (Some unread) = if nat_lt n unread.block then Some unread else Some (record { block = n; dev = dev })

-- The block that couldn't be read is one of this copy, of which nothing was seen.
pub record IsUnreadIn (copy : List (Option OpenBlock)) (dev : ℕ) (unread : Unread) : Type 0 where
  pub within : unread.block < length copy
  pub device : unread.dev ≡ dev
  pub unseen : block_in copy unread.block ≡ None

-- The farthest block that couldn't be read is the one from before, or one of this copy.
abbrev pub IsFarthest : Option Unread → Option Unread → List (Option OpenBlock) → ℕ → Type 0
IsFarthest before after copy dev = (after ≡ before) ⊎ ((unread : Unread) × (after ≡ Some unread) × IsUnreadIn copy dev unread)

-- This block of the bucket couldn't be read at a place of the device: nothing of it was seen there.
pub record IsUnreadAt (places : List Place) (seen : Copies) (unread : Unread) : Type 0 where
  pub place : ℕ
  pub within : unread.block < bucket_blocks
  pub device : option_map (λ p. p.dev) (slice_get places place) ≡ Some unread.dev
  pub unseen : option_map (λ copy. block_in copy unread.block) (slice_get seen place) ≡ Some None

-- how many blocks lack in a copy as it was seen: they open, and nothing of them was seen
abbrev pub lacking : List (Option OpenBlock) → List (Option OpenBlock) → ℕ
lacking [] seen = 0
lacking (block ∷ copy) [] = 0
lacking (block ∷ copy) (shown ∷ seen) = lacking copy seen + (if is_some block && is_none shown then 1 else 0)

-- how many blocks lack in the copies at the places of a device
abbrev pub lacking_on : ℕ → List Place → Copies → Copies → ℕ
lacking_on dev [] copies seen = 0
lacking_on dev (place ∷ places) [] seen = 0
lacking_on dev (place ∷ places) (copy ∷ copies) [] = 0
lacking_on dev (place ∷ places) (copy ∷ copies) (shown ∷ seen) = lacking_on dev places copies seen + (if place.dev == dev then lacking copy shown else 0)
