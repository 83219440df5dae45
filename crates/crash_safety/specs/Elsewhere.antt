-- Writes of nodes and of files while entries of the journal are written: none of their places counts for what was found, nor for the entry.
use Rattle.std.specs.Prelude.{◌≡◌, ◌⊎◌, ℕ, ◌+◌, ◌<◌, ◌≤◌, List, length, map, All, Contains, Option, Some, None}
use Rattle.dev_model.specs.Devices.{DevicesState, now}
use Rattle.dev_model.specs.Disk.{Image, IsCrashImage, as_read}
use Rattle.image_view.specs.Found.{Found}
use Rattle.image_view.specs.Trees.{nodes_of}
use Rattle.vol_types.specs.Limits.{bucket_blocks}
use Rattle.vol_types.specs.declared.pointers.Place.{Place}
use Rattle.crash_safety.specs.Writings.{Writing, after}

-- It is one of these places.
abbrev pub IsOneOf : List Place → ℕ → ℕ → Type 0
IsOneOf places dev block = Contains places (record { dev = dev; block = block })

-- It is some block at one of these places.
abbrev pub IsAtOneOf : List Place → ℕ → ℕ → List ℕ → Type 0
IsAtOneOf places dev block bytes = IsOneOf places dev block

-- The place lies outside a bucket.
abbrev pub IsOutside : Place → Place → Type 0
IsOutside place bucket = place.dev ≡ bucket.dev → (place.block < bucket.block) ⊎ (bucket.block + bucket_blocks ≤ place.block)

-- The place is behind the superblocks and sessions, and on a metadata device behind the journal area, and it lies outside the bucket of each
-- node that was found.
pub record IsElsewhere (f : Found) (place : Place) : Type 0 where
  pub behind : 16 ≤ place.block
  pub journal : place.dev < f.layout.metadata_replicas → 16 + f.layout.journal ≤ place.block
  pub nodes : All (λ pointer. All (IsOutside place) pointer.places) (nodes_of f.trees.nodes)

-- The place counts neither for what was found nor for the nodes of the entry that is written.
abbrev pub IsElsewhereOfBoth : Found → Option Writing → Place → Type 0
IsElsewhereOfBoth f None place = IsElsewhere f place
IsElsewhereOfBoth f (Some w) place = IsElsewhere f place × IsElsewhere (after w f) place

-- A crash leaves devices of the sizes that are read at first.
abbrev pub KeepsSizes : DevicesState → DevicesState → Type 0
KeepsSizes old new =
    (m : ℕ) → old.moment ≤ m → m ≤ new.moment → (image : Image) → IsCrashImage (new.disks m) image → map (λ blocks. length blocks) (as_read (now old)) ≡ map (λ blocks. length blocks) image
