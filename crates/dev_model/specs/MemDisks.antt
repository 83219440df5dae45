-- What a device in memory keeps: its blocks, and what each write since the last flush has overwritten.
use Rattle.std.specs.Prelude.{ℕ, ◌<◌, List, [], ◌∷◌, length, map, slice_set, All}
use Rattle.dev_model.specs.Disk.{Asked, Disk, IsBlock, IsDisk}
use Rattle.dev_model.specs.declared.disk.Overwritten.{Overwritten}

-- the blocks before the writes that overwrote these, the oldest first
abbrev pub restored : List Overwritten → List (List ℕ) → List (List ℕ)
restored [] blocks = blocks
restored (first ∷ later) blocks = slice_set (restored later blocks) first.block first.bytes

-- the write that was asked for
abbrev pub asked_of : Overwritten → Asked
asked_of one = record { block = one.block; bytes = one.asked }

-- the disk of these blocks, with what the pending ones held
abbrev pub disk_by : List (List ℕ) → List Overwritten → ℕ → Disk
disk_by blocks overwritten shortest = record {
  blocks = blocks;
  settled = restored overwritten blocks;
  asked = map asked_of overwritten;
  shortest = shortest;
}

-- what holds of all that is kept: it is a disk, and each overwritten block is one of its blocks
pub record IsKept (blocks : List (List ℕ)) (overwritten : List Overwritten) (shortest : ℕ) : Type 0 where
  pub disk : IsDisk (disk_by blocks overwritten shortest)
  pub bytes : All (λ one. IsBlock one.bytes) overwritten
  pub places : All (λ one. one.block < length blocks) overwritten
