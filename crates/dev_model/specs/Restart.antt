-- What a restart finds, for each pick of what the crash left.
use Rattle.std.specs.Prelude.{ℕ, List, ◌++◌, map, take, drop}
use Rattle.std.specs.List.{zip}
use Rattle.dev_model.specs.Disk.{Disk, Image}
use Rattle.dev_model.specs.declared.disk.Pick.{Pick}
use Rattle.dev_model.specs.declared.disk.Pick.TheVariants.{AllWritten, NoneWritten, Torn}

-- the first half of one block, then the second half of another
abbrev pub torn : List ℕ → List ℕ → List ℕ
torn first second = take 2048 first ++ drop 2048 second

-- what a write leaves of a block by this pick, when it fails: the new bytes, the old ones, or the first half of the new ones
abbrev pub block_left_by : Pick → List ℕ → List ℕ → List ℕ
block_left_by AllWritten new old = new
block_left_by NoneWritten new old = old
block_left_by Torn new old = torn new old

-- What is left of a device: all as it is read; or all as it was last settled, as short as it may be; or of each block the
-- first half as it is read and the second half as it was settled, as long as it is read.
abbrev pub blocks_left_by : Pick → Disk → List (List ℕ)
blocks_left_by AllWritten disk = disk.blocks
blocks_left_by NoneWritten disk = take disk.shortest disk.settled
blocks_left_by Torn disk = map (λ (pair : List ℕ × List ℕ). torn pair.0 pair.1) (zip disk.blocks disk.settled)

-- the image that is left of the devices
abbrev pub left_by : Pick → List Disk → Image
left_by pick disks = map (blocks_left_by pick) disks
