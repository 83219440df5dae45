-- How the image as it is read has the sizes and the copies of its devices.
use Rattle.std.proofs.Common.{◌≡◌, ℕ, zero, suc, ◌≤◌, List, [], ◌∷◌, length, map, get_or, Some, None, refl, ap, ◌∙◌, arith}
use Rattle.std.proofs.lemmas.Option.{slice_get_past}
use Rattle.std.specs.Prelude.{option_and_then}
use Rattle.dev_model.specs.Disk.{Disk, Image, as_read, block_at, blocks_of, sizes_of}
use Rattle.geometry.specs.SuperLaws.{block_of}
use Rattle.geometry.specs.Superblocks.{copy_at, copy_in}

-- A device has as many blocks as its size says.
pub size_at : (disks : List Disk) (dev : ℕ) → get_or (sizes_of disks) dev 0 ≡ length (blocks_of (as_read disks) dev)
size_at [] zero = refl
size_at [] (suc dev) = refl
size_at (disk ∷ disks) zero = refl
size_at (disk ∷ disks) (suc dev) = size_at disks dev

-- The sizes are those of the image that is read.
pub read_sizes : (disks : List Disk) → map (λ (blocks : List (List ℕ)). length blocks) (as_read disks) ≡ sizes_of disks
read_sizes [] = refl
read_sizes (disk ∷ disks) = ap (λ sizes. length disk.blocks ∷ sizes) (read_sizes disks)

-- A device that is too short for a block has no copy there.
pub no_copy_past : (disks : List Disk) (dev block : ℕ) → get_or (sizes_of disks) dev 0 ≤ block → copy_at block (blocks_of (as_read disks) dev) ≡ None
no_copy_past disks dev block past = ap (option_and_then (copy_in block)) (slice_get_past (blocks_of (as_read disks) dev) block (omega (arith, past, size_at disks dev)))

-- The copy in a block is the one that its bytes hold.
pub copy_of_block : (image : Image) (dev block : ℕ) (bytes : List ℕ) → block_at image dev block ≡ Some bytes → copy_at block (blocks_of image dev) ≡ copy_in block bytes
copy_of_block image dev block bytes at = ap (option_and_then (copy_in block)) (block_of image dev block ∙ at)

-- The image has a device for each size.
pub as_many_read : (disks : List Disk) → length (as_read disks) ≡ length (sizes_of disks)
as_many_read [] = refl
as_many_read (disk ∷ disks) = ap suc (as_many_read disks)
