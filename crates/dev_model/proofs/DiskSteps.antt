-- What a step leaves of the disks, and what is read of one of them.
use Rattle.std.proofs.Common.{◌≡◌, ℕ, zero, suc, ◌<◌, List, [], ◌∷◌, length, map, get_or, slice_get, Some, refl, ap, ◌∙◌, sym, subst, arith}
use Rattle.std.proofs.lemmas.List.{length-set}
use Rattle.std.proofs.lemmas.List.Elements.{All-head, All-tail, All-cons, All-nil}
use Rattle.dev_model.specs.Disk.{Disk, IsAtRest, NothingPending, sizes_of, as_read, block_at, blocks_of, changed, blank, patched}
use Rattle.dev_model.specs.Replay.{after_step}
use Rattle.dev_model.specs.declared.recording.Step.{Step}
use Rattle.dev_model.specs.declared.recording.Step.TheVariants.{Nothing, Extended, Written, Flushed, Patched}
use Rattle.dev_model.proofs.ChangedLists.{length-changed}
use Rattle.dev_model.proofs.SoundDisks.{rest_is_quiet}

pub length-after_step : (step : Step) (devices : List Disk) → length (after_step step devices) ≡ length devices
length-after_step Nothing devices = refl
length-after_step (Extended dev size) devices = length-changed devices dev _
length-after_step (Written dev block bytes left) devices = length-changed devices dev _
length-after_step (Flushed dev) devices = length-changed devices dev _
length-after_step (Patched dev block bytes) devices = length-changed devices dev _

pub blank_is_quiet : (sizes : List ℕ) → NothingPending (map blank sizes)
blank_is_quiet [] = All-nil IsAtRest
blank_is_quiet (size ∷ sizes) = All-cons IsAtRest (blank size) (map blank sizes) (rest_is_quiet (blank size).blocks) (blank_is_quiet sizes)

patched_at_rest : (disk : Disk) (block : ℕ) (bytes : List ℕ) → IsAtRest disk → IsAtRest (patched block bytes disk)
patched_at_rest disk block bytes is = record { writes = is.writes; extension = is.extension ∙ sym (length-set disk.blocks block bytes) }

pub patched_is_quiet : (disks : List Disk) (dev block : ℕ) (bytes : List ℕ) → NothingPending disks → NothingPending (changed dev (patched block bytes) disks)
patched_is_quiet [] dev block bytes quiet = quiet
patched_is_quiet (disk ∷ disks) zero block bytes quiet =
    All-cons IsAtRest (patched block bytes disk) disks (patched_at_rest disk block bytes (All-head IsAtRest disk disks quiet)) (All-tail IsAtRest disk disks quiet)
patched_is_quiet (disk ∷ disks) (suc dev) block bytes quiet =
    All-cons IsAtRest disk (changed dev (patched block bytes) disks) (All-head IsAtRest disk disks quiet) (patched_is_quiet disks dev block bytes (All-tail IsAtRest disk disks quiet))

-- the place lies in its device
pub size_at : (devices : List Disk) (dev block : ℕ) (d : Disk) → block < get_or (sizes_of devices) dev 0 → (dev < length devices) × (block < length (get_or devices dev d).blocks)
size_at [] dev block d place = absurd (omega (arith, place))
size_at (disk ∷ devices) zero block d place = (omega arith, place)
size_at (disk ∷ devices) (suc dev) block d place = let rest = size_at devices dev block d place in (omega (arith, rest.0), rest.1)

-- the number of blocks of a device
pub size_of : (devices : List Disk) (dev : ℕ) (d : Disk) → dev < length devices → d ≡ get_or devices dev d → length d.blocks ≡ get_or (sizes_of devices) dev 0
size_of [] dev d in_range read = absurd (omega (arith, in_range))
size_of (disk ∷ devices) zero d in_range read = ap (λ (s : Disk). length s.blocks) read
size_of (disk ∷ devices) (suc dev) d in_range read = size_of devices dev d (omega (arith, in_range)) read

-- what is read at a place
pub block_read : (devices : List Disk) (dev block : ℕ) (d : Disk) (bytes : List ℕ) → dev < length devices → d ≡ get_or devices dev d → slice_get d.blocks block ≡ Some bytes → block_at (as_read devices) dev block ≡ Some bytes
block_read [] dev block d bytes in_range read is = absurd (omega (arith, in_range))
block_read (disk ∷ devices) zero block d bytes in_range read is = ap (λ (s : Disk). slice_get s.blocks block) (sym read) ∙ is
block_read (disk ∷ devices) (suc dev) block d bytes in_range read is = block_read devices dev block d bytes (omega (arith, in_range)) read is

-- the blocks that are read of a device
pub blocks_read : (devices : List Disk) (dev : ℕ) (d : Disk) → dev < length devices → d ≡ get_or devices dev d → blocks_of (as_read devices) dev ≡ d.blocks
blocks_read [] dev d in_range read = absurd (omega (arith, in_range))
blocks_read (disk ∷ devices) zero d in_range read = ap (λ (s : Disk). s.blocks) (sym read)
blocks_read (disk ∷ devices) (suc dev) d in_range read = blocks_read devices dev d (omega (arith, in_range)) read

-- what is read there, or nothing
pub block_read_or : (devices : List Disk) (dev block : ℕ) (d : Disk) (bytes : List ℕ) → dev < length devices → d ≡ get_or devices dev d → slice_get d.blocks block ≡ Some bytes → get_or (blocks_of (as_read devices) dev) block [] ≡ bytes
block_read_or devices dev block d bytes in_range read is = ap (λ (blocks : List (List ℕ)). get_or blocks block []) (blocks_read devices dev d in_range read) ∙ there d.blocks block bytes is
  where
    there : (blocks : List (List ℕ)) (b : ℕ) (x : List ℕ) → slice_get blocks b ≡ Some x → get_or blocks b [] ≡ x
    there [] b x is = cc
    there (first ∷ blocks) zero x is = cc
    there (first ∷ blocks) (suc b) x is = there blocks b x is

-- nothing of a device is pending where nothing is
pub pending_of : (devices : List Disk) (dev : ℕ) (d : Disk) → dev < length devices → d ≡ get_or devices dev d → NothingPending devices → IsAtRest d
pending_of [] dev d in_range read quiet = absurd (omega (arith, in_range))
pending_of (disk ∷ devices) zero d in_range read quiet = subst IsAtRest (sym read) (All-head IsAtRest disk devices quiet)
pending_of (disk ∷ devices) (suc dev) d in_range read quiet = pending_of devices dev d (omega (arith, in_range)) read (All-tail IsAtRest disk devices quiet)
