-- A device that a crash leaves as it is read has held nothing but what is read, and a call that writes elsewhere leaves it so.
use Rattle.std.proofs.Common.{◌≡◌, inl, inr, ⊎_elim, ℕ, zero, suc, ◌<◌, ◌≤◌, List, [], ◌∷◌, length, get_or, replicate, set, slice_get, Some, refl, sym, ap, subst, ◌∙◌, arith}
use Rattle.std.proofs.lemmas.Bool.{cases_eq, cases_lt}
use Rattle.std.proofs.lemmas.List.{get_or-replicate, length-replicate, length-set}
use Rattle.std.proofs.lemmas.List.Elements.{All-head, All-replicate, All-set, All-tail}
use Rattle.std.proofs.lemmas.Option.{none-some, same_Some, slice_get-get_or, slice_get_past}
use Rattle.std.specs.Prelude.{All}
use Rattle.dev_model.specs.CrashDisks.{read_may_be_left, slice_get-set_other}
use Rattle.dev_model.specs.CrashLaws.{as_read_may_be_left}
use Rattle.dev_model.specs.Crashes.{IsQuiet}
use Rattle.dev_model.specs.Devices.{DevicesState, now}
use Rattle.dev_model.specs.Disk.{Asked, Disk, Image, IsAtRest, IsBlock, IsCrashImage, IsCrashOf, IsDisk, IsPending, as_read, block_at, blocks_of}
use Rattle.dev_model.specs.HeldBlocks.{HasHeld, HaveHeld}
use Rattle.dev_model.specs.PlaceLaws.{IsSettled}
use Rattle.crash_safety.specs.Parts.{AsksAt}
use Rattle.crash_safety.proofs.OtherBlock.{with_block, with_block_at}

-- ---- what is read of a device

disk_read : (disks : List Disk) (dev : ℕ) (disk : Disk) (block : ℕ) → slice_get disks dev ≡ Some disk → block_at (as_read disks) dev block ≡ slice_get disk.blocks block
disk_read [] dev disk block there = absurd (none-some disk there)
disk_read (one ∷ disks) zero disk block there = ap (λ (d : Disk). slice_get d.blocks block) (same_Some one disk there)
disk_read (one ∷ disks) (suc dev) disk block there = disk_read disks dev disk block there

disk_blocks : (disks : List Disk) (dev : ℕ) (disk : Disk) → slice_get disks dev ≡ Some disk → blocks_of (as_read disks) dev ≡ disk.blocks
disk_blocks [] dev disk there = absurd (none-some disk there)
disk_blocks (one ∷ disks) zero disk there = ap (λ (d : Disk). d.blocks) (same_Some one disk there)
disk_blocks (one ∷ disks) (suc dev) disk there = disk_blocks disks dev disk there

is_disk : (disks : List Disk) (dev : ℕ) (disk : Disk) → All IsDisk disks → slice_get disks dev ≡ Some disk → IsDisk disk
is_disk [] dev disk are there = absurd (none-some disk there)
is_disk (one ∷ disks) zero disk are there = subst IsDisk (same_Some one disk there) (are 0 one (omega arith))
is_disk (one ∷ disks) (suc dev) disk are there = is_disk disks dev disk (All-tail IsDisk one disks are) there

-- ---- a pending block isn't left as it is read

-- a block of which each byte is this one
filled : ℕ → List ℕ
filled byte = replicate 4096 byte

filled_is_block : (byte : ℕ) → byte < 256 → IsBlock (filled byte)
unfolding filled
filled_is_block byte few = record { size = length-replicate 4096 byte; bytes = All-replicate (λ b. b < 256) 4096 byte few }

first_of_filled : (byte : ℕ) → get_or (filled byte) 0 0 ≡ byte
unfolding filled
first_of_filled byte = get_or-replicate 4096 0 byte 0 (omega arith)

-- A crash may leave any bytes in a pending block.
left_with : (disk : Disk) (block : ℕ) (bytes : List ℕ) → IsDisk disk → IsBlock bytes → IsPending disk block → IsCrashOf disk (set disk.blocks block bytes)
left_with disk block bytes is is_block pending =
    let size = length-set disk.blocks block bytes in
    let shortest = is.shortest in
    record {
      no_shorter = omega (arith, size, shortest);
      no_longer = omega (arith, size);
      blocks = All-set IsBlock disk.blocks block bytes is_block is.blocks;
      settled = λ b within not_pending. ⊎_elim
          (λ (same : b ≡ block). absurd (not_pending (subst (IsPending disk) (sym same) pending)))
          (λ (differs : ¬ (b ≡ block)). slice_get-set_other disk.blocks block b bytes differs)
          (cases_eq b block);
    }

image_with : (disks : List Disk) (dev block : ℕ) (bytes : List ℕ) → All IsDisk disks → IsBlock bytes → ((disk : Disk) → slice_get disks dev ≡ Some disk → IsPending disk block) → IsCrashImage disks (with_block dev block bytes (as_read disks))
image_with [] dev block bytes are is_block pending = tt
image_with (disk ∷ disks) zero block bytes are is_block pending = (left_with disk block bytes (All-head IsDisk disk disks are) is_block (pending disk refl), as_read_may_be_left disks (All-tail IsDisk disk disks are))
image_with (disk ∷ disks) (suc dev) block bytes are is_block pending = (read_may_be_left disk (All-head IsDisk disk disks are), image_with disks dev block bytes (All-tail IsDisk disk disks are) is_block pending)

module _ (disks : List Disk) (are : All IsDisk disks) (dev : ℕ) (settled : IsSettled disks dev) (disk : Disk) (there : slice_get disks dev ≡ Some disk) (block : ℕ) (within : block < length disk.blocks) where
  stands : block_at (as_read disks) dev block ≡ Some (get_or disk.blocks block [])
  stands = disk_read disks dev disk block there ∙ slice_get-get_or disk.blocks block [] within

  read_as : (byte : ℕ) → byte < 256 → IsPending disk block → get_or disk.blocks block [] ≡ filled byte
  read_as byte few pending =
      let left = image_with disks dev block (filled byte) are (filled_is_block byte few) (λ (d : Disk) is. subst (λ (e : Disk). IsPending e block) (same_Some disk d (sym there ∙ is)) pending) in
      same_Some (get_or disk.blocks block []) (filled byte)
      (sym stands ∙ sym (settled (with_block dev block (filled byte) (as_read disks)) left block) ∙ with_block_at (as_read disks) (as_read disks) dev block (filled byte) (get_or disk.blocks block []) refl stands)

  not_pending : ¬ IsPending disk block
  not_pending pending =
      let same : filled 0 ≡ filled 1 = sym (read_as 0 (omega arith) pending) ∙ read_as 1 (omega arith) pending in
      let first : 0 ≡ 1 = sym (first_of_filled 0) ∙ ap (λ (bytes : List ℕ). get_or bytes 0 0) same ∙ first_of_filled 1 in
      omega (arith, first)

  held_read : (bytes : List ℕ) → HasHeld disk block bytes → block_at (as_read disks) dev block ≡ Some bytes
  held_read bytes (inl was) = disk_read disks dev disk block there ∙ (is_disk disks dev disk are there).at_rest block not_pending ∙ was
  held_read bytes (inr asked) = absurd (not_pending (bytes, asked))

-- What a device that a crash leaves as it is read has held is what is read.
pub settled_held : (disks : List Disk) (dev block : ℕ) (bytes : List ℕ) → All IsDisk disks → IsSettled disks dev → block < length (blocks_of (as_read disks) dev) → HaveHeld disks dev block bytes → block_at (as_read disks) dev block ≡ Some bytes
settled_held disks dev block bytes are settled within held =
    held_read disks are dev settled held.0 held.1 block (subst (λ (blocks : List (List ℕ)). block < length blocks) (disk_blocks disks dev held.0 held.1) within) bytes held.2

-- ---- which devices are so

-- Quiet ones,
pub settled_quiet : (disks : List Disk) → IsQuiet disks → (dev : ℕ) → IsSettled disks dev
settled_quiet disks quiet dev image may block = ap (λ (i : Image). block_at i dev block) (quiet image may)

none_asked : (disk : Disk) → IsAtRest disk → (k : ℕ) → k < length disk.asked → ⊥
none_asked disk rest k low = let none = subst (λ (ws : List Asked). k < length ws) rest.writes low in omega (arith, none)

left_at_rest : (disk : Disk) (left : List (List ℕ)) → IsAtRest disk → IsCrashOf disk left → (block : ℕ) → slice_get left block ≡ slice_get disk.blocks block
left_at_rest disk left rest may block = ⊎_elim
    (λ (within : block < length left). may.settled block within (λ pending. none_asked disk rest pending.1.0 pending.1.1))
    (λ (past : length left ≤ block). let shortest = may.no_shorter in let extension = rest.extension in slice_get_past left block past ∙ sym (slice_get_past disk.blocks block (omega (arith, past, shortest, extension))))
    (cases_lt block (length left))

-- and those at rest.
pub settled_at_rest : (disks : List Disk) (dev : ℕ) → ((disk : Disk) → slice_get disks dev ≡ Some disk → IsAtRest disk) → IsSettled disks dev
settled_at_rest [] dev rest [] may block = refl
settled_at_rest [] dev rest (left ∷ image) may block = absurd may
settled_at_rest (disk ∷ disks) dev rest [] may block = absurd may
settled_at_rest (disk ∷ disks) zero rest (left ∷ image) may block = left_at_rest disk left (rest disk refl) may.0 block
settled_at_rest (disk ∷ disks) (suc dev) rest (left ∷ image) may block = settled_at_rest disks dev rest image may.1 block

-- A call that writes to none of a device's places leaves it so.
pub settled_beside : (touched : ℕ → ℕ → Type 0) (asked : ℕ → ℕ → List ℕ → Type 0) (old new : DevicesState) (dev : ℕ) → AsksAt touched asked old new → ((block : ℕ) → ¬ touched dev block) → IsSettled (now old) dev → IsSettled (now new) dev
settled_beside touched asked old new dev call away settled image may block =
    let left = call.crashes.each new.moment call.crashes.later (omega arith) image may in
    sym (left.2 dev block (away block)) ∙ settled left.0 left.1 block ∙ call.elsewhere dev block (away block)
