-- What is read at a place, and what a crash leaves there, after a write or a flush; laws for whoever calls devices.
use Rattle.std.proofs.Common.{◌≡◌, ◌≢◌, ℕ, zero, suc, ◌<◌, ◌≤◌, List, [], ◌∷◌, length, map, get_or, set, slice_get, Option, None, Some, refl, subst, ap, ◌∙◌, sym, arith, ⊎_elim, All}
use Rattle.std.proofs.lemmas.Option.{slice_get_past, slice_get-get_or}
use Rattle.std.proofs.lemmas.List.{ext_get_or}
use Rattle.std.proofs.lemmas.Bool.{cases_lt}
use Rattle.dev_model.specs.Disk.{Disk, IsDisk, Image, IsCrashOf, IsCrashImage, as_read, block_at, changed, written, flushed, at_rest, sizes_of}
use Rattle.dev_model.specs.Crashes.{IsAt, IsQuiet}
use Rattle.dev_model.specs.CrashDisks.{slice_get-set_other, left_by_write, left_by_flush}

-- A crash leaves this device as it is read.
abbrev pub IsSettled : List Disk → ℕ → Type 0
IsSettled disks dev = (image : Image) → IsCrashImage disks image → (block : ℕ) → block_at image dev block ≡ block_at (as_read disks) dev block

-- A flush changes nothing that is read.
pub reads_flushed : (disks : List Disk) (dev d b : ℕ) → block_at (as_read (changed dev flushed disks)) d b ≡ block_at (as_read disks) d b
reads_flushed [] dev d b = refl
reads_flushed (disk ∷ disks) zero zero b = refl
reads_flushed (disk ∷ disks) zero (suc d) b = refl
reads_flushed (disk ∷ disks) (suc dev) zero b = refl
reads_flushed (disk ∷ disks) (suc dev) (suc d) b = reads_flushed disks dev d b

slice_get-set_here : (blocks : List (List ℕ)) (block : ℕ) (bytes : List ℕ) → block < length blocks → slice_get (set blocks block bytes) block ≡ Some bytes
slice_get-set_here [] block bytes within = absurd (omega (arith, within))
slice_get-set_here (first ∷ blocks) zero bytes within = refl
slice_get-set_here (first ∷ blocks) (suc block) bytes within = slice_get-set_here blocks block bytes (omega (arith, within))

-- After a write the bytes are read at its place.
pub reads_written : (disks : List Disk) (dev block : ℕ) (bytes : List ℕ) → block < get_or (sizes_of disks) dev 0 → block_at (as_read (changed dev (written block bytes) disks)) dev block ≡ Some bytes
reads_written [] zero block bytes within = absurd (omega (arith, within))
reads_written [] (suc dev) block bytes within = absurd (omega (arith, within))
reads_written (disk ∷ disks) zero block bytes within = slice_get-set_here disk.blocks block bytes within
reads_written (disk ∷ disks) (suc dev) block bytes within = reads_written disks dev block bytes within

-- Elsewhere what was read before is read.
pub reads_written_elsewhere : (disks : List Disk) (dev block : ℕ) (bytes : List ℕ) (d b : ℕ) → ¬ IsAt dev block d b → block_at (as_read (changed dev (written block bytes) disks)) d b ≡ block_at (as_read disks) d b
reads_written_elsewhere [] dev block bytes d b elsewhere = refl
reads_written_elsewhere (disk ∷ disks) zero block bytes zero b elsewhere = slice_get-set_other disk.blocks block b bytes (λ e. elsewhere (refl, e))
reads_written_elsewhere (disk ∷ disks) zero block bytes (suc d) b elsewhere = refl
reads_written_elsewhere (disk ∷ disks) (suc dev) block bytes zero b elsewhere = refl
reads_written_elsewhere (disk ∷ disks) (suc dev) block bytes (suc d) b elsewhere = reads_written_elsewhere disks dev block bytes d b (λ at. elsewhere (ap suc at.0, at.1))

-- A disk at rest is left as it is read.
pub rest_leaves : (blocks left : List (List ℕ)) → IsCrashOf (at_rest blocks) left → (block : ℕ) → slice_get left block ≡ slice_get blocks block
rest_leaves blocks left may block = ⊎_elim
    (λ (within : block < length left). may.settled block within (λ pending. omega (arith, pending.1.1)))
    (λ (past : length left ≤ block). slice_get_past left block past ∙ sym (slice_get_past blocks block (omega (arith, past, may.no_shorter))))
    (cases_lt block (length left))

abbrev the_block : Option (List ℕ) → List ℕ
the_block None = []
the_block (Some block) = block

blocks_left_at_rest : (blocks left : List (List ℕ)) → IsCrashOf (at_rest blocks) left → left ≡ blocks
blocks_left_at_rest blocks left may =
    let as_many : length left ≡ length blocks = omega (arith, may.no_shorter, may.no_longer) in
    ext_get_or [] left blocks as_many (λ i within.
    let there : i < length blocks = omega (arith, within, as_many) in
    ap the_block (sym (slice_get-get_or left i [] within) ∙ rest_leaves blocks left may i ∙ slice_get-get_or blocks i [] there))

image_left_at_rest : (blocks image : Image) → IsCrashImage (map at_rest blocks) image → image ≡ blocks
image_left_at_rest [] [] may = refl
image_left_at_rest [] (left ∷ image) may = absurd may
image_left_at_rest (blocks ∷ more) [] may = absurd may
image_left_at_rest (blocks ∷ more) (left ∷ image) may =
    ap (λ (l : List (List ℕ)). l ∷ image) (blocks_left_at_rest blocks left may.0) ∙ ap (λ (ls : Image). blocks ∷ ls) (image_left_at_rest more image may.1)

-- Disks at rest are quiet.
pub rest_is_quiet : (disks : List Disk) → disks ≡ map at_rest (as_read disks) → IsQuiet disks
rest_is_quiet disks rest image may = image_left_at_rest (as_read disks) image (subst (λ (ds : List Disk). IsCrashImage ds image) rest may)

-- A flush settles its device.
pub settled_by_flush : (disks : List Disk) (dev : ℕ) → dev < length disks → IsSettled (changed dev flushed disks) dev
settled_by_flush [] dev within image may block = absurd (omega (arith, within))
settled_by_flush (disk ∷ disks) zero within [] may block = absurd may
settled_by_flush (disk ∷ disks) zero within (left ∷ image) may block = rest_leaves disk.blocks left may.0 block
settled_by_flush (disk ∷ disks) (suc dev) within [] may block = absurd may
settled_by_flush (disk ∷ disks) (suc dev) within (left ∷ image) may block = settled_by_flush disks dev (omega (arith, within)) image may.1 block

-- It leaves every other device settled that was.
pub settled_over_flush : (disks : List Disk) (dev other : ℕ) → All IsDisk disks → IsSettled disks other → IsSettled (changed dev flushed disks) other
settled_over_flush disks dev other are settled image may block =
    settled image (left_by_flush disks dev are image may) block ∙ sym (reads_flushed disks dev other block)

-- So does a write to another device.
pub settled_over_write : (disks : List Disk) (dev block : ℕ) (bytes : List ℕ) (other : ℕ) → other ≢ dev → All IsDisk disks → IsSettled disks other → IsSettled (changed dev (written block bytes) disks) other
settled_over_write disks dev block bytes other differs are settled image may b =
    let before = left_by_write disks dev block bytes bytes are image may in
    let elsewhere : ¬ IsAt dev block other b = λ at. differs at.0 in
    sym (before.2 other b elsewhere) ∙ settled before.0 before.1 b ∙ sym (reads_written_elsewhere disks dev block bytes other b elsewhere)
