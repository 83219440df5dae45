-- What flushes and mirrored writes leave, and what they ask for.
use Rattle.std.proofs.Common.{◌≡◌, ℕ, zero, suc, ◌+◌, ◌<◌, ◌≤◌, Bool, List, [], ◌∷◌, length, get_or, slice_get, Some, refl, ap, ◌∙◌, sym, subst, arith, ⊎_elim, All, MatchResult, Result, Ok, Err}
use Rattle.std.proofs.lemmas.Bool.{cases_lt}
use Rattle.std.proofs.lemmas.List.{length-map}
use Rattle.std.proofs.lemmas.Option.{none-some, same_Some}
use Rattle.dev_model.specs.Disk.{Disk, Image, IsAtRest, IsBlock, IsDisk, IsCrashImage, as_read, block_at, changed, after_write, flushed, written, sizes_of}
use Rattle.dev_model.specs.Devices.{DevicesState, ChangesDisks, Is, MayBeWritten, now}
use Rattle.dev_model.specs.Crashes.{EachCrash, IsAt, IsCrashImageBut, SameBut}
use Rattle.dev_model.specs.CrashLaws.{started, goes_on}
use Rattle.dev_model.specs.CrashDisks.{left_by_flush, slice_get-set_other}
use Rattle.dev_model.specs.HeldBlocks.{HaveHeld, HoldOnly}
use Rattle.dev_model.specs.HeldLaws.{no_chance_before}
use Rattle.dev_model.specs.PlaceLaws.{IsSettled, reads_flushed, reads_written, reads_written_elsewhere, settled_by_flush, settled_over_flush}
use Rattle.geometry.specs.Mirrors.{AreAtRest, HoldMirrors, NoBlock}

-- There are as many sizes as disks.
pub disk_count : (disks : List Disk) → length (sizes_of disks) ≡ length disks
disk_count disks = length-map {B = ℕ} disks (λ (disk : Disk). length disk.blocks)

-- Before the first flush a crash leaves what it may leave now.
pub flushes_none : (state : DevicesState) → EachCrash (λ _ _ image. IsCrashImage (now state) image) state state
flushes_none state = started (λ _ _ image. IsCrashImage (now state) image) state (λ image may. may)

-- One flush more leaves nothing that might not have been left before.
pub flushes_more : {T E : Type 0} (result : Result T E) (dev : ℕ) (old mid new : DevicesState) → All IsDisk (now mid)
    → EachCrash (λ _ _ image. IsCrashImage (now old) image) old mid → ChangesDisks result (Is (now mid)) (Is (changed dev flushed (now mid))) mid new
    → EachCrash (λ _ _ image. IsCrashImage (now old) image) old new
flushes_more result dev old mid new are so_far changes = goes_on result (λ _ _ image. IsCrashImage (now old) image) _ _ old mid new so_far changes
    (λ m disks image is may. here image (subst (λ ds. IsCrashImage ds image) is may))
    (λ m disks image is may. here image (left_by_flush (now mid) dev are image (subst (λ ds. IsCrashImage ds image) is may)))
  where
    here : (image : Image) → IsCrashImage (now mid) image → IsCrashImage (now old) image
    here image may = so_far.each mid.moment so_far.later (omega arith) image may

-- What a flush that ends leaves to be read.
pub reads_as_before : {T E : Type 0} (result : Result T E) (dev : ℕ) (mid new : DevicesState) → ChangesDisks result (Is (now mid)) (Is (changed dev flushed (now mid))) mid new
    → (d b : ℕ) → block_at (as_read (now new)) d b ≡ block_at (as_read (now mid)) d b
reads_as_before (Ok x) dev mid new changes d b = subst (λ ds. block_at (as_read ds) d b ≡ block_at (as_read (now mid)) d b) (sym changes.after) (reads_flushed (now mid) dev d b)
reads_as_before (Err e) dev mid new changes d b = subst (λ ds. block_at (as_read ds) d b ≡ block_at (as_read (now mid)) d b) (sym changes.after) refl

-- After one flush more one device more is settled.
pub settles_more : (disks new : List Disk) (count : ℕ) → All IsDisk disks → count < length disks → new ≡ changed count flushed disks
    → ((dev : ℕ) → dev < count → IsSettled disks dev) → (dev : ℕ) → dev < count + 1 → IsSettled new dev
settles_more disks new count are within is settled dev le = subst (λ ds. IsSettled ds dev) (sym is) (⊎_elim
    (λ (before : dev < count). settled_over_flush disks count dev are (settled dev before))
    (λ (last : count ≤ dev). let e : count ≡ dev = omega (arith, le, last) in subst (λ n. IsSettled (changed count flushed disks) n) e (settled_by_flush disks count within))
    (cases_lt dev count))

-- What was flushed is at rest, and what wasn't is as it was.
at_flushed : (disks : List Disk) (dev : ℕ) (disk : Disk) → slice_get (changed dev flushed disks) dev ≡ Some disk → IsAtRest disk
at_flushed [] dev disk there = absurd (none-some disk there)
at_flushed (one ∷ disks) zero disk there = subst IsAtRest (same_Some (flushed one) disk there) (record { writes = refl; extension = refl })
at_flushed (one ∷ disks) (suc dev) disk there = at_flushed disks dev disk there

not_flushed : (disks : List Disk) (dev other : ℕ) → ¬ (other ≡ dev) → slice_get (changed dev flushed disks) other ≡ slice_get disks other
not_flushed [] dev other differs = refl
not_flushed (one ∷ disks) zero zero differs = absurd (differs refl)
not_flushed (one ∷ disks) zero (suc other) differs = refl
not_flushed (one ∷ disks) (suc dev) zero differs = refl
not_flushed (one ∷ disks) (suc dev) (suc other) differs = not_flushed disks dev other (λ e. differs (ap suc e))

-- After one flush more one device more is at rest.
pub rests_more : (disks new : List Disk) (count : ℕ) → new ≡ changed count flushed disks → AreAtRest count disks → AreAtRest (count + 1) new
rests_more disks new count is rest dev disk le there =
    let at : slice_get (changed count flushed disks) dev ≡ Some disk = subst (λ (ds : List Disk). slice_get ds dev ≡ Some disk) is there in
    ⊎_elim
    (λ (before : dev < count). rest dev disk before (sym (not_flushed disks count dev (λ e. omega (arith, e, before))) ∙ at))
    (λ (last : count ≤ dev). let e : dev ≡ count = omega (arith, le, last) in at_flushed disks count disk (subst (λ n. slice_get (changed count flushed disks) n ≡ Some disk) e at))
    (cases_lt dev count)

-- After one write more one mirror more is read.
pub written_more : (disks new : List Disk) (count block : ℕ) (bytes : List ℕ) → block < get_or (sizes_of disks) count 0 → new ≡ changed count (written block bytes) disks
    → ((dev : ℕ) → dev < count → block_at (as_read disks) dev block ≡ Some bytes) → (dev : ℕ) → dev < count + 1 → block_at (as_read new) dev block ≡ Some bytes
written_more disks new count block bytes within is before dev le = subst (λ ds. block_at (as_read ds) dev block ≡ Some bytes) (sym is) (⊎_elim
    (λ (earlier : dev < count). reads_written_elsewhere disks count block bytes dev block (λ at. omega (arith, earlier, at.0)) ∙ before dev earlier)
    (λ (last : count ≤ dev). let e : count ≡ dev = omega (arith, le, last) in subst (λ n. block_at (as_read (changed count (written block bytes) disks)) n block ≡ Some bytes) e (reads_written disks count block bytes within))
    (cases_lt dev count))

-- The flushes after writes leave what the writes might leave.
pub flushed_after : (touched : ℕ → ℕ → Type 0) (first : List Disk) (old mid new : DevicesState) → EachCrash (λ _ _ image. IsCrashImageBut touched first image) old mid
    → EachCrash (λ _ _ image. IsCrashImage (now mid) image) mid new → EachCrash (λ _ _ image. IsCrashImageBut touched first image) old new
flushed_after touched first old mid new so_far flushes = record {
  later = omega (arith, so_far.later, flushes.later);
  past = λ m le. flushes.past m (omega (arith, le, so_far.later)) ∙ so_far.past m le;
  each = λ m lo hi image may. ⊎_elim
      (λ (later : mid.moment < m). so_far.each mid.moment so_far.later (omega arith) image (flushes.each m (omega (arith, later)) hi image may))
      (λ (earlier : m ≤ mid.moment). so_far.each m lo earlier image (subst (λ ds. IsCrashImage ds image) (flushes.past m earlier) may))
      (cases_lt mid.moment m);
}

-- Blocks that are read, on devices that are settled, are held.
pub settled_mirrors : (mid new : List Disk) (mirrors block : ℕ) (bytes : List ℕ) → HoldMirrors mirrors block bytes (as_read mid)
    → ((dev b : ℕ) → block_at (as_read new) dev b ≡ block_at (as_read mid) dev b) → ((dev : ℕ) → dev < mirrors → IsSettled new dev)
    → (image : Image) → IsCrashImage new image → HoldMirrors mirrors block bytes image
settled_mirrors mid new mirrors block bytes read same settled image may dev within = settled dev within image may block ∙ same dev block ∙ read dev within

-- Flushes after writes ask for nothing more than the writes.
pub hold_then_flushes : (opens : List ℕ → Bool) (asked : ℕ → ℕ → List ℕ → Type 0) (old mid new : DevicesState) → old.moment ≤ mid.moment
    → ((m : ℕ) → m ≤ mid.moment → new.disks m ≡ mid.disks m) → HoldOnly opens asked old mid → HoldOnly opens NoBlock mid new → HoldOnly opens asked old new
hold_then_flushes opens asked old mid new begun past writes flushes m lo hi d b no_chance x is_open held = ⊎_elim
    (λ (later : mid.moment < m). ⊎_elim
    (λ (before : HaveHeld (now mid) d b x).
    writes mid.moment begun (omega arith) d b (no_chance_before opens d b old.moment m mid new past mid.moment (omega (arith, later)) (omega arith) no_chance) x is_open before)
    (λ (none : ⊥). absurd none)
    (flushes m (omega (arith, later)) hi d b (λ n from to. no_chance n (omega (arith, begun, from)) to) x is_open held))
    (λ (earlier : m ≤ mid.moment).
    writes m lo earlier d b (no_chance_before opens d b old.moment m mid new past m (omega arith) earlier no_chance) x is_open
    (subst (λ (ds : List Disk). HaveHeld ds d b x) (past m earlier) held))
    (cases_lt mid.moment m)
