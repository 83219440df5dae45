-- A flush asks for nothing, and it settles its device.
use Rattle.std.proofs.Common.{◌≡◌, ◌≢◌, ⊎_elim, ℕ, zero, suc, ◌<◌, ◌≤◌, Bool, true, false, List, [], ◌∷◌, ◌++◌, length, drop, replicate, set, slice_get, Some, Result, Ok, Err, refl, sym, ap, subst, ◌∙◌, arith}
use Rattle.std.proofs.lemmas.Bool.{cases_eq, cases_lt}
use Rattle.std.specs.Prelude.{All}
use Rattle.dev_model.specs.CrashLaws.{goes_on_flush, left_itself, started}
use Rattle.dev_model.specs.Crashes.{IsCrashImageBut, SameBut}
use Rattle.dev_model.specs.Devices.{ChangesDisks, DevicesState, Is, now}
use Rattle.dev_model.specs.Disk.{Disk, IsDisk, as_read, block_at, changed, flushed}
use Rattle.dev_model.specs.HeldLaws.{hold_by_flush, hold_here}
use Rattle.dev_model.specs.PlaceLaws.{IsSettled, reads_flushed, settled_by_flush, settled_over_flush}
use Rattle.geometry.specs.Mirrors.{NoBlock}
use Rattle.crash_safety.specs.Flushes.{AreFlushed, Flushes, flags_by, with_flags}
use Rattle.crash_safety.specs.Parts.{AsksAt}

-- no place
abbrev pub NoPlace : ℕ → ℕ → Type 0
NoPlace dev block = ⊥

abbrev result_of : Bool → Result Bool Bool
result_of true = Ok true
result_of false = Err false

-- A flush is a call whose result is that.
as_call : (dev : ℕ) (done : Bool) (old new : DevicesState) → Flushes dev done old new → ChangesDisks (result_of done) (Is (now old)) (Is (changed dev flushed (now old))) old new
as_call dev true old new flush = record { later = flush.later; past = flush.past; inside = flush.inside; after = flush.settles refl; takes_time = flush.takes_time refl }
as_call dev false old new flush = record { later = flush.later; past = flush.past; inside = flush.inside; after = flush.fails refl; takes_time = tt }

reads_stay : (dev : ℕ) (done : Bool) (old new : DevicesState) → Flushes dev done old new → SameBut NoPlace (as_read (now old)) (as_read (now new))
reads_stay dev true old new flush = λ d b none. sym (ap (λ (ds : List Disk). block_at (as_read ds) d b) (flush.settles refl) ∙ reads_flushed (now old) dev d b)
reads_stay dev false old new flush = λ d b none. sym (ap (λ (ds : List Disk). block_at (as_read ds) d b) (flush.fails refl))

-- It asks for nothing.
pub flush_asks : (dev : ℕ) (done : Bool) (old new : DevicesState) → All IsDisk (now old) → Flushes dev done old new → AsksAt NoPlace NoBlock old new
flush_asks dev done old new are flush = record {
  crashes = goes_on_flush NoPlace (now old) old old (started (λ m ds image. IsCrashImageBut NoPlace (now old) image) old (λ image may. left_itself NoPlace (now old) image may)) are (result_of done) dev new (as_call dev done old new flush);
  elsewhere = reads_stay dev done old new flush;
  asks = λ opens. hold_by_flush opens NoBlock old old (omega arith) (hold_here opens NoBlock old) (result_of done) dev new (as_call dev done old new flush);
}

-- ---- devices that are settled

past_devices : (disks : List Disk) (dev : ℕ) → length disks ≤ dev → IsSettled disks dev
past_devices [] dev past [] may block = refl
past_devices [] dev past (left ∷ image) may block = absurd may
past_devices (disk ∷ disks) dev past [] may block = absurd may
past_devices (disk ∷ disks) zero past (left ∷ image) may block = absurd (omega (arith, past))
past_devices (disk ∷ disks) (suc dev) past (left ∷ image) may block = past_devices disks dev (omega (arith, past)) image may.1 block

length-changed : (disks : List Disk) (dev : ℕ) → length (changed dev flushed disks) ≡ length disks
length-changed [] dev = refl
length-changed (disk ∷ disks) zero = refl
length-changed (disk ∷ disks) (suc dev) = ap suc (length-changed disks dev)

-- A flush settles its device.
settled_here : (disks : List Disk) (dev : ℕ) → IsSettled (changed dev flushed disks) dev
settled_here disks dev = ⊎_elim
    (λ (there : dev < length disks). settled_by_flush disks dev there)
    (λ (past : length disks ≤ dev). past_devices (changed dev flushed disks) dev (omega (arith, past, length-changed disks dev)))
    (cases_lt dev (length disks))

flag_elsewhere : (flags : List Bool) (dev other : ℕ) → other ≢ dev → slice_get (set flags dev false) other ≡ slice_get flags other
flag_elsewhere [] dev other differs = refl
flag_elsewhere (flag ∷ flags) zero zero differs = absurd (differs refl)
flag_elsewhere (flag ∷ flags) zero (suc other) differs = refl
flag_elsewhere (flag ∷ flags) (suc dev) zero differs = refl
flag_elsewhere (flag ∷ flags) (suc dev) (suc other) differs = flag_elsewhere flags dev other (λ same. differs (ap suc same))

-- After a flush the flags say which devices are settled.
pub flushed_settled : (mirrors : ℕ) (flags : List Bool) (dev : ℕ) (done : Bool) (old new : DevicesState) → AreFlushed mirrors flags (now old) → All IsDisk (now old) → Flushes dev done old new → AreFlushed mirrors (flags_by dev done flags) (now new)
flushed_settled mirrors flags dev true old new settled are flush other mirror flag =
    subst (λ (disks : List Disk). IsSettled disks other) (sym (flush.settles refl)) (⊎_elim
    (λ (same : other ≡ dev). subst (IsSettled (changed dev flushed (now old))) (sym same) (settled_here (now old) dev))
    (λ (differs : ¬ (other ≡ dev)). settled_over_flush (now old) dev other are (settled other mirror (λ set. flag (flag_elsewhere flags dev other differs ∙ set))))
    (cases_eq other dev))
flushed_settled mirrors flags dev false old new settled are flush other mirror flag = subst (λ (disks : List Disk). IsSettled disks other) (sym (flush.fails refl)) (settled other mirror flag)

set_flag : (count : ℕ) (rest : List Bool) (dev : ℕ) → dev < count → slice_get (replicate count true ++ rest) dev ≡ Some true
set_flag zero rest dev lower = absurd (omega (arith, lower))
set_flag (suc count) rest zero lower = refl
set_flag (suc count) rest (suc dev) lower = set_flag count rest dev (omega (arith, lower))

-- Where all flags of metadata devices are set nothing is said.
pub flags_set : (mirrors : ℕ) (flags : List Bool) (disks : List Disk) → AreFlushed mirrors (with_flags mirrors flags) disks
flags_set mirrors flags disks dev mirror clear = absurd (clear (set_flag mirrors (drop mirrors flags) dev mirror))
