-- Devices that were quiet are so again, once what was written on the first of them is flushed.
use Rattle.std.proofs.Common.{◌≡◌, ℕ, suc, ◌<◌, ◌≤◌, ⊎_elim, List, [], ◌∷◌, length, slice_get, refl, ap, ◌∙◌, sym, subst, arith}
use Rattle.std.proofs.lemmas.Bool.{cases_lt}
use Rattle.std.proofs.lemmas.List.{length-map}
use Rattle.std.proofs.lemmas.Option.{none-some, same_Some}
use Rattle.dev_model.specs.Crashes.{IsQuiet}
use Rattle.dev_model.specs.Devices.{DevicesState, now}
use Rattle.dev_model.specs.Disk.{Disk, Image, IsCrashImage, as_read, block_at}
use Rattle.dev_model.specs.FrameLaws.{stay_now}
use Rattle.dev_model.specs.Frames.{DisksStay}
use Rattle.dev_model.specs.PlaceLaws.{IsSettled}
use Rattle.journal_ring.specs.Mending.{IsEntryBlock, IsLacking, Mends}

-- Lists of which each place holds the same are the same.
same_from_places : (xs ys : List (List ℕ)) → ((n : ℕ) → slice_get xs n ≡ slice_get ys n) → xs ≡ ys
same_from_places [] [] each = refl
same_from_places [] (y ∷ ys) each = absurd (none-some y (each 0))
same_from_places (x ∷ xs) [] each = absurd (none-some x (sym (each 0)))
same_from_places (x ∷ xs) (y ∷ ys) each = ap (λ z. z ∷ xs) (same_Some x y (each 0)) ∙ ap (λ zs. y ∷ zs) (same_from_places xs ys (λ n. each (suc n)))

-- So are images of as many devices.
same_image : (one other : Image) → length one ≡ length other → ((d b : ℕ) → block_at one d b ≡ block_at other d b) → one ≡ other
same_image [] [] as_many each = refl
same_image [] (y ∷ ys) as_many each = absurd (omega (arith, as_many))
same_image (x ∷ xs) [] as_many each = absurd (omega (arith, as_many))
same_image (x ∷ xs) (y ∷ ys) as_many each = ap (λ z. z ∷ xs) (same_from_places x y (each 0)) ∙ ap (λ zs. y ∷ zs) (same_image xs ys (omega (arith, as_many)) (λ d. each (suc d)))

as_many_left : (disks : List Disk) (image : Image) → IsCrashImage disks image → length image ≡ length disks
as_many_left [] [] may = refl
as_many_left [] (left ∷ image) may = absurd may
as_many_left (disk ∷ disks) [] may = absurd may
as_many_left (disk ∷ disks) (left ∷ image) may = ap suc (as_many_left disks image may.1)

-- What was only read is as quiet as it was.
pub quiet_read : (old new : DevicesState) → DisksStay old new → IsQuiet (now old) → IsQuiet (now new)
quiet_read old new stay quiet = subst IsQuiet (sym (stay_now old new stay)) quiet

pub quiet_flushed : (mirrors journal number : ℕ) (blocks : List (List ℕ)) (old new : DevicesState) → Mends (IsEntryBlock mirrors journal number blocks) old new → ((dev : ℕ) → dev < mirrors → IsSettled (now new) dev) → IsQuiet (now old) → IsQuiet (now new)
quiet_flushed mirrors journal number blocks old new mends settled quiet image may =
    same_image image (as_read (now new)) (as_many_left (now new) image may ∙ sym (length-map {B = List (List ℕ)} (now new) (λ (disk : Disk). disk.blocks))) (λ d b. ⊎_elim
    (λ (mirror : d < mirrors). settled d mirror image may b)
    (λ (other : mirrors ≤ d).
    let away : ¬ IsLacking (IsEntryBlock mirrors journal number blocks) (as_read (now old)) d b = λ lacking. let mirror = lacking.1.mirror in omega (arith, mirror, other) in
    let left = mends.crashes.each new.moment mends.crashes.later (omega arith) image may in
    sym (left.2 d b away) ∙ ap (λ (one : Image). block_at one d b) (quiet left.0 left.1) ∙ mends.elsewhere d b away)
    (cases_lt d mirrors))
