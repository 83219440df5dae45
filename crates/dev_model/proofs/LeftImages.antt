-- What is left of all devices.
use Rattle.std.proofs.Common.{◌≡◌, ℕ, List, [], ◌∷◌, ◌++◌, length, map, refl, ap, ◌∙◌, sym, subst}
use Rattle.std.proofs.lemmas.List.{length-map, map_push}
use Rattle.std.proofs.lemmas.List.Elements.{All-cons, All-nil}
use Rattle.dev_model.specs.Disk.{Disk, Image, IsAtRest, IsCrashOf, IsCrashImage, NothingPending, as_read, at_rest}
use Rattle.dev_model.specs.Recording.{devices_left_by}
use Rattle.dev_model.specs.Restart.{blocks_left_by, left_by}
use Rattle.dev_model.specs.declared.disk.Pick.{Pick}
use Rattle.dev_model.specs.declared.disk.Pick.TheVariants.{AllWritten}
use Rattle.dev_model.proofs.SoundDisks.{rest_is_quiet}

zip_push : (disks : List Disk) (image : Image) (disk : Disk) (left : List (List ℕ)) → IsCrashImage disks image → IsCrashOf disk left → IsCrashImage (disks ++ disk ∷ []) (image ++ left ∷ [])
zip_push [] [] disk left so_far more = (more, tt)
zip_push [] (i ∷ image) disk left so_far more = absurd so_far
zip_push (d ∷ disks) [] disk left so_far more = absurd so_far
zip_push (d ∷ disks) (i ∷ image) disk left so_far more = (so_far.0, zip_push disks image disk left so_far.1 more)

-- one more device
pub left_more : (seen new_seen left new_left : List Disk) (device one : Disk) → new_seen ≡ seen ++ device ∷ [] → new_left ≡ left ++ one ∷ []
    → IsCrashImage seen (as_read left) → IsCrashOf device one.blocks → IsCrashImage new_seen (as_read new_left)
left_more seen new_seen left new_left device one is_seen is_left so_far more =
    let image : as_read new_left ≡ as_read left ++ one.blocks ∷ [] = ap as_read is_left ∙ map_push (λ (d : Disk). d.blocks) left one in
    subst (λ ds. IsCrashImage ds (as_read new_left)) (sym is_seen)
    (subst (λ i. IsCrashImage (seen ++ device ∷ []) i) (sym image) (zip_push seen (as_read left) device one.blocks so_far more))

pub devices_left_by-push : (pick : Pick) (devices : List Disk) (one : Disk) → devices_left_by pick (devices ++ one ∷ []) ≡ devices_left_by pick devices ++ at_rest (blocks_left_by pick one) ∷ []
devices_left_by-push pick devices one = map_push (λ (disk : Disk). at_rest (blocks_left_by pick disk)) devices one

-- the devices that are left, by the image that is left of them
pub devices_left : (pick : Pick) (devices : List Disk) → devices_left_by pick devices ≡ map at_rest (left_by pick devices)
devices_left pick [] = refl
devices_left pick (disk ∷ devices) = ap (λ disks. at_rest (blocks_left_by pick disk) ∷ disks) (devices_left pick devices)

-- what is read of disks at rest
pub as_read-at_rest : (image : Image) → as_read (map at_rest image) ≡ image
as_read-at_rest [] = refl
as_read-at_rest (blocks ∷ image) = ap (λ (more : Image). blocks ∷ more) (as_read-at_rest image)

-- nothing of disks at rest is pending
pub nothing_pending_at_rest : (image : Image) → NothingPending (map at_rest image)
nothing_pending_at_rest [] = All-nil IsAtRest
nothing_pending_at_rest (blocks ∷ image) = All-cons IsAtRest (at_rest blocks) (map at_rest image) (rest_is_quiet blocks) (nothing_pending_at_rest image)

-- a copy of what is left is the same
pub left_again : (pick : Pick) (devices : List Disk) → devices_left_by AllWritten (devices_left_by pick devices) ≡ devices_left_by pick devices
left_again pick [] = refl
left_again pick (disk ∷ devices) = ap (λ ds. at_rest (blocks_left_by pick disk) ∷ ds) (left_again pick devices)

pub length-left : (pick : Pick) (devices : List Disk) → length (devices_left_by pick devices) ≡ length devices
length-left pick devices = length-map devices (λ (disk : Disk). at_rest (blocks_left_by pick disk))
