-- Laws on what a crash may leave of disks that a write, a flush or an extension changed.
use Rattle.std.proofs.Common.{◌≡◌, ◌≢◌, ℕ, zero, suc, ◌<◌, ◌≤◌, List, [], ◌∷◌, length, get_or, set, slice_get, refl, ap, ◌∙◌, sym, subst, arith, ⊎_elim, All, Contains}
use Rattle.std.proofs.lemmas.List.{length-set, set_past}
use Rattle.std.proofs.lemmas.List.Elements.{All-set, All-head, All-tail, All-get_or, Contains-push_cases}
use Rattle.std.proofs.lemmas.Bool.{cases_lt, cases_eq}
use Rattle.dev_model.specs.Disk.{Asked, Disk, IsBlock, IsDisk, IsPending, IsCrashOf, IsCrashImage, changed, after_write, flushed}
use Rattle.dev_model.specs.Crashes.{IsAt, SameBut, IsCrashImageBut}

-- A crash may leave a disk as it is read.
pub read_may_be_left : (disk : Disk) → IsDisk disk → IsCrashOf disk disk.blocks
read_may_be_left disk is = record { no_shorter = is.shortest; no_longer = omega arith; blocks = is.blocks; settled = λ b within not_pending. refl }

-- after a flush a crash leaves nothing that it might not have left before
flush_leaves : (disk : Disk) → IsDisk disk → (left : List (List ℕ)) → IsCrashOf (flushed disk) left → IsCrashOf disk left
flush_leaves disk is left may = record {
  no_shorter = omega (arith, is.shortest, may.no_shorter);
  no_longer = may.no_longer;
  blocks = may.blocks;
  settled = λ b within not_pending. may.settled b within (λ pending. omega (arith, pending.1.1));
}

-- what was set elsewhere
pub slice_get-set_other : (xs : List (List ℕ)) (i j : ℕ) (x : List ℕ) → j ≢ i → slice_get (set xs i x) j ≡ slice_get xs j
slice_get-set_other [] i j x other = refl
slice_get-set_other (y ∷ ys) zero zero x other = absurd (other refl)
slice_get-set_other (y ∷ ys) zero (suc j) x other = refl
slice_get-set_other (y ∷ ys) (suc i) zero x other = refl
slice_get-set_other (y ∷ ys) (suc i) (suc j) x other = slice_get-set_other ys i j x (λ e. other (ap suc e))

slice_get-set_same : (xs ys : List (List ℕ)) (i : ℕ) (d : List ℕ) → i < length xs → i < length ys → slice_get (set xs i (get_or ys i d)) i ≡ slice_get ys i
slice_get-set_same [] ys i d x y = absurd (omega (arith, x))
slice_get-set_same (x ∷ xs) [] i d p q = absurd (omega (arith, q))
slice_get-set_same (x ∷ xs) (y ∷ ys) zero d p q = refl
slice_get-set_same (x ∷ xs) (y ∷ ys) (suc i) d p q = slice_get-set_same xs ys i d (omega (arith, p)) (omega (arith, q))

-- After a write only its block is newly pending.
pub pending_after_write : (disk : Disk) (block : ℕ) (bytes left : List ℕ) (b : ℕ) → b ≢ block → IsPending (after_write block bytes left disk) b → IsPending disk b
pending_after_write disk block bytes left b other pending =
    let one : Asked = record { block = block; bytes = bytes } in
    let asked : Asked = record { block = b; bytes = pending.0 } in (
      pending.0,
      ⊎_elim
          (λ (before : Contains disk.asked asked). before)
          (λ (same : one ≡ asked). absurd (other (sym (ap (λ (a : Asked). a.block) same))))
          (Contains-push_cases disk.asked one asked pending.1),
    )

-- after a write a crash leaves what it might have left before, but for the block
write_leaves : (disk : Disk) (block : ℕ) (bytes read : List ℕ) → IsDisk disk → (left : List (List ℕ)) → IsCrashOf (after_write block bytes read disk) left → (before : List (List ℕ)) × IsCrashOf disk before × ((b : ℕ) → b ≢ block → slice_get before b ≡ slice_get left b)
write_leaves disk block bytes read is left may =
    let before : List (List ℕ) = set left block (get_or disk.blocks block (get_or left block [])) in
    let size : length before ≡ length left = length-set left block _ in
    let longest : length left ≤ length disk.blocks = omega (arith, may.no_longer, length-set disk.blocks block read) in (
      before,
      record {
        no_shorter = omega (arith, may.no_shorter, size);
        no_longer = omega (arith, longest, size);
        blocks = ⊎_elim
            (λ within. All-set IsBlock left block _ (All-get_or IsBlock disk.blocks block _ (omega (arith, within, longest)) is.blocks) may.blocks)
            (λ past. subst (λ (l : List (List ℕ)). All IsBlock l) (sym (set_past left block _ past)) may.blocks)
            (cases_lt block (length left));
        settled = λ b within not_pending. ⊎_elim
            (λ same.
            let here : block < length left = omega (arith, within, size, same) in
            let P : ℕ → Type 0 = λ i. slice_get before i ≡ slice_get disk.blocks i in
            subst P (sym same) (slice_get-set_same left disk.blocks block _ here (omega (arith, here, longest))))
            (λ other.
            slice_get-set_other left block b _ other
            ∙ may.settled b (omega (arith, within, size)) (λ pending. not_pending (pending_after_write disk block bytes read b other pending))
            ∙ slice_get-set_other disk.blocks block b read other)
            (cases_eq b block);
      },
      λ b other. slice_get-set_other left block b _ other,
    )

same_head : (block : ℕ) (x y : List (List ℕ)) (image : List (List (List ℕ))) → ((b : ℕ) → b ≢ block → slice_get x b ≡ slice_get y b) → SameBut (IsAt 0 block) (x ∷ image) (y ∷ image)
same_head block x y image others zero b elsewhere = others b (λ e. elsewhere (refl, e))
same_head block x y image others (suc d) b elsewhere = refl

same_tail : (dev block : ℕ) (x : List (List ℕ)) (one other : List (List (List ℕ))) → SameBut (IsAt dev block) one other → SameBut (IsAt (suc dev) block) (x ∷ one) (x ∷ other)
same_tail dev block x one other same zero b elsewhere = refl
same_tail dev block x one other same (suc d) b elsewhere = same d b (λ at. elsewhere (ap suc at.0, at.1))

-- After a write, whatever it left to be read, a crash leaves what it might have left before, but at the block.
pub left_by_write : (disks : List Disk) (dev block : ℕ) (bytes read : List ℕ) → All IsDisk disks → (image : List (List (List ℕ))) → IsCrashImage (changed dev (after_write block bytes read) disks) image → IsCrashImageBut (IsAt dev block) disks image
left_by_write [] dev block bytes read are image may = (image, may, λ d b elsewhere. refl)
left_by_write (disk ∷ disks) dev block bytes read are [] may = absurd (elim dev as (λ n. IsCrashImage (changed n (after_write block bytes read) (disk ∷ disks)) [] → ⊥) [ zero ↦ λ h. h | suc n ↦ λ h. h ] may)
left_by_write (disk ∷ disks) zero block bytes read are (left ∷ image) may =
    let first = write_leaves disk block bytes read (All-head IsDisk disk disks are) left may.0 in
    (first.0 ∷ image, (first.1, may.1), same_head block first.0 left image first.2)
left_by_write (disk ∷ disks) (suc dev) block bytes read are (left ∷ image) may =
    let rest = left_by_write disks dev block bytes read (All-tail IsDisk disk disks are) image may.1 in
    (left ∷ rest.0, (may.0, rest.1), same_tail dev block left rest.0 image rest.2)

-- After a flush a crash leaves only what it might have left before.
pub left_by_flush : (disks : List Disk) (dev : ℕ) → All IsDisk disks → (image : List (List (List ℕ))) → IsCrashImage (changed dev flushed disks) image → IsCrashImage disks image
left_by_flush [] dev are image may = may
left_by_flush (disk ∷ disks) dev are [] may = elim dev as (λ n. IsCrashImage (changed n flushed (disk ∷ disks)) [] → ⊥) [ zero ↦ λ h. h | suc n ↦ λ h. h ] may
left_by_flush (disk ∷ disks) zero are (left ∷ image) may = (flush_leaves disk (All-head IsDisk disk disks are) left may.0, may.1)
left_by_flush (disk ∷ disks) (suc dev) are (left ∷ image) may = (may.0, left_by_flush disks dev (All-tail IsDisk disk disks are) image may.1)
