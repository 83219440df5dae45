-- What an extension writes, and what a crash during it leaves.
use Rattle.std.proofs.Common.{◌≡◌, ℕ, zero, suc, ◌+◌, ◌-◌, ◌<◌, ◌≤◌, Bool, true, false, ◌&&◌, cond, List, [], ◌∷◌, ◌++◌, length, get_or, slice_get, take, Option, Some, None, Result, Ok, Err, ◌⊎◌, inl, inr, ⊎_elim, refl, ap, ◌∙◌, sym, subst, arith, All}
use Rattle.std.specs.Prelude.{nat_lt, nat_le, ◌==◌, replicate}
use Rattle.std.specs.Option.{IsSome}
use Rattle.std.proofs.lemmas.Bool.{cases_lt, cases_eq, eq-eqb, ne_eqb, lt-ltb, le-ltb, le-leb, lt-leb}
use Rattle.std.proofs.lemmas.List.{length-take, length-replicate}
use Rattle.std.proofs.lemmas.List.Elements.{All-take, All-head, All-tail}
use Rattle.std.proofs.lemmas.Option.{none-some, slice_get_past}
use Rattle.std.proofs.Common.{length-append}
use Rattle.dev_model.specs.Disk.{Disk, Image, IsDisk, IsBlock, IsCrashOf, IsCrashImage, as_read, block_at, changed, extended, sizes_of, zeros}
use Rattle.dev_model.specs.Devices.{DevicesState, ChangesDisks, Is, MayBeExtended, now}
use Rattle.dev_model.specs.CrashLaws.{goes_on}
use Rattle.dev_model.specs.Crashes.{SameBut}
use Rattle.dev_model.specs.HeldBlocks.{HasHeld, HaveHeld}
use Rattle.dev_model.specs.HeldLaws.{hold_here, hold_on}
use Rattle.vol_format.specs.Formatting.{if_so, or_held}
use Rattle.vol_format.specs.Steps.{AsksOnly, LeavesBut, Touches, Writes, extension, on_device}
use Rattle.vol_format.proofs.Written.{changed_count, left_count, touches_none}

get-take : (xs : List (List ℕ)) (n b : ℕ) → b < n → slice_get (take n xs) b ≡ slice_get xs b
get-take [] zero b lt = refl
get-take [] (suc n) b lt = refl
get-take (x ∷ xs) zero b lt = absurd (omega (arith, lt))
get-take (x ∷ xs) (suc n) zero lt = refl
get-take (x ∷ xs) (suc n) (suc b) lt = get-take xs n b (omega (arith, lt))

get-append_left : (xs ys : List (List ℕ)) (b : ℕ) → b < length xs → slice_get (xs ++ ys) b ≡ slice_get xs b
get-append_left [] ys b lt = absurd (omega (arith, lt))
get-append_left (x ∷ xs) ys zero lt = refl
get-append_left (x ∷ xs) ys (suc b) lt = get-append_left xs ys b (omega (arith, lt))

get-append_right : (xs ys : List (List ℕ)) (n b : ℕ) → n ≡ length xs + b → slice_get (xs ++ ys) n ≡ slice_get ys b
get-append_right [] ys n b is = ap (slice_get ys) (let e : n ≡ b = omega (arith, is) in e)
get-append_right (x ∷ xs) ys zero b is = absurd (omega (arith, is))
get-append_right (x ∷ xs) ys (suc n) b is = get-append_right xs ys n b (omega (arith, is))

get-copies : (n b : ℕ) (x : List ℕ) → b < n → slice_get (replicate n x) b ≡ Some x
get-copies zero b x lt = absurd (omega (arith, lt))
get-copies (suc n) zero x lt = refl
get-copies (suc n) (suc b) x lt = get-copies n b x (omega (arith, lt))

-- The length of an extended disk.
extended_length : (disk : Disk) (size : ℕ) → length disk.blocks ≤ size → length (disk.blocks ++ replicate (size - length disk.blocks) zeros) ≡ size
extended_length disk size le = length-append disk.blocks (replicate (size - length disk.blocks) zeros) ∙ ap (λ n. length disk.blocks + n) (length-replicate (size - length disk.blocks) zeros) ∙ (let e : length disk.blocks + (size - length disk.blocks) ≡ size = omega (arith, le) in e)

-- The length of an extended disk is at most what was asked, or its own.
most_length : (disk : Disk) (some size : ℕ) → some ≤ size → length disk.blocks ≤ size → length (disk.blocks ++ replicate (some - length disk.blocks) zeros) ≤ size
most_length disk some size le longer = omega (arith, le, longer, length-append disk.blocks (replicate (some - length disk.blocks) zeros), length-replicate (some - length disk.blocks) zeros)

-- During an extension a crash leaves what it might have left before, but for the new blocks.
extend_leaves : (disk : Disk) (some size : ℕ) → IsDisk disk → some ≤ size → length disk.blocks ≤ size → (left : List (List ℕ)) → IsCrashOf (extended some disk) left
    → (before : List (List ℕ)) × IsCrashOf disk before × ((b : ℕ) → ¬ IsSome (extension (length disk.blocks) size b) → slice_get before b ≡ slice_get left b)
extend_leaves disk some size is le longer left may =
    let n : ℕ = length disk.blocks in
    let before : List (List ℕ) = take n left in
    let most = most_length disk some size le longer in
    let count : length before ≡ _ = length-take n left in (
      before,
      record {
        no_shorter = omega (arith, count, may.no_shorter, is.shortest);
        no_longer = omega (arith, count);
        blocks = All-take IsBlock n left may.blocks;
        settled = λ b within not_pending.
            let lower : b < n = omega (arith, within, count) in
            get-take left n b lower ∙ may.settled b (omega (arith, within, count)) not_pending ∙ get-append_left disk.blocks (replicate (some - n) zeros) b lower;
      },
      λ b elsewhere. ⊎_elim
          (λ (lower : b < n). get-take left n b lower)
          (λ (past : n ≤ b). ⊎_elim
          (λ (new : b < size). absurd (elsewhere (rw (le-leb n b past, lt-ltb b size new) refl)))
          (λ (beyond : size ≤ b). slice_get_past before b (omega (arith, count, past)) ∙ sym (slice_get_past left b (omega (arith, may.no_longer, most, beyond))))
          (cases_lt b size))
          (cases_lt b n),
    )

there : (device block : ℕ) (writes : ℕ → Option (List ℕ)) → IsSome (writes block) → IsSome (on_device device writes device block)
there device block writes is = rw (eq-eqb device device refl) is

-- Of the first device of a list.
same_first : (writes : ℕ → Option (List ℕ)) (x y : List (List ℕ)) (image : Image) → ((b : ℕ) → ¬ IsSome (writes b) → slice_get x b ≡ slice_get y b) → SameBut (λ dev block. IsSome (on_device 0 writes dev block)) (x ∷ image) (y ∷ image)
same_first writes x y image others zero b elsewhere = others b elsewhere
same_first writes x y image others (suc d) b elsewhere = refl

-- Of the devices after it, each by its number among them.
on_next : (device : ℕ) (writes : ℕ → Option (List ℕ)) (d b : ℕ) → on_device (suc device) writes (suc d) b ≡ on_device device writes d b
on_next device writes d b = ⊎_elim
    (λ (same : d ≡ device). rw (eq-eqb d device same, eq-eqb (suc d) (suc device) (ap suc same)) refl)
    (λ (other : ¬ (d ≡ device)). rw (ne_eqb d device other, ne_eqb (suc d) (suc device) (λ e. other (omega (arith, e)))) refl)
    (cases_eq d device)

-- Nothing is written on other devices.
on_other : (device : ℕ) (writes : ℕ → Option (List ℕ)) (d b : ℕ) → ¬ (d ≡ device) → on_device device writes d b ≡ None
on_other device writes d b other = rw (ne_eqb d device other) refl

same_rest : (device : ℕ) (writes : ℕ → Option (List ℕ)) (x : List (List ℕ)) (one other : Image) → SameBut (λ dev block. IsSome (on_device device writes dev block)) one other → SameBut (λ dev block. IsSome (on_device (suc device) writes dev block)) (x ∷ one) (x ∷ other)
same_rest device writes x one other same zero b elsewhere = refl
same_rest device writes x one other same (suc d) b elsewhere = same d b (λ some. elsewhere (subst IsSome (sym (on_next device writes d b)) some))

left_by_extend : (disks : List Disk) (dev some size : ℕ) → All IsDisk disks → some ≤ size → get_or (sizes_of disks) dev 0 ≤ size → (image : Image) → IsCrashImage (changed dev (extended some) disks) image
    → (before : Image) × IsCrashImage disks before × SameBut (λ d b. IsSome (on_device dev (extension (get_or (sizes_of disks) dev 0) size) d b)) before image
left_by_extend [] dev some size are le longer image may = (image, may, λ d b elsewhere. refl)
left_by_extend (disk ∷ disks) dev some size are le longer [] may = absurd (elim dev as (λ n. IsCrashImage (changed n (extended some) (disk ∷ disks)) [] → ⊥) [ zero ↦ λ h. h | suc n ↦ λ h. h ] may)
left_by_extend (disk ∷ disks) zero some size are le longer (left ∷ image) may =
    let first = extend_leaves disk some size (All-head IsDisk disk disks are) le longer left may.0 in
    (first.0 ∷ image, (first.1, may.1), same_first (extension (length disk.blocks) size) first.0 left image first.2)
left_by_extend (disk ∷ disks) (suc dev) some size are le longer (left ∷ image) may =
    let rest = left_by_extend disks dev some size (All-tail IsDisk disk disks are) le longer image may.1 in
    (left ∷ rest.0, (may.0, rest.1), same_rest dev (extension (get_or (sizes_of disks) dev 0) size) left rest.0 image rest.2)

-- An extension touches the new blocks.
touches_by_extend : {T E : Type 0} (result : Result T E) (dev size : ℕ) (old new : DevicesState) → All IsDisk (now old) → get_or (sizes_of (now old)) dev 0 ≤ size
    → ChangesDisks result (MayBeExtended dev size (now old)) (Is (changed dev (extended size) (now old))) old new → Touches (on_device dev (extension (get_or (sizes_of (now old)) dev 0) size)) old new
touches_by_extend result dev size old new are longer goes = goes_on result (λ _ _ image. LeavesBut writes (now old) image) _ _ old old new (touches_none writes old) goes
    (λ m disks image (some : (some : ℕ) × (some ≤ size) × (disks ≡ changed dev (extended some) (now old))) may. here some.0 disks image some.1 some.2 may)
    (λ m disks image is may. here size disks image (omega arith) is may)
  where
    writes : ℕ → ℕ → Option (List ℕ)
    writes = on_device dev (extension (get_or (sizes_of (now old)) dev 0) size)

    here : (some : ℕ) (disks : List Disk) (image : Image) → some ≤ size → disks ≡ changed dev (extended some) (now old) → IsCrashImage disks image → LeavesBut writes (now old) image
    here some disks image le is may =
        let before = left_by_extend (now old) dev some size are le longer image (subst (λ ds. IsCrashImage ds image) is may) in
        record { count = left_count disks image may ∙ ap (λ (ds : List Disk). length ds) is ∙ changed_count dev (extended some) (now old); but = (before.0, before.1, before.2) }

-- An extended disk has held what it had, and zeros in the new blocks.
held_extended_disk : (disk : Disk) (some size b : ℕ) (x : List ℕ) → IsDisk disk → some ≤ size → HasHeld (extended some disk) b x → HasHeld disk b x ⊎ (extension (length disk.blocks) size b ≡ Some x)
held_extended_disk disk some size b x is le (inr asked) = inl (inr asked)
held_extended_disk disk some size b x is le (inl settled) =
    let n : ℕ = length disk.blocks in
    let long : length disk.settled ≡ n = is.as_long in
    let zero_blocks : List (List ℕ) = replicate (some - n) zeros in
    ⊎_elim
    (λ (lower : b < n). inl (inl (sym (get-append_left disk.settled zero_blocks b (omega (arith, lower, long))) ∙ settled)))
    (λ (past : n ≤ b). ⊎_elim
    (λ (new : b < some).
    let is_zeros : slice_get (disk.settled ++ zero_blocks) b ≡ Some zeros = get-append_right disk.settled zero_blocks b (b - n) (omega (arith, past, long)) ∙ get-copies (some - n) (b - n) zeros (omega (arith, past, new)) in
    inr ((rw (le-leb n b past, lt-ltb b size (omega (arith, new, le))) refl) ∙ sym is_zeros ∙ settled))
    (λ (beyond : some ≤ b).
    absurd (none-some x (sym (slice_get_past (disk.settled ++ zero_blocks) b (omega (arith, beyond, past, long, length-append disk.settled zero_blocks, length-replicate (some - n) zeros))) ∙ settled)))
    (cases_lt b some))
    (cases_lt b n)

-- So have disks of which one is extended.
held_by_extend : (disks : List Disk) (dev some size : ℕ) → All IsDisk disks → some ≤ size → (d b : ℕ) (x : List ℕ) → HaveHeld (changed dev (extended some) disks) d b x
    → HaveHeld disks d b x ⊎ (on_device dev (extension (get_or (sizes_of disks) dev 0) size) d b ≡ Some x)
held_by_extend [] dev some size are le d b x held = inl held
held_by_extend (disk ∷ disks) zero some size are le zero b x held =
    let this : extended some disk ≡ held.0 = some_is held.1 in
    ⊎_elim
    (λ (before : HasHeld disk b x). inl (disk, refl, before))
    (λ (new : extension (length disk.blocks) size b ≡ Some x). inr new)
    (held_extended_disk disk some size b x (All-head IsDisk disk disks are) le (subst (λ (one : Disk). HasHeld one b x) (sym this) held.2))
  where
    some_is : {one other : Disk} → Some one ≡ Some other → one ≡ other
    some_is e = cc
held_by_extend (disk ∷ disks) zero some size are le (suc d) b x held = inl held
held_by_extend (disk ∷ disks) (suc dev) some size are le zero b x held = inl held
held_by_extend (disk ∷ disks) (suc dev) some size are le (suc d) b x held = ⊎_elim
    (λ (before : HaveHeld disks d b x). inl before)
    (λ (new : on_device dev (extension (get_or (sizes_of disks) dev 0) size) d b ≡ Some x). inr (on_next dev (extension (get_or (sizes_of disks) dev 0) size) d b ∙ new))
    (held_by_extend disks dev some size (All-tail IsDisk disk disks are) le d b x held)

-- An extension asks for zeros in the new blocks.
asks_by_extend : {T E : Type 0} (result : Result T E) (dev size : ℕ) (old new : DevicesState) → All IsDisk (now old)
    → ChangesDisks result (MayBeExtended dev size (now old)) (Is (changed dev (extended size) (now old))) old new → AsksOnly (on_device dev (extension (get_or (sizes_of (now old)) dev 0) size)) old new
asks_by_extend result dev size old new are goes opens = hold_on result opens asked _ _ old old new (omega arith) (hold_here opens asked old) goes
    (λ d b by_then disks (some : (some : ℕ) × (some ≤ size) × (disks ≡ changed dev (extended some) (now old))) x is_open held. here some.0 disks d b x some.1 some.2 held)
    (λ d b by_then disks is x is_open held. here size disks d b x (omega arith) is held)
  where
    asked : ℕ → ℕ → List ℕ → Type 0
    asked d b x = on_device dev (extension (get_or (sizes_of (now old)) dev 0) size) d b ≡ Some x

    here : (some : ℕ) (disks : List Disk) (d b : ℕ) (x : List ℕ) → some ≤ size → disks ≡ changed dev (extended some) (now old) → HaveHeld disks d b x → HaveHeld (now old) d b x ⊎ asked d b x
    here some disks d b x le is held = held_by_extend (now old) dev some size are le d b x (subst (λ (ds : List Disk). HaveHeld ds d b x) is held)

-- Of one disk, zeros are read in the new blocks and elsewhere what was there.
reads_extended_disk : (disk : Disk) (size b : ℕ) → length disk.blocks ≤ size → slice_get (disk.blocks ++ replicate (size - length disk.blocks) zeros) b ≡ or_held (extension (length disk.blocks) size b) (slice_get disk.blocks b)
reads_extended_disk disk size b longer = ⊎_elim
    (λ (lower : b < length disk.blocks). get-append_left disk.blocks _ b lower ∙ (rw (lt-leb (length disk.blocks) b lower) refl))
    (λ (past : length disk.blocks ≤ b). ⊎_elim
    (λ (new : b < size).
    (get-append_right disk.blocks _ b (b - length disk.blocks) (omega (arith, past)) ∙ get-copies (size - length disk.blocks) (b - length disk.blocks) zeros (omega (arith, past, new)) ∙ (rw (le-leb (length disk.blocks) b past, lt-ltb b size new) refl)))
    (λ (beyond : size ≤ b). slice_get_past _ b (omega (arith, beyond, extended_length disk size longer)) ∙ sym (slice_get_past disk.blocks b past) ∙ (rw (le-leb (length disk.blocks) b past, le-ltb b size beyond) refl))
    (cases_lt b size))
    (cases_lt b (length disk.blocks))

-- Zeros are read in the new blocks, and elsewhere what was there.
reads_extended : (disks : List Disk) (dev size d b : ℕ) → dev < length disks → get_or (sizes_of disks) dev 0 ≤ size
    → block_at (as_read (changed dev (extended size) disks)) d b ≡ or_held (on_device dev (extension (get_or (sizes_of disks) dev 0) size) d b) (block_at (as_read disks) d b)
reads_extended [] dev size d b within longer = absurd (omega (arith, within))
reads_extended (disk ∷ disks) zero size zero b within longer = reads_extended_disk disk size b longer
reads_extended (disk ∷ disks) zero size (suc d) b within longer =
    sym (ap (λ held. or_held held (block_at (as_read disks) d b)) (on_other 0 (extension (length disk.blocks) size) (suc d) b (λ e. omega (arith, e))))
reads_extended (disk ∷ disks) (suc dev) size zero b within longer =
    sym (ap (λ held. or_held held (slice_get disk.blocks b)) (on_other (suc dev) (extension (get_or (sizes_of disks) dev 0) size) 0 b (λ e. omega (arith, e))))
reads_extended (disk ∷ disks) (suc dev) size (suc d) b within longer =
    reads_extended disks dev size d b (omega (arith, within)) longer
    ∙ ap (λ held. or_held held (block_at (as_read disks) d b)) (sym (on_next dev (extension (get_or (sizes_of disks) dev 0) size) d b))

-- An extension writes zeros into the new blocks.
pub writes_by_extend : {T E : Type 0} (result : Result T E) (dev size : ℕ) (old new : DevicesState) → All IsDisk (now old) → dev < length (now old) → get_or (sizes_of (now old)) dev 0 ≤ size
    → ChangesDisks result (MayBeExtended dev size (now old)) (Is (changed dev (extended size) (now old))) old new → Writes result (on_device dev (extension (get_or (sizes_of (now old)) dev 0) size)) old new
writes_by_extend (Err e) dev size old new are within longer goes = record { touches = touches_by_extend (Err e) dev size old new are longer goes; asks = asks_by_extend (Err e) dev size old new are goes; reads = tt }
writes_by_extend (Ok x) dev size old new are within longer goes = record {
  touches = touches_by_extend (Ok x) dev size old new are longer goes;
  asks = asks_by_extend (Ok x) dev size old new are goes;
  reads = λ d b. ap (λ (ds : List Disk). block_at (as_read ds) d b) goes.after ∙ reads_extended (now old) dev size d b within longer;
}

-- A device that is long enough gets no new blocks.
pub nothing_to_extend : (device size blocks : ℕ) → blocks ≤ size → (dev block : ℕ) → on_device device (extension size blocks) dev block ≡ None
nothing_to_extend device size blocks long dev block = ⊎_elim
    (λ (lower : block < size). first (dev == device) (nat_le size block) (nat_lt block blocks) (lt-leb size block lower))
    (λ (past : size ≤ block). second (dev == device) (nat_le size block) (nat_lt block blocks) (le-ltb block blocks (omega (arith, past, long))))
    (cases_lt block size)
  where
    first : (there from to : Bool) → from ≡ false → cond there (if_so (from && to) zeros) None ≡ None
    first true from to is = ap (λ test. if_so (test && to) zeros) is
    first false from to is = refl

    second : (there from to : Bool) → to ≡ false → cond there (if_so (from && to) zeros) None ≡ None
    second true true to is = ap (λ test. if_so test zeros) is
    second true false to is = refl
    second false from to is = refl
