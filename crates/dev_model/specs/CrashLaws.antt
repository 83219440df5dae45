-- Laws on what crashes may leave, for whoever calls devices. `started` begins, each call adds one step by `goes_on` or by its
-- form for a write, a flush or a read, and the places that were touched say what may differ.
use Rattle.std.proofs.Common.{◌≡◌, ℕ, ◌<◌, ◌≤◌, List, [], ◌∷◌, refl, ◌∙◌, sym, subst, arith, Result, Ok, Err, MatchResult, ◌⊎◌, inl, inr, ⊎_elim, All}
use Rattle.std.proofs.lemmas.List.Elements.{All-head, All-tail}
use Rattle.std.proofs.lemmas.Bool.{cases_lt}
use Rattle.dev_model.specs.Disk.{Disk, IsBlock, IsDisk, IsCrashImage, as_read, changed, after_write, written, flushed}
use Rattle.dev_model.specs.Devices.{DevicesState, ChangesDisks, now, Is, MayBeWritten}
use Rattle.dev_model.specs.Crashes.{EachCrash, IsAt, SameBut, IsCrashImageBut}
use Rattle.dev_model.specs.CrashDisks.{read_may_be_left, left_by_write, left_by_flush}

-- A crash may leave the image as it is read.
pub as_read_may_be_left : (disks : List Disk) → All IsDisk disks → IsCrashImage disks (as_read disks)
as_read_may_be_left [] are = tt
as_read_may_be_left (disk ∷ disks) are = (read_may_be_left disk (All-head IsDisk disk disks are), as_read_may_be_left disks (All-tail IsDisk disk disks are))

-- What a crash may leave, it may leave whatever places are touched.
pub left_itself : (touched : ℕ → ℕ → Type 0) (disks : List Disk) (image : List (List (List ℕ))) → IsCrashImage disks image → IsCrashImageBut touched disks image
left_itself touched disks image may = (image, may, λ d b elsewhere. refl)

-- An image that differs only at touched places from one that differs only there.
pub left_then : (touched : ℕ → ℕ → Type 0) (first : List Disk) (mid image : List (List (List ℕ))) → IsCrashImageBut touched first mid → SameBut touched mid image → IsCrashImageBut touched first image
left_then touched first mid image before same = (before.0, before.1, λ d b elsewhere. before.2 d b elsewhere ∙ same d b elsewhere)

-- Images that are the same but at few places are the same but at more.
pub same_but_more : (few many : ℕ → ℕ → Type 0) (one other : List (List (List ℕ))) → ((d b : ℕ) → few d b → many d b) → SameBut few one other → SameBut many one other
same_but_more few many one other more same d b elsewhere = same d b (λ at. elsewhere (more d b at))

-- Before the first call, a crash leaves what it may leave now.
pub started : (P : ℕ → List Disk → List (List (List ℕ)) → Type 0) (state : DevicesState) → ((image : List (List (List ℕ))) → IsCrashImage (now state) image → P state.moment (now state) image) → EachCrash P state state
started P state here = record {
  later = omega arith;
  past = λ m le. refl;
  each = λ m lo hi image may.
      let same : m ≡ state.moment = omega arith in
      subst (λ n. P n (state.disks n) image) (sym same) (here image (subst (λ n. IsCrashImage (state.disks n) image) same may));
}

earlier_or_later : (m n : ℕ) → (m ≤ n) ⊎ (n < m)
earlier_or_later m n = ⊎_elim (λ (lt : n < m). inr lt) (λ le. inl le) (cases_lt n m)

ended : {T E : Type 0} (result : Result T E) (Q A B : Type 0) → MatchResult result (λ _. A) (λ _. B) → (A → Q) → (B → Q) → Q
ended (Ok x) Q A B is after inside = after is
ended (Err e) Q A B is after inside = inside is

-- After one call more, a crash leaves only what has P, if this is so inside the call and after it.
pub goes_on : {T E : Type 0} (result : Result T E) (P : ℕ → List Disk → List (List (List ℕ)) → Type 0) (partly wholly : List Disk → Type 0) (old mid new : DevicesState)
    → EachCrash P old mid
    → ChangesDisks result partly wholly mid new
    → ((m : ℕ) (disks : List Disk) (image : List (List (List ℕ))) → partly disks → IsCrashImage disks image → P m disks image)
    → ((m : ℕ) (disks : List Disk) (image : List (List (List ℕ))) → wholly disks → IsCrashImage disks image → P m disks image)
    → EachCrash P old new
goes_on result P partly wholly old mid new so_far goes inside after = record {
  later = omega (arith, so_far.later, goes.later);
  past = λ m le. goes.past m (omega (arith, le, so_far.later)) ∙ so_far.past m le;
  each = λ m lo hi image may. ⊎_elim
      (λ earlier.
      let was = goes.past m (omega (arith, earlier)) in
      subst (λ ds. P m ds image) (sym was) (so_far.each m lo (omega (arith, earlier)) image (subst (λ ds. IsCrashImage ds image) was may)))
      (λ later. ⊎_elim
      (λ before. inside m (new.disks m) image (goes.inside m later before) may)
      (λ end.
      let same : m ≡ new.moment = omega (arith, hi, end) in
      let may_now : IsCrashImage (now new) image = subst (λ n. IsCrashImage (new.disks n) image) same may in
      subst (λ n. P n (new.disks n) image) (sym same) (ended result (P new.moment (now new) image) _ _ goes.after (λ is. after new.moment (now new) image is may_now) (λ is. inside new.moment (now new) image is may_now)))
      (cases_lt m new.moment))
      (earlier_or_later m mid.moment);
}

-- One call more, after calls that touched only these places.
module _ (touched : ℕ → ℕ → Type 0) (first : List Disk) (old mid : DevicesState) (so_far : EachCrash (λ _ _ image. IsCrashImageBut touched first image) old mid) (are : All IsDisk (now mid)) where
  left_now : (image : List (List (List ℕ))) → IsCrashImage (now mid) image → IsCrashImageBut touched first image
  left_now image may = so_far.each mid.moment so_far.later (omega arith) image may

  left_written : (dev block : ℕ) (bytes read : List ℕ) (disks : List Disk) (image : List (List (List ℕ))) → touched dev block → disks ≡ changed dev (after_write block bytes read) (now mid) → IsCrashImage disks image → IsCrashImageBut touched first image
  left_written dev block bytes read disks image hit is may =
      let before = left_by_write (now mid) dev block bytes read are image (subst (λ ds. IsCrashImage ds image) is may) in
      let within : (d b : ℕ) → IsAt dev block d b → touched d b = λ d b at. subst (λ n. touched n b) (sym at.0) (subst (λ n. touched dev n) (sym at.1) hit) in
      left_then touched first before.0 image (left_now before.0 before.1) (same_but_more (IsAt dev block) touched before.0 image within before.2)

  left_as_before : (disks : List Disk) (image : List (List (List ℕ))) → disks ≡ now mid → IsCrashImage disks image → IsCrashImageBut touched first image
  left_as_before disks image is may = left_now image (subst (λ ds. IsCrashImage ds image) is may)

  -- a write to a touched place
  pub goes_on_write : {T E : Type 0} (result : Result T E) (dev block : ℕ) (bytes : List ℕ) (new : DevicesState) → touched dev block → ChangesDisks result (MayBeWritten dev block bytes (now mid)) (Is (changed dev (written block bytes) (now mid))) mid new → EachCrash (λ _ _ image. IsCrashImageBut touched first image) old new
  goes_on_write result dev block bytes new hit goes = goes_on result (λ _ _ image. IsCrashImageBut touched first image) _ _ old mid new so_far goes
      (λ m disks image maybe may. ⊎_elim (λ same. left_as_before disks image same may) (λ (spoilt : (read : List ℕ) × IsBlock read × (disks ≡ changed dev (after_write block bytes read) (now mid))). left_written dev block bytes spoilt.0 disks image hit spoilt.2 may) maybe)
      (λ m disks image is may. left_written dev block bytes bytes disks image hit is may)

  -- a flush
  pub goes_on_flush : {T E : Type 0} (result : Result T E) (dev : ℕ) (new : DevicesState) → ChangesDisks result (Is (now mid)) (Is (changed dev flushed (now mid))) mid new → EachCrash (λ _ _ image. IsCrashImageBut touched first image) old new
  goes_on_flush result dev new goes = goes_on result (λ _ _ image. IsCrashImageBut touched first image) _ _ old mid new so_far goes
      (λ m disks image is may. left_as_before disks image is may)
      (λ m disks image is may. left_now image (left_by_flush (now mid) dev are image (subst (λ ds. IsCrashImage ds image) is may)))

  -- a read
  pub goes_on_read : {T E : Type 0} (result : Result T E) (new : DevicesState) → ChangesDisks result (Is (now mid)) (Is (now mid)) mid new → EachCrash (λ _ _ image. IsCrashImageBut touched first image) old new
  goes_on_read result new goes = goes_on result (λ _ _ image. IsCrashImageBut touched first image) _ _ old mid new so_far goes
      (λ m disks image is may. left_as_before disks image is may)
      (λ m disks image is may. left_as_before disks image is may)
