-- Laws on what disks have held: a write adds what it asked for, a flush only what was read, an extension zeros.
use Rattle.std.proofs.Common.{◌≡◌, ℕ, zero, suc, ◌<◌, ◌≤◌, Bool, IsTrue, List, [], ◌∷◌, length, slice_get, Some, refl, ap, ◌∙◌, sym, subst, arith, Result, Ok, Err, MatchResult, ◌⊎◌, inl, inr, ⊎_elim, Contains}
use Rattle.std.proofs.lemmas.List.Elements.{Contains-push_cases}
use Rattle.std.proofs.lemmas.Bool.{cases_lt}
use Rattle.dev_model.specs.Disk.{Asked, Disk, IsBlock, IsDisk, IsPending, IsCrashOf, as_read, block_at, changed, after_write, written, flushed}
use Rattle.dev_model.specs.Devices.{ChangesDisks, DevicesState, Is, MayBeWritten, now}
use Rattle.dev_model.specs.HeldBlocks.{HasHeld, HaveHeld, HasNoChanceMatch, HoldOnly, OnlyHeldOpensAt}

-- A disk that a write was asked of has held what it had, and what was asked.
held_after_write : (disk : Disk) (block : ℕ) (bytes left : List ℕ) (b : ℕ) (x : List ℕ) → HasHeld (after_write block bytes left disk) b x → HasHeld disk b x ⊎ ((b ≡ block) × (x ≡ bytes))
held_after_write disk block bytes left b x (inl settled) = inl (inl settled)
held_after_write disk block bytes left b x (inr asked) =
    let one : Asked = record { block = block; bytes = bytes } in
    let this : Asked = record { block = b; bytes = x } in
    ⊎_elim
    (λ (before : Contains disk.asked this). inl (inr before))
    (λ (same : one ≡ this). inr (sym (ap (λ (a : Asked). a.block) same), sym (ap (λ (a : Asked). a.bytes) same)))
    (Contains-push_cases disk.asked one this asked)

-- After a flush a disk has held what was read.
held_after_flush : (disk : Disk) (b : ℕ) (x : List ℕ) → HasHeld (flushed disk) b x → slice_get disk.blocks b ≡ Some x
held_after_flush disk b x (inl settled) = settled
held_after_flush disk b x (inr asked) = absurd (omega (arith, asked.1))

-- Of the disks: a write adds nothing but its block at its place.
pub held_by_write : (disks : List Disk) (dev block : ℕ) (bytes left : List ℕ) (d b : ℕ) (x : List ℕ) → HaveHeld (changed dev (after_write block bytes left) disks) d b x
    → HaveHeld disks d b x ⊎ ((d ≡ dev) × (b ≡ block) × (x ≡ bytes))
held_by_write [] dev block bytes left d b x held = inl held
held_by_write (disk ∷ disks) zero block bytes left zero b x held =
    let this : after_write block bytes left disk ≡ held.0 = some_is held.1 in
    ⊎_elim
    (λ (before : HasHeld disk b x). inl (disk, refl, before))
    (λ (asked : (b ≡ block) × (x ≡ bytes)). inr (refl, asked.0, asked.1))
    (held_after_write disk block bytes left b x (subst (λ (one : Disk). HasHeld one b x) (sym this) held.2))
  where
    some_is : {one other : Disk} → Some one ≡ Some other → one ≡ other
    some_is e = cc
held_by_write (disk ∷ disks) zero block bytes left (suc d) b x held = inl held
held_by_write (disk ∷ disks) (suc dev) block bytes left zero b x held = inl held
held_by_write (disk ∷ disks) (suc dev) block bytes left (suc d) b x held = ⊎_elim
    (λ (before : HaveHeld disks d b x). inl before)
    (λ (asked : (d ≡ dev) × (b ≡ block) × (x ≡ bytes)). inr (ap suc asked.0, asked.1, asked.2))
    (held_by_write disks dev block bytes left d b x held)

-- A flush adds nothing but what was read there.
pub held_by_flush : (disks : List Disk) (dev d b : ℕ) (x : List ℕ) → HaveHeld (changed dev flushed disks) d b x → HaveHeld disks d b x ⊎ (block_at (as_read disks) d b ≡ Some x)
held_by_flush [] dev d b x held = inl held
held_by_flush (disk ∷ disks) zero zero b x held =
    let this : flushed disk ≡ held.0 = some_is held.1 in
    inr (held_after_flush disk b x (subst (λ (one : Disk). HasHeld one b x) (sym this) held.2))
  where
    some_is : {one other : Disk} → Some one ≡ Some other → one ≡ other
    some_is e = cc
held_by_flush (disk ∷ disks) zero (suc d) b x held = inl held
held_by_flush (disk ∷ disks) (suc dev) zero b x held = inl held
held_by_flush (disk ∷ disks) (suc dev) (suc d) b x held = held_by_flush disks dev d b x held

-- A block that isn't pending is left by a crash as it was last settled.
pub left_as_settled : (disk : Disk) (left : List (List ℕ)) → IsDisk disk → IsCrashOf disk left → (block : ℕ) → block < length left → ¬ IsPending disk block → slice_get left block ≡ slice_get disk.settled block
left_as_settled disk left is may block within not_pending = may.settled block within not_pending ∙ is.at_rest block not_pending

-- Before the first call nothing came to be held.
pub hold_here : (opens : List ℕ → Bool) (asked : ℕ → ℕ → List ℕ → Type 0) (state : DevicesState) → HoldOnly opens asked state state
hold_here opens asked state m lo hi d b no_chance x is_open held =
    let same : m ≡ state.moment = omega (arith, lo, hi) in
    inl (subst (λ n. HaveHeld (state.disks n) d b x) same held)

-- No chance match up to a moment is none up to an earlier one, whatever came after it.
pub no_chance_before : (opens : List ℕ → Bool) (d b first last : ℕ) (mid new : DevicesState) → ((m : ℕ) → m ≤ mid.moment → new.disks m ≡ mid.disks m) → (m : ℕ) → m ≤ last → m ≤ mid.moment
    → HasNoChanceMatch opens d b first last new → HasNoChanceMatch opens d b first m mid
no_chance_before opens d b first last mid new past m earlier so_far no_chance n lo hi =
    subst (λ (ds : List Disk). OnlyHeldOpensAt opens ds (as_read ds) d b) (past n (omega (arith, hi, so_far))) (no_chance n lo (omega (arith, hi, earlier)))

earlier_or_later : (m n : ℕ) → (m ≤ n) ⊎ (n < m)
earlier_or_later m n = ⊎_elim (λ (lt : n < m). inr lt) (λ le. inl le) (cases_lt n m)

ended : {T E : Type 0} (result : Result T E) (Q A B : Type 0) → MatchResult result (λ _. A) (λ _. B) → (A → Q) → (B → Q) → Q
ended (Ok x) Q A B is after inside = after is
ended (Err e) Q A B is after inside = inside is

-- One call more: where what it makes to be held is what was held before it, or was asked, nothing else came to be held since the
-- beginning.
pub hold_on : {T E : Type 0} (result : Result T E) (opens : List ℕ → Bool) (asked : ℕ → ℕ → List ℕ → Type 0) (partly wholly : List Disk → Type 0) (old mid new : DevicesState)
    → old.moment ≤ mid.moment
    → HoldOnly opens asked old mid
    → ChangesDisks result partly wholly mid new
    → ((d b : ℕ) → HasNoChanceMatch opens d b old.moment mid.moment mid → (disks : List Disk) → partly disks → (x : List ℕ) → IsTrue (opens x) → HaveHeld disks d b x → HaveHeld (now mid) d b x ⊎ asked d b x)
    → ((d b : ℕ) → HasNoChanceMatch opens d b old.moment mid.moment mid → (disks : List Disk) → wholly disks → (x : List ℕ) → IsTrue (opens x) → HaveHeld disks d b x → HaveHeld (now mid) d b x ⊎ asked d b x)
    → HoldOnly opens asked old new
hold_on result opens asked partly wholly old mid new begun so_far changes inside after m lo hi d b no_chance x is_open held =
    ⊎_elim
    (λ (earlier : m ≤ mid.moment).
    so_far m lo earlier d b (no_chance_before opens d b old.moment m mid new changes.past m (omega arith) earlier no_chance) x is_open
    (subst (λ (ds : List Disk). HaveHeld ds d b x) (changes.past m earlier) held))
    (λ (later : mid.moment < m).
    let by_then = no_chance_before opens d b old.moment m mid new changes.past mid.moment (omega (arith, later)) (omega arith) no_chance in
    ⊎_elim
    (λ (before : HaveHeld (now mid) d b x). so_far mid.moment begun (omega arith) d b by_then x is_open before)
    (λ (was_asked : asked d b x). inr was_asked)
    (⊎_elim
    (λ (within : m < new.moment). inside d b by_then (new.disks m) (changes.inside m later within) x is_open held)
    (λ (end : new.moment ≤ m).
    let same : m ≡ new.moment = omega (arith, hi, end) in
    let now_held : HaveHeld (now new) d b x = subst (λ n. HaveHeld (new.disks n) d b x) same held in
    ended result (HaveHeld (now mid) d b x ⊎ asked d b x) _ _ changes.after
    (λ is. after d b by_then (now new) is x is_open now_held)
    (λ is. inside d b by_then (now new) is x is_open now_held))
    (cases_lt m new.moment)))
    (earlier_or_later m mid.moment)

module _ (opens : List ℕ → Bool) (asked : ℕ → ℕ → List ℕ → Type 0) (old mid : DevicesState) (begun : old.moment ≤ mid.moment) (so_far : HoldOnly opens asked old mid) where
  held_as_before : (disks : List Disk) (d b : ℕ) (x : List ℕ) → disks ≡ now mid → HaveHeld disks d b x → HaveHeld (now mid) d b x ⊎ asked d b x
  held_as_before disks d b x is held = inl (subst (λ (ds : List Disk). HaveHeld ds d b x) is held)

  held_if_written : (dev block : ℕ) (bytes left : List ℕ) (disks : List Disk) (d b : ℕ) (x : List ℕ) → asked dev block bytes → disks ≡ changed dev (after_write block bytes left) (now mid) → HaveHeld disks d b x → HaveHeld (now mid) d b x ⊎ asked d b x
  held_if_written dev block bytes left disks d b x ask is held = ⊎_elim
      (λ (before : HaveHeld (now mid) d b x). inl before)
      (λ (at : (d ≡ dev) × (b ≡ block) × (x ≡ bytes)). inr (subst (λ n. asked n b x) (sym at.0) (subst (λ n. asked dev n x) (sym at.1) (subst (λ (y : List ℕ). asked dev block y) (sym at.2) ask))))
      (held_by_write (now mid) dev block bytes left d b x (subst (λ (ds : List Disk). HaveHeld ds d b x) is held))

  -- A write adds what it asked for.
  pub hold_by_write : {T E : Type 0} (result : Result T E) (dev block : ℕ) (bytes : List ℕ) (new : DevicesState) → asked dev block bytes
      → ChangesDisks result (MayBeWritten dev block bytes (now mid)) (Is (changed dev (written block bytes) (now mid))) mid new → HoldOnly opens asked old new
  hold_by_write result dev block bytes new ask changes = hold_on result opens asked _ _ old mid new begun so_far changes
      (λ d b by_then disks maybe x is_open held. ⊎_elim
      (λ (same : disks ≡ now mid). held_as_before disks d b x same held)
      (λ (spoilt : (left : List ℕ) × IsBlock left × (disks ≡ changed dev (after_write block bytes left) (now mid))). held_if_written dev block bytes spoilt.0 disks d b x ask spoilt.2 held)
      maybe)
      (λ d b by_then disks is x is_open held. held_if_written dev block bytes bytes disks d b x ask is held)

  -- A flush adds nothing: what was read there opens by no chance.
  pub hold_by_flush : {T E : Type 0} (result : Result T E) (dev : ℕ) (new : DevicesState) → ChangesDisks result (Is (now mid)) (Is (changed dev flushed (now mid))) mid new → HoldOnly opens asked old new
  hold_by_flush result dev new changes = hold_on result opens asked _ _ old mid new begun so_far changes
      (λ d b by_then disks is x is_open held. held_as_before disks d b x is held)
      (λ d b by_then disks is x is_open held. inl (⊎_elim
      (λ (before : HaveHeld (now mid) d b x). before)
      (λ (read : block_at (as_read (now mid)) d b ≡ Some x). by_then mid.moment begun (omega arith) x read is_open)
      (held_by_flush (now mid) dev d b x (subst (λ (ds : List Disk). HaveHeld ds d b x) is held))))

  -- A read adds nothing.
  pub hold_by_read : {T E : Type 0} (result : Result T E) (new : DevicesState) → ChangesDisks result (Is (now mid)) (Is (now mid)) mid new → HoldOnly opens asked old new
  hold_by_read result new changes = hold_on result opens asked _ _ old mid new begun so_far changes
      (λ d b by_then disks is x is_open held. held_as_before disks d b x is held)
      (λ d b by_then disks is x is_open held. held_as_before disks d b x is held)
