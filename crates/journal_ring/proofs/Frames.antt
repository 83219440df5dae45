-- What writing blocks where they lack leaves and asks for: nothing, a read, a write and flushes, and one after the other.
use Rattle.std.proofs.Common.{◌≡◌, ◌≢◌, ℕ, zero, suc, ◌<◌, ◌≤◌, inl, inr, ⊎_elim, Bool, List, [], ◌∷◌, Some, refl, ap, ◌∙◌, sym, subst, arith, Result, Ok, Err, MatchResult, All}
use Rattle.std.proofs.lemmas.Bool.{cases_lt}
use Rattle.std.proofs.lemmas.Option.{same_Some}
use Rattle.dev_model.specs.CrashDisks.{slice_get-set_other}
use Rattle.dev_model.specs.CrashLaws.{goes_on_write, left_itself, started}
use Rattle.dev_model.specs.Crashes.{EachCrash, IsAt, IsCrashImageBut, SameBut}
use Rattle.dev_model.specs.Devices.{ChangesDisks, DevicesState, Is, MayBeWritten, now}
use Rattle.dev_model.specs.Disk.{Disk, IsBlock, IsCrashImage, IsDisk, after_write, as_read, block_at, changed, written}
use Rattle.dev_model.specs.FrameLaws.{stay_now}
use Rattle.dev_model.specs.Frames.{DisksStay}
use Rattle.dev_model.specs.HeldBlocks.{HaveHeld, HoldOnly}
use Rattle.dev_model.specs.HeldLaws.{hold_by_write, hold_here, no_chance_before}
use Rattle.geometry.specs.Mirrors.{NoBlock}
use Rattle.journal_ring.specs.Mending.{IsBlockAt, IsLacking, IsLackingBlock, Mends}

-- What is held in the end was held after the first calls, or asked for since.
hold_then : (opens : List ℕ → Bool) (asked few : ℕ → ℕ → List ℕ → Type 0) (old mid new : DevicesState) → old.moment ≤ mid.moment
    → ((m : ℕ) → m ≤ mid.moment → new.disks m ≡ mid.disks m) → ((d b : ℕ) (x : List ℕ) → few d b x → asked d b x) → HoldOnly opens asked old mid → HoldOnly opens few mid new → HoldOnly opens asked old new
hold_then opens asked few old mid new begun past more first then m lo hi d b no_chance x is_open held = ⊎_elim
    (λ (later : mid.moment < m). ⊎_elim
    (λ (before : HaveHeld (now mid) d b x).
    first mid.moment begun (omega arith) d b (no_chance_before opens d b old.moment m mid new past mid.moment (omega (arith, later)) (omega arith) no_chance) x is_open before)
    (λ (was : few d b x). inr (more d b x was))
    (then m (omega (arith, later)) hi d b (λ n from to. no_chance n (omega (arith, begun, from)) to) x is_open held))
    (λ (earlier : m ≤ mid.moment).
    first m lo earlier d b (no_chance_before opens d b old.moment m mid new past m (omega arith) earlier no_chance) x is_open
    (subst (λ (ds : List Disk). HaveHeld ds d b x) (past m earlier) held))
    (cases_lt mid.moment m)

-- A crash in the end leaves what one left after the first calls, but at what was touched since.
crashes_then : (touched few : ℕ → ℕ → Type 0) (old mid new : DevicesState) → ((d b : ℕ) → few d b → touched d b) → EachCrash (λ _ _ image. IsCrashImageBut touched (now old) image) old mid
    → EachCrash (λ _ _ image. IsCrashImageBut few (now mid) image) mid new → EachCrash (λ _ _ image. IsCrashImageBut touched (now old) image) old new
crashes_then touched few old mid new more first then = record {
  later = omega (arith, first.later, then.later);
  past = λ m le. then.past m (omega (arith, le, first.later)) ∙ first.past m le;
  each = λ m lo hi image may. ⊎_elim
      (λ (later : mid.moment < m).
      let since = then.each m (omega (arith, later)) hi image may in
      let before = first.each mid.moment first.later (omega arith) since.0 since.1 in
      (before.0, before.1, λ d b away. before.2 d b away ∙ since.2 d b (λ at. away (more d b at))))
      (λ (earlier : m ≤ mid.moment). first.each m lo earlier image (subst (λ ds. IsCrashImage ds image) (then.past m earlier) may))
      (cases_lt mid.moment m);
}

-- Nothing was written yet.
pub mends_none : (wanted : ℕ → ℕ → List ℕ → Type 0) (state : DevicesState) → Mends wanted state state
mends_none wanted state = record {
  crashes = started (λ _ _ image. IsCrashImageBut (IsLacking wanted (as_read (now state))) (now state) image) state (left_itself (IsLacking wanted (as_read (now state))) (now state));
  elsewhere = λ d b away. refl;
  asks = λ opens. hold_here opens (IsLackingBlock wanted (as_read (now state))) state;
}

-- What was only read is as it was.
pub mends_read : (wanted : ℕ → ℕ → List ℕ → Type 0) (old new : DevicesState) → DisksStay old new → Mends wanted old new
mends_read wanted old new stay = record {
  crashes = record {
    later = stay.later;
    past = stay.past;
    each = λ m lo hi image may. left_itself (IsLacking wanted (as_read (now old))) (now old) image (subst (λ (ds : List Disk). IsCrashImage ds image) (stay.same m lo hi) may);
  };
  elsewhere = λ d b away. ap (λ (ds : List Disk). block_at (as_read ds) d b) (sym (stay_now old new stay));
  asks = λ opens m lo hi d b no_chance x is_open held. inl (subst (λ (ds : List Disk). HaveHeld ds d b x) (stay.same m lo hi) held);
}

-- So is what was flushed.
pub mends_flush : (wanted : ℕ → ℕ → List ℕ → Type 0) (old new : DevicesState) → EachCrash (λ _ _ image. IsCrashImage (now old) image) old new → ((d b : ℕ) → block_at (as_read (now new)) d b ≡ block_at (as_read (now old)) d b)
    → ((opens : List ℕ → Bool) → HoldOnly opens NoBlock old new) → Mends wanted old new
mends_flush wanted old new crashes reads asks = record {
  crashes = record {
    later = crashes.later;
    past = crashes.past;
    each = λ m lo hi image may. left_itself (IsLacking wanted (as_read (now old))) (now old) image (crashes.each m lo hi image may);
  };
  elsewhere = λ d b away. sym (reads d b);
  asks = λ opens m lo hi d b no_chance x is_open held. ⊎_elim (λ before. inl before) (λ (none : ⊥). absurd none) (asks opens m lo hi d b no_chance x is_open held);
}

module _ (wanted few : ℕ → ℕ → List ℕ → Type 0) (one_each : (d b : ℕ) (x y : List ℕ) → wanted d b x → wanted d b y → x ≡ y) (more : (d b : ℕ) (x : List ℕ) → few d b x → wanted d b x) (first mid new : DevicesState) where
  -- What lacks in between lacked at first.
  lacked : SameBut (IsLacking wanted (as_read (now first))) (as_read (now first)) (as_read (now mid)) → (d b : ℕ) (x : List ℕ) → wanted d b x → block_at (as_read (now mid)) d b ≢ Some x → block_at (as_read (now first)) d b ≢ Some x
  lacked elsewhere d b x is lacks there =
      let away : ¬ IsLacking wanted (as_read (now first)) d b = λ lacking. lacking.2 (there ∙ ap Some (one_each d b x lacking.0 is lacking.1)) in
      lacks (sym (elsewhere d b away) ∙ there)

  -- Some were written, and then more.
  pub mends_then : first.moment ≤ mid.moment → Mends wanted first mid → Mends few mid new → Mends wanted first new
  mends_then begun before then = record {
    crashes = crashes_then (IsLacking wanted (as_read (now first))) (IsLacking few (as_read (now mid))) first mid new
        (λ d b lacking. (lacking.0, more d b lacking.0 lacking.1, lacked before.elsewhere d b lacking.0 (more d b lacking.0 lacking.1) lacking.2)) before.crashes then.crashes;
    elsewhere = λ d b away. before.elsewhere d b away ∙ then.elsewhere d b (λ lacking. away (lacking.0, more d b lacking.0 lacking.1, lacked before.elsewhere d b lacking.0 (more d b lacking.0 lacking.1) lacking.2));
    asks = λ opens. hold_then opens (IsLackingBlock wanted (as_read (now first))) (IsLackingBlock few (as_read (now mid))) first mid new begun then.crashes.past
        (λ d b x lacking. (more d b x lacking.0, lacked before.elsewhere d b x (more d b x lacking.0) lacking.1)) (before.asks opens) (then.asks opens);
  }

-- A write, whatever it left at its place, changes nothing that is read elsewhere.
reads_elsewhere : (disks : List Disk) (dev block : ℕ) (bytes left : List ℕ) → SameBut (IsAt dev block) (as_read disks) (as_read (changed dev (after_write block bytes left) disks))
reads_elsewhere [] dev block bytes left d b elsewhere = refl
reads_elsewhere (disk ∷ disks) zero block bytes left zero b elsewhere = sym (slice_get-set_other disk.blocks block b left (λ e. elsewhere (refl, e)))
reads_elsewhere (disk ∷ disks) zero block bytes left (suc d) b elsewhere = refl
reads_elsewhere (disk ∷ disks) (suc dev) block bytes left zero b elsewhere = refl
reads_elsewhere (disk ∷ disks) (suc dev) block bytes left (suc d) b elsewhere = reads_elsewhere disks dev block bytes left d b (λ at. elsewhere (ap suc at.0, at.1))

-- A block is written where it lacks.
pub mends_write : {T E : Type 0} (result : Result T E) (dev block : ℕ) (bytes : List ℕ) (old new : DevicesState) → All IsDisk (now old) → block_at (as_read (now old)) dev block ≢ Some bytes
    → ChangesDisks result (MayBeWritten dev block bytes (now old)) (Is (changed dev (written block bytes) (now old))) old new → Mends (IsBlockAt dev block bytes) old new
mends_write result dev block bytes old new are lacks changes =
    let wanted = IsBlockAt dev block bytes in
    let none = mends_none wanted old in
    let hit : IsLacking wanted (as_read (now old)) dev block = (bytes, ((refl, refl), refl), lacks) in
    record {
      crashes = goes_on_write (IsLacking wanted (as_read (now old))) (now old) old old none.crashes are result dev block bytes new hit changes;
      elsewhere = λ d b away. after result changes.after d b (λ at. away (bytes, (at, refl), subst (λ n. block_at (as_read (now old)) n b ≢ Some bytes) (sym at.0) (subst (λ n. block_at (as_read (now old)) dev n ≢ Some bytes) (sym at.1) lacks)));
      asks = λ opens. hold_by_write opens (IsLackingBlock wanted (as_read (now old))) old old (omega arith) (none.asks opens) result dev block bytes new (((refl, refl), refl), lacks) changes;
    }
  where
    left : (some : List ℕ) → now new ≡ changed dev (after_write block bytes some) (now old) → (d b : ℕ) → ¬ IsAt dev block d b → block_at (as_read (now old)) d b ≡ block_at (as_read (now new)) d b
    left some is d b away = subst (λ (ds : List Disk). block_at (as_read (now old)) d b ≡ block_at (as_read ds) d b) (sym is) (reads_elsewhere (now old) dev block bytes some d b away)

    after : {T E : Type 0} (result : Result T E) → MatchResult result (λ _. now new ≡ changed dev (written block bytes) (now old)) (λ _. MayBeWritten dev block bytes (now old) (now new))
        → (d b : ℕ) → ¬ IsAt dev block d b → block_at (as_read (now old)) d b ≡ block_at (as_read (now new)) d b
    after (Ok x) is d b away = left bytes is d b away
    after (Err e) maybe d b away = ⊎_elim
        (λ (same : now new ≡ now old). ap (λ (ds : List Disk). block_at (as_read ds) d b) (sym same))
        (λ (spoilt : (some : List ℕ) × IsBlock some × (now new ≡ changed dev (after_write block bytes some) (now old))). left spoilt.0 spoilt.2 d b away)
        maybe

-- A block was read, and is written since it lacks.
pub mends_once : {T E : Type 0} (result : Result T E) (dev block : ℕ) (bytes held : List ℕ) (first mid new : DevicesState) → DisksStay first mid → All IsDisk (now mid) → block_at (as_read (now first)) dev block ≡ Some held → (held ≡ bytes → ⊥)
    → ChangesDisks result (MayBeWritten dev block bytes (now mid)) (Is (changed dev (written block bytes) (now mid))) mid new → Mends (IsBlockAt dev block bytes) first new
mends_once result dev block bytes held first mid new stay are stands differs changes =
    let wanted = IsBlockAt dev block bytes in
    mends_then wanted wanted (λ d b x y one other. one.1 ∙ sym other.1) (λ d b x is. is) first mid new stay.later (mends_read wanted first mid stay)
    (mends_write result dev block bytes mid new are
    (λ there. differs (same_Some held bytes (sym stands ∙ ap (λ (ds : List Disk). block_at (as_read ds) dev block) (sym (stay_now first mid stay)) ∙ there))) changes)
