-- What a write leaves to be read elsewhere: what was there, whether it succeeded or not.
use Rattle.std.proofs.Common.{◌≡◌, ⊎_elim, ℕ, zero, suc, List, [], ◌∷◌, refl, ap, ◌∙◌, sym, subst, MatchResult, Result, Ok, Err}
use Rattle.dev_model.specs.Disk.{Disk, IsBlock, after_write, as_read, block_at, changed, written}
use Rattle.dev_model.specs.Devices.{ChangesDisks, DevicesState, Is, MayBeWritten, now}
use Rattle.dev_model.specs.Crashes.{IsAt, SameBut}
use Rattle.dev_model.specs.CrashDisks.{slice_get-set_other}

-- A write, whatever it left at its place, changes nothing that is read elsewhere.
reads_elsewhere : (disks : List Disk) (dev block : ℕ) (bytes left : List ℕ) → SameBut (IsAt dev block) (as_read disks) (as_read (changed dev (after_write block bytes left) disks))
reads_elsewhere [] dev block bytes left d b elsewhere = refl
reads_elsewhere (disk ∷ disks) zero block bytes left zero b elsewhere = sym (slice_get-set_other disk.blocks block b left (λ e. elsewhere (refl, e)))
reads_elsewhere (disk ∷ disks) zero block bytes left (suc d) b elsewhere = refl
reads_elsewhere (disk ∷ disks) (suc dev) block bytes left zero b elsewhere = refl
reads_elsewhere (disk ∷ disks) (suc dev) block bytes left (suc d) b elsewhere = reads_elsewhere disks dev block bytes left d b (λ at. elsewhere (ap suc at.0, at.1))

-- One write more to a touched place changes nothing that is read elsewhere.
pub elsewhere_more : {T E : Type 0} (result : Result T E) (touched : ℕ → ℕ → Type 0) (dev block : ℕ) (bytes : List ℕ) (old mid new : DevicesState) → touched dev block
    → SameBut touched (as_read (now old)) (as_read (now mid)) → ChangesDisks result (MayBeWritten dev block bytes (now mid)) (Is (changed dev (written block bytes) (now mid))) mid new
    → SameBut touched (as_read (now old)) (as_read (now new))
elsewhere_more result touched dev block bytes old mid new hit so_far changes d b elsewhere =
    so_far d b elsewhere ∙ after result changes.after
  where
    away : ¬ IsAt dev block d b
    away at = elsewhere (subst (λ n. touched n b) (sym at.0) (subst (λ n. touched dev n) (sym at.1) hit))

    left : (bytes_left : List ℕ) → now new ≡ changed dev (after_write block bytes bytes_left) (now mid) → block_at (as_read (now mid)) d b ≡ block_at (as_read (now new)) d b
    left bytes_left is = subst (λ (ds : List Disk). block_at (as_read (now mid)) d b ≡ block_at (as_read ds) d b) (sym is) (reads_elsewhere (now mid) dev block bytes bytes_left d b away)

    after : {T E : Type 0} (result : Result T E) → MatchResult result (λ _. now new ≡ changed dev (written block bytes) (now mid)) (λ _. MayBeWritten dev block bytes (now mid) (now new))
        → block_at (as_read (now mid)) d b ≡ block_at (as_read (now new)) d b
    after (Ok x) is = left bytes is
    after (Err e) maybe = ⊎_elim
        (λ (same : now new ≡ now mid). ap (λ (ds : List Disk). block_at (as_read ds) d b) (sym same))
        (λ (spoilt : (some : List ℕ) × IsBlock some × (now new ≡ changed dev (after_write block bytes some) (now mid))). left spoilt.0 spoilt.2)
        maybe
