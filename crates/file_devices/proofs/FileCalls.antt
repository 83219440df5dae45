-- What a call of a file makes of an image's story.
use Rattle.std.proofs.Common.{◌≡◌, ℕ, ◌+◌, ◌-◌, ◌<◌, ◌≤◌, ◌^◌, List, length, replicate, ap, ◌∙◌, sym, subst, arith, Result, Ok, Err, IsErr, MatchResult, OnOk, OnErr, ⊎_elim}
use Rattle.std.proofs.lemmas.Bool.{cases_lt}
use Rattle.std.proofs.lemmas.List.{length-set, length-append, length-replicate}
use Rattle.dev_model.specs.Disk.{Disk, IsBlock, after_write, extended, written, zeros}
use Rattle.file_devices.specs.Files.{ChangesFile, IsDiskNow, IsStill, MayHold, MayReach, Story}
use Rattle.file_devices.specs.Images.{ChangesImage, IsMomentAfter}

wrong_ok : {T A : Type 0} (E : Type 0) (x : T) → IsErr {E = E} (Ok x) → A
wrong_ok E x wrong = absurd (let no : ⊥ = cc in no)

-- The call changes the image so, and it is still since the moment after it, which isn't the last one.
pub record Changed {T E : Type 0} (result : Result T E) (partly wholly : Disk → Type 0) (moment last : ℕ) (old new : Story) : Type 0 where
  pub changes : ChangesImage result partly wholly moment last old new
  pub still : IsStill new last
  pub counted : last < 2 ^ 64 - 1

changed_late : {T E : Type 0} (result : Result T E) (partly wholly : Disk → Type 0) (moment last : ℕ) (old new : Story) → moment < 2 ^ 64 - 1 → 2 ^ 64 ≤ moment + 3
    → ChangesFile result partly wholly moment old new → MatchResult result (λ _. last ≡ 2 ^ 64 - 1) (λ _. last ≡ moment) → Changed result partly wholly moment last old new
changed_late {T} {E} (Ok x) partly wholly moment last old new counted late call at = wrong_ok E x (call.late late)
changed_late {T} {E} (Err e) partly wholly moment last old new counted late call at =
    let P : ℕ → Type 0 = λ n. Changed {T = T} {E = E} (Err e) partly wholly moment n old new in
    subst P (sym at) (record {
      changes = record {
        past = call.past;
        inside = λ m lo hi. absurd (omega (arith, lo, hi));
        after = subst partly ((call.ends late).since (moment + 2) (omega arith)) call.after;
        takes_time = tt;
      };
      still = call.ends late;
      counted = counted;
    })

in_time : {T E P : Type 0} (result : Result T E) → P → OnOk result P
in_time (Ok x) p = p
in_time (Err e) p = tt

changed_soon : {T E : Type 0} (result : Result T E) (partly wholly : Disk → Type 0) (moment last : ℕ) (old new : Story) → moment + 3 < 2 ^ 64 → ChangesFile result partly wholly moment old new → last ≡ moment + 2 → Changed result partly wholly moment last old new
changed_soon result partly wholly moment last old new soon call at =
    let P : ℕ → Type 0 = λ n. Changed result partly wholly moment n old new in
    subst P (sym at) (record {
      changes = record {
        past = call.past;
        inside = λ m lo hi. subst (λ n. partly (new n)) (let e : moment + 1 ≡ m = omega (arith, lo, hi) in e) call.inside;
        after = call.after;
        takes_time = in_time result (let e : moment + 1 < moment + 2 = omega arith in e);
      };
      still = call.still;
      counted = omega (arith, soon);
    })

-- What a call of the file came to, it came to of the image.
pub changed_by : {T E : Type 0} (result : Result T E) (partly wholly : Disk → Type 0) (moment last : ℕ) (old new : Story) → moment < 2 ^ 64 - 1 → ChangesFile result partly wholly moment old new → IsMomentAfter result moment last → Changed result partly wholly moment last old new
changed_by result partly wholly moment last old new counted call after = ⊎_elim
    (λ (soon : moment + 3 < 2 ^ 64). changed_soon result partly wholly moment last old new soon call (after.soon soon))
    (λ (late : 2 ^ 64 ≤ moment + 3). changed_late result partly wholly moment last old new counted late call (after.at_end late))
    (cases_lt (moment + 3) (2 ^ 64))

-- What holds of the disk in any case.
pub in_any_case : {T E : Type 0} (result : Result T E) (partly wholly P : Disk → Type 0) (disk : Disk) → MatchResult result (λ _. wholly disk) (λ _. partly disk) → ((d : Disk) → partly d → P d) → ((d : Disk) → wholly d → P d) → P disk
in_any_case (Ok x) partly wholly P disk is part whole = whole disk is
in_any_case (Err e) partly wholly P disk is part whole = part disk is

-- A write leaves as many blocks.
pub as_many_partly : (block : ℕ) (bytes : List ℕ) (disk new : Disk) → MayHold block bytes disk new → length new.blocks ≡ length disk.blocks
as_many_partly block bytes disk new may = ⊎_elim
    (λ (same : new ≡ disk). ap (λ (d : Disk). length d.blocks) same)
    (λ (spoilt : (left : List ℕ) × IsBlock left × (new ≡ after_write block bytes left disk)). ap (λ (d : Disk). length d.blocks) spoilt.2 ∙ length-set disk.blocks block spoilt.0)
    may

pub as_many_wholly : (block : ℕ) (bytes : List ℕ) (disk new : Disk) → IsDiskNow (written block bytes disk) new → length new.blocks ≡ length disk.blocks
as_many_wholly block bytes disk new is = ap (λ (d : Disk). length d.blocks) is ∙ length-set disk.blocks block bytes

module _ {T E : Type 0} (blocks before moment last : ℕ) (old new : Story) (longer : before ≤ blocks) (size : before ≡ length (old moment).blocks) where
  -- An extension leaves as many blocks as were asked for, or where it failed as many as there were.
  pub as_many_after : (result : Result T E) (after : ℕ) → MatchResult result (λ _. after ≡ blocks) (λ _. after ≡ before)
      → ChangesFile result (MayReach blocks (old moment)) (IsDiskNow (extended blocks (old moment))) moment old new
      → IsMomentAfter result moment last
      → ChangesImage result (MayReach blocks (old moment)) (IsDiskNow (extended blocks (old moment))) moment last old new
      → OnErr result (length (new (moment + 2)).blocks ≡ length (old moment).blocks)
      → after ≡ length (new last).blocks
  as_many_after (Ok x) after is call at changes failed =
      let many : ℕ = blocks - length (old moment).blocks in
      let sum : length (extended blocks (old moment)).blocks ≡ length (old moment).blocks + many = length-append (old moment).blocks (replicate many zeros) ∙ ap (λ n. length (old moment).blocks + n) (length-replicate many zeros) in
      omega (arith, is, longer, size, sum, ap (λ (d : Disk). length d.blocks) changes.after)
  as_many_after (Err e) after is call at changes failed = ⊎_elim
      (λ (soon : moment + 3 < 2 ^ 64). is ∙ size ∙ sym failed ∙ ap (λ n. length (new n).blocks) (sym (at.soon soon)))
      (λ (late : 2 ^ 64 ≤ moment + 3). is ∙ size ∙ ap (λ (d : Disk). length d.blocks) (sym (call.past moment (omega arith))) ∙ ap (λ n. length (new n).blocks) (sym (at.at_end late)))
      (cases_lt (moment + 3) (2 ^ 64))
