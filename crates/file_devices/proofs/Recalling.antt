-- What a call of its device makes of a file in memory.
use Rattle.std.proofs.Common.{◌≡◌, ℕ, ◌+◌, ◌-◌, ◌*◌, ◌/◌, ◌<◌, ◌≤◌, ◌^◌, min, List, [], ◌∷◌, ◌++◌, length, replicate, set, slice_get, slice_index, refl, ap, ◌∙◌, sym, subst, arith, Result, Ok, Err, Some, MatchResult, OnOk, OnErr, inl, inr, ⊎_elim, All}
use Rattle.std.proofs.lemmas.Bool.{cases_lt}
use Rattle.std.proofs.lemmas.List.{append-nil, length-map, length-set}
use Rattle.std.proofs.lemmas.List.Elements.{All-head, All-push, All-tail, All-weaker}
use Rattle.std.proofs.lemmas.Nat.{div-mul-add}
use Rattle.dev_model.specs.Disk.{Disk, IsBlock, after_write, as_read, block_at, changed, extended, sizes_of, zeros}
use Rattle.dev_model.specs.Devices.{ChangesDisks, DevicesState, Is, MayBeExtended, MayBeWritten, MayGrow, now}
use Rattle.dev_model.specs.Memory.{mem_state}
use Rattle.dev_model.specs.declared.memory.MemDevices.{MemDevices}
use Rattle.file_devices.specs.MemDisks.{mem_sizes_agree}
use Rattle.file_devices.specs.Files.{ChangesFile, IsDiskNow, IsStill, MayHold, MayReach, Story}
use Rattle.file_devices.specs.Recalled.{after_mark, disk_in, own_at, own_end, recalled}
use Rattle.file_devices.specs.RecallLaws.{mark_before, mark_inside, mark_behind, recalled_still}
use Rattle.file_devices.specs.declared.mark.Mark.{Mark}

own_push : (marks : List Mark) (mark : Mark) (own m : ℕ) → own_at (marks ++ mark ∷ []) own m ≡ after_mark mark (own_at marks own m) m
own_push [] mark own m = refl
own_push (first ∷ marks) mark own m = own_push marks mark (after_mark first own m) m

pub end_push : (marks : List Mark) (mark : Mark) (own : ℕ) → own_end (marks ++ mark ∷ []) own ≡ mark.behind
end_push [] mark own = refl
end_push (first ∷ marks) mark own = end_push marks mark first.behind

mark_past : (mark : Mark) (own m top : ℕ) → own ≤ top → mark.behind ≤ top → after_mark mark own m ≤ top
mark_past mark own m top low behind = ⊎_elim
    (λ (later : mark.at < m). ⊎_elim
    (λ (after : mark.at + 1 < m). omega (arith, behind, mark_behind mark own m (omega (arith, after))))
    (λ (inside : m ≤ mark.at + 1). omega (arith, behind, mark_inside mark own m (omega (arith, later, inside))))
    (cases_lt (mark.at + 1) m))
    (λ (earlier : m ≤ mark.at). omega (arith, low, mark_before mark own m earlier))
    (cases_lt mark.at m)

-- The device's moments that are recalled are none to come.
pub own_past : (marks : List Mark) (own m top : ℕ) → own ≤ top → All (λ mark. mark.behind ≤ top) marks → own_at marks own m ≤ top
own_past [] own m top low past = low
own_past (mark ∷ marks) own m top low past =
    own_past marks (after_mark mark own m) m top
    (mark_past mark own m top low (All-head (λ one. one.behind ≤ top) mark marks past))
    (All-tail (λ one. one.behind ≤ top) mark marks past)

either : {T E : Type 0} (result : Result T E) (A B C D : Type 0) → (A → C) → (B → D) → MatchResult result (λ _. A) (λ _. B) → MatchResult result (λ _. C) (λ _. D)
either (Ok x) A B C D one other is = one is
either (Err e) A B C D one other is = other is

-- inside a call that takes no moment it has failed
ended : {T E : Type 0} (result : Result T E) (P A : Type 0) (before behind : ℕ) → behind ≤ before + 1 → OnOk result (before + 1 < behind) → MatchResult result (λ _. A) (λ _. P) → P
ended (Ok x) P A before behind short time is = absurd (omega (arith, short, time))
ended (Err e) P A before behind short time is = is

-- A call of the device is one of the file.
pub file_changes : {T E : Type 0} (result : Result T E) (old new : DevicesState) (marks : List Mark) (start moment : ℕ) (partly wholly : Disk → Type 0) (partly_all wholly_all : List Disk → Type 0)
    → moment + 3 < 2 ^ 64
    → start ≤ old.moment → All (λ mark. mark.behind ≤ old.moment) marks
    → ChangesDisks result partly_all wholly_all old new
    → ((disks : List Disk) → partly_all disks → partly (disk_in disks))
    → ((disks : List Disk) → wholly_all disks → wholly (disk_in disks))
    → ChangesFile result partly wholly moment (recalled old.disks marks start) (recalled new.disks (marks ++ record { at = moment; before = old.moment; behind = new.moment } ∷ []) start)
file_changes result old new marks start moment partly wholly partly_all wholly_all soon low past changes part whole =
    let mark : Mark = record { at = moment; before = old.moment; behind = new.moment } in
    let own : ℕ → ℕ = λ m. own_at marks start m in
    let seen : (m n : ℕ) → after_mark mark (own m) m ≡ n → recalled new.disks (marks ++ mark ∷ []) start m ≡ disk_in (new.disks n) =
    λ m n is. ap (λ k. disk_in (new.disks k)) (own_push marks mark start m ∙ is) in
    let behind : (m : ℕ) → moment + 2 ≤ m → recalled new.disks (marks ++ mark ∷ []) start m ≡ disk_in (now new) = λ m le. seen m new.moment (mark_behind mark (own m) m le) in
    let part_at : (n : ℕ) → partly_all (new.disks n) → partly (disk_in (new.disks n)) = λ n is. part (new.disks n) is in
    record {
      past = λ m le. seen m (own m) (mark_before mark (own m) m le) ∙ ap (λ (ds : List Disk). disk_in ds) (changes.past (own m) (own_past marks start m old.moment low past));
      inside = subst partly (sym (seen (moment + 1) (min (old.moment + 1) new.moment) (mark_inside mark (own (moment + 1)) (moment + 1) refl)))
          (⊎_elim
          (λ (long : old.moment + 1 < new.moment).
          let here : min (old.moment + 1) new.moment ≡ old.moment + 1 = omega (arith, long) in
          subst (λ n. partly (disk_in (new.disks n))) (sym here) (part_at (old.moment + 1) (changes.inside (old.moment + 1) (omega arith) long)))
          (λ (short : new.moment ≤ old.moment + 1).
          let here : min (old.moment + 1) new.moment ≡ new.moment = omega (arith, short) in
          subst (λ n. partly (disk_in (new.disks n))) (sym here) (part_at new.moment (ended result (partly_all (now new)) (wholly_all (now new)) old.moment new.moment short changes.takes_time changes.after)))
          (cases_lt (old.moment + 1) new.moment));
      after = subst (λ (d : Disk). MatchResult result (λ _. wholly d) (λ _. partly d)) (sym (behind (moment + 2) (omega arith)))
          (either result (wholly_all (now new)) (partly_all (now new)) (wholly (disk_in (now new))) (partly (disk_in (now new))) (whole (now new)) (part (now new)) changes.after);
      still = record { since = λ m le. behind m le ∙ sym (behind (moment + 2) (omega arith)) };
      late = λ late. absurd (omega (arith, soon, late));
      ends = λ late. absurd (omega (arith, soon, late));
    }

-- A call that fails before its device is called changes nothing.
pub nothing_changes : {T E : Type 0} (e : E) (partly wholly : Disk → Type 0) (moment : ℕ) (story : Story) → IsStill story moment → partly (story moment) → ChangesFile {T = T} (Err e) partly wholly moment story story
nothing_changes e partly wholly moment story still here = record {
  past = λ m le. refl;
  inside = subst partly (sym (still.since (moment + 1) (omega arith))) here;
  after = subst partly (sym (still.since (moment + 2) (omega arith))) here;
  still = record { since = λ m le. still.since m (omega (arith, le)) ∙ sym (still.since (moment + 2) (omega arith)) };
  late = λ late. refl;
  ends = λ late. still;
}

-- An extension that isn't begun.
pub none_reached : (size : ℕ) (disk : Disk) → MayReach size disk disk
none_reached size disk =
    let none : 0 - length disk.blocks ≡ 0 = omega arith in (
      0,
      omega arith,
      λ i. record {
        blocks = (sym (append-nil disk.blocks) ∙ ap (λ n. disk.blocks ++ replicate n zeros) (sym none)) i;
        settled = (sym (append-nil disk.settled) ∙ ap (λ n. disk.settled ++ replicate n zeros) (sym none)) i;
        asked = disk.asked;
        shortest = disk.shortest;
      },
    )

head_changed : (change : Disk → Disk) (disks : List Disk) → 0 < length disks → disk_in (changed 0 change disks) ≡ change (disk_in disks)
head_changed change [] some = absurd (omega (arith, some))
head_changed change (disk ∷ disks) some = refl

module _ (disks : List Disk) (disk : Disk) (here : disk ≡ disk_in disks) (some : 0 < length disks) where
  -- What is so of the only device, is so of the file.
  pub only_same : (new : List Disk) → Is disks new → IsDiskNow disk (disk_in new)
  only_same new same = ap (λ (ds : List Disk). disk_in ds) same ∙ sym here

  pub only_changed : (change : Disk → Disk) (new : List Disk) → Is (changed 0 change disks) new → IsDiskNow (change disk) (disk_in new)
  only_changed change new is = ap (λ (ds : List Disk). disk_in ds) is ∙ head_changed change disks some ∙ ap change (sym here)

  pub only_held : (block : ℕ) (bytes : List ℕ) (new : List Disk) → MayBeWritten 0 block bytes disks new → MayHold block bytes disk (disk_in new)
  only_held block bytes new may = ⊎_elim
      (λ (same : new ≡ disks). inl (only_same new same))
      (λ (spoilt : (left : List ℕ) × IsBlock left × (new ≡ changed 0 (after_write block bytes left) disks)). inr (spoilt.0, spoilt.1, only_changed (after_write block bytes spoilt.0) new spoilt.2))
      may

  pub only_reached : (size : ℕ) (new : List Disk) → MayBeExtended 0 size disks new → MayReach size disk (disk_in new)
  only_reached size new may = (may.0, may.1, only_changed (extended may.0) new may.2)

-- A device in memory that is the only one,
pub only_one : (devices : MemDevices) → length (mem_state devices).sizes ≡ 1 → 0 < length (now (mem_state devices))
only_one devices one = omega (arith, one, ap length (mem_sizes_agree devices), length-map (now (mem_state devices)) (λ (disk : Disk). length disk.blocks))

-- and what a file held that was left alone.
pub held_here : (devices : MemDevices) (marks : List Mark) (start moment : ℕ) → own_end marks start ≡ (mem_state devices).moment → IsStill (recalled (mem_state devices).disks marks start) moment → recalled (mem_state devices).disks marks start moment ≡ disk_in (now (mem_state devices))
held_here devices marks start moment ends still = recalled_still (mem_state devices).disks marks start moment still ∙ ap (λ n. disk_in ((mem_state devices).disks n)) ends

module _ {T E : Type 0} (result : Result T E) (old new : MemDevices) (marks new_marks : List Mark) (start moment : ℕ) (is : new_marks ≡ marks ++ record { at = moment; before = (mem_state old).moment; behind = (mem_state new).moment } ∷ []) where
  -- A call of the device is one of the file that has its mark.
  pub mem_changes : (partly wholly : Disk → Type 0) (partly_all wholly_all : List Disk → Type 0)
      → moment + 3 < 2 ^ 64
      → start ≤ (mem_state old).moment → All (λ mark. mark.behind ≤ (mem_state old).moment) marks
      → ChangesDisks result partly_all wholly_all (mem_state old) (mem_state new)
      → ((disks : List Disk) → partly_all disks → partly (disk_in disks))
      → ((disks : List Disk) → wholly_all disks → wholly (disk_in disks))
      → ChangesFile result partly wholly moment (recalled (mem_state old).disks marks start) (recalled (mem_state new).disks new_marks start)
  mem_changes partly wholly partly_all wholly_all soon low past changes part whole =
      subst (λ (list : List Mark). ChangesFile result partly wholly moment (recalled (mem_state old).disks marks start) (recalled (mem_state new).disks list start)) (sym is)
      (file_changes result (mem_state old) (mem_state new) marks start moment partly wholly partly_all wholly_all soon low past changes part whole)

  -- Behind it the file is what the device holds then,
  pub mem_behind : recalled (mem_state new).disks new_marks start (moment + 2) ≡ disk_in (now (mem_state new))
  mem_behind =
      let mark : Mark = record { at = moment; before = (mem_state old).moment; behind = (mem_state new).moment } in
      ap (λ (list : List Mark). recalled (mem_state new).disks list start (moment + 2)) is
      ∙ ap (λ n. disk_in ((mem_state new).disks n)) (own_push marks mark start (moment + 2) ∙ mark_behind mark (own_at marks start (moment + 2)) (moment + 2) (omega arith))

  -- its moment is the last one that is recalled,
  pub mem_ends : own_end new_marks start ≡ (mem_state new).moment
  mem_ends = ap (λ (list : List Mark). own_end list start) is ∙ end_push marks (record { at = moment; before = (mem_state old).moment; behind = (mem_state new).moment }) start

  -- and none is to come.
  pub mem_past : (mem_state old).moment ≤ (mem_state new).moment → All (λ mark. mark.behind ≤ (mem_state old).moment) marks → All (λ mark. mark.behind ≤ (mem_state new).moment) new_marks
  mem_past later past =
      let mark : Mark = record { at = moment; before = (mem_state old).moment; behind = (mem_state new).moment } in
      let P : Mark → Type 0 = λ (one : Mark). one.behind ≤ (mem_state new).moment in
      subst (λ (list : List Mark). All P list) (sym is)
      (All-push P marks mark (All-weaker (λ (one : Mark). one.behind ≤ (mem_state old).moment) P (λ one le. let more : one.behind ≤ (mem_state new).moment = omega (arith, le, later) in more) marks past) (let here : P mark = omega arith in here))

-- An extension leaves as many devices.
pub as_many_sizes : {T E : Type 0} (result : Result T E) (old new : List ℕ) (size : ℕ) → OnOk result (new ≡ set old 0 size) → OnErr result (MayGrow 0 size old new) → length new ≡ length old
as_many_sizes (Ok x) old new size is grows = ap length is ∙ length-set old 0 size
as_many_sizes (Err e) old new size is grows = grows.count

-- Where it failed, the file is as long as it was.
pub as_long : {T E : Type 0} (result : Result T E) (disk behind : Disk) (old new : List Disk) → disk ≡ disk_in old → behind ≡ disk_in new → OnErr result (new ≡ old) → OnErr result (length behind.blocks ≡ length disk.blocks)
as_long (Ok x) disk behind old new here there same = tt
as_long (Err e) disk behind old new here there same = ap (λ (d : Disk). length d.blocks) (there ∙ ap (λ (ds : List Disk). disk_in ds) same ∙ sym here)

only_block : (disks : List Disk) (block : ℕ) → 0 < length disks → block_at (as_read disks) 0 block ≡ slice_get (disk_in disks).blocks block
only_block [] block some = absurd (omega (arith, some))
only_block (disk ∷ disks) block some = refl

-- What was read of the device was read of the file.
pub only_bytes : {T E : Type 0} (result : Result T E) (disks : List Disk) (disk : Disk) (n offset : ℕ) (bytes : List ℕ) → disk ≡ disk_in disks → 0 < length disks → ((block : ℕ) → offset ≡ block * 4096 → n ≡ block) → OnOk result (block_at (as_read disks) 0 n ≡ Some bytes) → OnOk result ((block : ℕ) → offset ≡ block * 4096 → slice_get disk.blocks block ≡ Some bytes)
only_bytes (Err e) disks disk n offset bytes here some place read = tt
only_bytes (Ok x) disks disk n offset bytes here some place read = λ block at.
    ap (λ (d : Disk). slice_get d.blocks block) here ∙ ap (λ k. slice_get (disk_in disks).blocks k) (sym (place block at)) ∙ sym (only_block disks n some) ∙ read

first_size : (disks : List Disk) → 0 < length disks → slice_index (sizes_of disks) 0 ≡ length (disk_in disks).blocks
first_size [] some = absurd (omega (arith, some))
first_size (disk ∷ disks) some = refl

-- The bytes of a file tell its blocks.
pub mem_length : (devices : MemDevices) (disk : Disk) (rest : ℕ) → disk ≡ disk_in (now (mem_state devices)) → 0 < length (now (mem_state devices)) → rest < 4096 → length disk.blocks ≡ (slice_index (mem_state devices).sizes 0 * 4096 + rest) / 4096
mem_length devices disk rest here some few =
    ap (λ (d : Disk). length d.blocks) here ∙ sym (first_size (now (mem_state devices)) some) ∙ ap (λ (sizes : List ℕ). slice_index sizes 0) (sym (mem_sizes_agree devices)) ∙ sym (div-mul-add (slice_index (mem_state devices).sizes 0) 4096 rest few)
