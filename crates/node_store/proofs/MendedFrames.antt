-- What writing blocks where they are to be mended leaves and asks for: nothing, a read, a write and a flush, and one after the other.
use Rattle.std.proofs.Common.{◌≡◌, ◌⊎◌, ℕ, zero, suc, ◌<◌, ◌≤◌, inl, inr, ⊎_elim, Bool, List, [], ◌∷◌, length, get_or, slice_get, Option, Some, None, refl, ap, ◌∙◌, sym, subst, arith, Result, Ok, Err, MatchResult, All}
use Rattle.std.proofs.lemmas.Bool.{cases_lt}
use Rattle.std.proofs.lemmas.List.Elements.{All-tail}
use Rattle.std.proofs.lemmas.Option.{same_Some}
use Rattle.std.specs.Prelude.{IfErr, IfSome, OnOk}
use Rattle.dev_model.specs.CrashDisks.{left_by_flush}
use Rattle.dev_model.specs.CrashLaws.{as_read_may_be_left, goes_on, goes_on_flush, goes_on_write, left_itself, started}
use Rattle.dev_model.specs.Crashes.{EachCrash, IsAt, IsCrashImageBut, IsQuiet}
use Rattle.dev_model.specs.Devices.{AreFaultCounts, ChangesDisks, DevicesState, FaultCounts, Is, MayBeWritten, now, risen, with_read_fault, with_write_fault}
use Rattle.dev_model.specs.Disk.{Disk, Image, IsAtRest, IsCrashImage, IsDisk, as_read, at_rest, block_at, changed, flushed, sizes_of, written}
use Rattle.dev_model.specs.FrameLaws.{stay_now}
use Rattle.dev_model.specs.Frames.{AreNoFewer, DisksStay, after_reads}
use Rattle.dev_model.specs.HeldBlocks.{HaveHeld, HoldOnly}
use Rattle.dev_model.specs.HeldLaws.{hold_by_flush, hold_by_write, hold_here, no_chance_before}
use Rattle.dev_model.specs.PlaceLaws.{reads_flushed, reads_written, rest_is_quiet}
use Rattle.dev_model.specs.WriteLaws.{elsewhere_more}
use Rattle.geometry.specs.Faults.{DeviceFailed, failed_device, fault_device}
use Rattle.geometry.specs.declared.fault.DiskFault.{DiskFault}
use Rattle.geometry.specs.declared.fault.DiskFault.TheVariants.{DeviceFault, NoMemory}
use Rattle.geometry.specs.Mirrors.{AreAtRest}
use Rattle.vol_types.specs.Faults.{RoseBy}
use Rattle.node_store.specs.Mending.{AreWritten, AtMostOneWriteFailed, KeepsRest, WritesOnly}
use Rattle.node_store.specs.Writes.{HasLengthsOf, KeepsLengths}
use Rattle.node_store.proofs.WrittenLengths.{lengths_go_on}

-- ---- one after the other

-- What is held in the end was held after the first calls, or asked for since.
hold_then : (opens : List ℕ → Bool) (asked few : ℕ → ℕ → List ℕ → Type 0) (old mid new : DevicesState) → old.moment ≤ mid.moment
    → ((m : ℕ) → m ≤ mid.moment → new.disks m ≡ mid.disks m) → ((d b : ℕ) (x : List ℕ) → few d b x → asked d b x) → HoldOnly opens asked old mid → HoldOnly opens few mid new → HoldOnly opens asked old new
hold_then opens asked few old mid new begun past more first then m lo hi d b no_chance x is_open held = ⊎_elim
    (λ (later : mid.moment < m). ⊎_elim
    (λ (before : HaveHeld (now mid) d b x).
    first mid.moment begun (omega arith) d b (no_chance_before opens d b old.moment m mid new past mid.moment (omega (arith, later)) (omega arith) no_chance) x is_open before)
    (λ (was : few d b x). inr (more d b x was))
    (then m (omega (arith, later)) hi d b (λ n from to. no_chance n (omega (arith, begun, from)) to) x is_open held))
    (λ (earlier : m ≤ mid.moment).
    first m lo earlier d b (no_chance_before opens d b old.moment m mid new past m (omega arith) earlier no_chance) x is_open
    (subst (λ (ds : List Disk). HaveHeld ds d b x) (past m earlier) held))
    (cases_lt mid.moment m)

-- A crash in the end leaves what one left after the first calls, but at what was touched since.
crashes_then : (touched few : ℕ → ℕ → Type 0) (old mid new : DevicesState) → ((d b : ℕ) → few d b → touched d b) → EachCrash (λ _ _ image. IsCrashImageBut touched (now old) image) old mid
    → EachCrash (λ _ _ image. IsCrashImageBut few (now mid) image) mid new → EachCrash (λ _ _ image. IsCrashImageBut touched (now old) image) old new
crashes_then touched few old mid new more first then = record {
  later = omega (arith, first.later, then.later);
  past = λ m le. then.past m (omega (arith, le, first.later)) ∙ first.past m le;
  each = λ m lo hi image may. ⊎_elim
      (λ (later : mid.moment < m).
      let since = then.each m (omega (arith, later)) hi image may in
      let before = first.each mid.moment first.later (omega arith) since.0 since.1 in
      (before.0, before.1, λ d b away. before.2 d b away ∙ since.2 d b (λ at. away (more d b at))))
      (λ (earlier : m ≤ mid.moment). first.each m lo earlier image (subst (λ ds. IsCrashImage ds image) (then.past m earlier) may))
      (cases_lt mid.moment m);
}

-- What may be left has its own lengths,
own_lengths : (disks : List Disk) (image : Image) → IsCrashImage disks image → HasLengthsOf disks image
own_lengths disks image may = (image, may, refl)

-- also before the first call,
lengths_started : (state : DevicesState) → EachCrash (λ _ _ image. HasLengthsOf (now state) image) state state
lengths_started state = started (λ _ _ image. HasLengthsOf (now state) image) state (own_lengths (now state))

-- and in the end it has lengths of what was left after the first calls.
lengths_then : (old mid new : DevicesState) → old.moment ≤ mid.moment → ((m : ℕ) → m ≤ mid.moment → new.disks m ≡ mid.disks m) → KeepsLengths old mid → KeepsLengths mid new → KeepsLengths old new
lengths_then old mid new begun past first then m lo hi image may = ⊎_elim
    (λ (later : mid.moment < m).
    let since = then m (omega (arith, later)) hi image may in
    let before = first mid.moment begun (omega arith) since.0 since.1 in
    (before.0, before.1, before.2 ∙ since.2))
    (λ (earlier : m ≤ mid.moment). first m lo earlier image (subst (λ (ds : List Disk). IsCrashImage ds image) (past m earlier) may))
    (cases_lt mid.moment m)

-- Nothing was written yet.
pub writes_none : (lacking : ℕ → ℕ → Type 0) (wanted : ℕ → ℕ → List ℕ → Type 0) (state : DevicesState) → WritesOnly lacking wanted state state
writes_none lacking wanted state = record {
  crashes = started (λ _ _ image. IsCrashImageBut lacking (now state) image) state (left_itself lacking (now state));
  lengths = (lengths_started state).each;
  elsewhere = λ d b away. refl;
  asks = λ opens. hold_here opens wanted state;
}

-- What was only read is as it was.
pub writes_read : (lacking : ℕ → ℕ → Type 0) (wanted : ℕ → ℕ → List ℕ → Type 0) (old new : DevicesState) → DisksStay old new → WritesOnly lacking wanted old new
writes_read lacking wanted old new stay = record {
  crashes = record {
    later = stay.later;
    past = stay.past;
    each = λ m lo hi image may. left_itself lacking (now old) image (subst (λ (ds : List Disk). IsCrashImage ds image) (stay.same m lo hi) may);
  };
  lengths = λ m lo hi image may. own_lengths (now old) image (subst (λ (ds : List Disk). IsCrashImage ds image) (stay.same m lo hi) may);
  elsewhere = λ d b away. ap (λ (ds : List Disk). block_at (as_read ds) d b) (sym (stay_now old new stay));
  asks = λ opens m lo hi d b no_chance x is_open held. inl (subst (λ (ds : List Disk). HaveHeld ds d b x) (stay.same m lo hi) held);
}

-- Some were written, and then more.
pub writes_then : (lacking few : ℕ → ℕ → Type 0) (wanted less : ℕ → ℕ → List ℕ → Type 0) (first mid new : DevicesState) → ((d b : ℕ) → few d b → lacking d b) → ((d b : ℕ) (x : List ℕ) → less d b x → wanted d b x)
    → WritesOnly lacking wanted first mid → WritesOnly few less mid new → WritesOnly lacking wanted first new
writes_then lacking few wanted less first mid new more asked before then = record {
  crashes = crashes_then lacking few first mid new more before.crashes then.crashes;
  lengths = lengths_then first mid new before.crashes.later then.crashes.past before.lengths then.lengths;
  elsewhere = λ d b away. before.elsewhere d b away ∙ then.elsewhere d b (λ at. away (more d b at));
  asks = λ opens. hold_then opens wanted less first mid new before.crashes.later then.crashes.past asked (before.asks opens) (then.asks opens);
}

-- The same calls, said of more places and more bytes.
pub writes_more : (lacking few : ℕ → ℕ → Type 0) (wanted less : ℕ → ℕ → List ℕ → Type 0) (old new : DevicesState) → ((d b : ℕ) → few d b → lacking d b) → ((d b : ℕ) (x : List ℕ) → less d b x → wanted d b x)
    → WritesOnly few less old new → WritesOnly lacking wanted old new
writes_more lacking few wanted less old new more asked writes = writes_then lacking few wanted less old old new more asked (writes_none lacking wanted old) writes

-- What is so of any result is so where it succeeds,
pub on_ok : {T E : Type 0} (result : Result T E) (P : Type 0) → P → OnOk result P
on_ok (Ok x) P p = p
on_ok (Err e) P p = tt

-- and so is what follows from what is so then.
pub ok_then : {T E : Type 0} (result : Result T E) (A B P : Type 0) → MatchResult result (λ _. A) (λ _. B) → (A → P) → OnOk result P
ok_then (Ok x) A B P is then = then is
ok_then (Err e) A B P is then = tt

pub ok_map : {T E : Type 0} (result : Result T E) (A B : Type 0) → (A → B) → OnOk result A → OnOk result B
ok_map (Ok x) A B then is = then is
ok_map (Err e) A B then is = tt

-- ---- a write and a flush

-- this block
abbrev IsThis : ℕ → ℕ → List ℕ → ℕ → ℕ → List ℕ → Type 0
IsThis dev block bytes d b x = IsAt dev block d b × (x ≡ bytes)

module _ {T E : Type 0} (result : Result T E) (dev block : ℕ) (bytes : List ℕ) (old new : DevicesState) (are : All IsDisk (now old)) where
  pub writes_by_write : ChangesDisks result (MayBeWritten dev block bytes (now old)) (Is (changed dev (written block bytes) (now old))) old new → WritesOnly (IsAt dev block) (IsThis dev block bytes) old new
  writes_by_write changes =
      let none = writes_none (IsAt dev block) (IsThis dev block bytes) old in
      record {
        crashes = goes_on_write (IsAt dev block) (now old) old old none.crashes are result dev block bytes new (refl, refl) changes;
        lengths = (lengths_go_on (now old) old old (lengths_started old) are result dev block bytes new changes).each;
        elsewhere = elsewhere_more result (IsAt dev block) dev block bytes old old new (refl, refl) none.elsewhere changes;
        asks = λ opens. hold_by_write opens (IsThis dev block bytes) old old (omega arith) (none.asks opens) result dev block bytes new ((refl, refl), refl) changes;
      }

  -- After a flush what was read is read.
  pub reads_as_flushed : ChangesDisks result (Is (now old)) (Is (changed dev flushed (now old))) old new → (d b : ℕ) → block_at (as_read (now new)) d b ≡ block_at (as_read (now old)) d b
  reads_as_flushed changes d b = after result changes.after
    where
      after : (result : Result T E) → MatchResult result (λ _. now new ≡ changed dev flushed (now old)) (λ _. now new ≡ now old) → block_at (as_read (now new)) d b ≡ block_at (as_read (now old)) d b
      after (Ok x) is = ap (λ (ds : List Disk). block_at (as_read ds) d b) is ∙ reads_flushed (now old) dev d b
      after (Err e) is = ap (λ (ds : List Disk). block_at (as_read ds) d b) is

  pub writes_by_flush : ChangesDisks result (Is (now old)) (Is (changed dev flushed (now old))) old new → WritesOnly (IsAt dev block) (IsThis dev block bytes) old new
  writes_by_flush changes =
      let none = writes_none (IsAt dev block) (IsThis dev block bytes) old in
      record {
        crashes = goes_on_flush (IsAt dev block) (now old) old old none.crashes are result dev new changes;
        lengths = (goes_on result (λ _ _ image. HasLengthsOf (now old) image) _ _ old old new (lengths_started old) changes
            (λ m disks image is may. own_lengths (now old) image (subst (λ (ds : List Disk). IsCrashImage ds image) is may))
            (λ m disks image is may. own_lengths (now old) image (left_by_flush (now old) dev are image (subst (λ (ds : List Disk). IsCrashImage ds image) is may)))).each;
        elsewhere = λ d b away. sym (reads_as_flushed changes d b);
        asks = λ opens. hold_by_flush opens (IsThis dev block bytes) old old (omega arith) (none.asks opens) result dev new changes;
      }

-- A block is written, and its device flushed.
pub writes_settled : {T E U F : Type 0} (one : Result T E) (other : Result U F) (dev block : ℕ) (bytes : List ℕ) (old mid new : DevicesState) → All IsDisk (now old) → All IsDisk (now mid)
    → ChangesDisks one (MayBeWritten dev block bytes (now old)) (Is (changed dev (written block bytes) (now old))) old mid → ChangesDisks other (Is (now mid)) (Is (changed dev flushed (now mid))) mid new
    → WritesOnly (IsAt dev block) (IsThis dev block bytes) old new
writes_settled one other dev block bytes old mid new are are_then writing flushing = writes_then (IsAt dev block) (IsAt dev block) (IsThis dev block bytes) (IsThis dev block bytes) old mid new (λ d b at. at) (λ d b x is. is)
    (writes_by_write one dev block bytes old mid are writing) (writes_by_flush other dev block bytes mid new are_then flushing)

-- ---- what is at rest

head_of : Image → List (List ℕ)
head_of [] = []
head_of (blocks ∷ image) = blocks

tail_of : Image → Image
tail_of [] = []
tail_of (blocks ∷ image) = image

-- the disks after one block was written and its device flushed
abbrev settled : ℕ → ℕ → List ℕ → List Disk → List Disk
settled dev block bytes disks = changed dev flushed (changed dev (written block bytes) disks)

quiet_settled : (disks : List Disk) (dev block : ℕ) (bytes : List ℕ) → All IsDisk disks → IsQuiet disks → IsQuiet (settled dev block bytes disks)
unfolding head_of tail_of
quiet_settled [] dev block bytes are quiet image may = quiet image may
quiet_settled (disk ∷ disks) zero block bytes are quiet [] may = absurd may
quiet_settled (disk ∷ disks) zero block bytes are quiet (left ∷ image) may =
    let itself = as_read_may_be_left (disk ∷ disks) are in
    let first : left ≡ (written block bytes disk).blocks = ap head_of (rest_is_quiet (at_rest (written block bytes disk).blocks ∷ []) refl (left ∷ []) (may.0, tt)) in
    let others : image ≡ as_read disks = ap tail_of (quiet (disk.blocks ∷ image) (itself.0, may.1)) in
    ap (λ (l : List (List ℕ)). l ∷ image) first ∙ ap (λ (i : Image). (written block bytes disk).blocks ∷ i) others
quiet_settled (disk ∷ disks) (suc dev) block bytes are quiet [] may = absurd may
quiet_settled (disk ∷ disks) (suc dev) block bytes are quiet (left ∷ image) may =
    let itself = as_read_may_be_left (disk ∷ disks) are in
    let first : left ≡ disk.blocks = ap head_of (quiet (left ∷ as_read disks) (may.0, itself.1)) in
    let others : image ≡ as_read (settled dev block bytes disks) =
    quiet_settled disks dev block bytes (All-tail IsDisk disk disks are) (λ (i : Image) left_then. ap tail_of (quiet (disk.blocks ∷ i) (itself.0, left_then))) image may.1 in
    ap (λ (l : List (List ℕ)). l ∷ image) first ∙ ap (λ (i : Image). disk.blocks ∷ i) others

member_settled : (disks : List Disk) (dev block : ℕ) (bytes : List ℕ) (d : ℕ) (disk : Disk) → slice_get (settled dev block bytes disks) d ≡ Some disk → (slice_get disks d ≡ Some disk) ⊎ IsAtRest disk
member_settled [] dev block bytes d disk is = inl is
member_settled (one ∷ disks) zero block bytes zero disk is = inr (subst IsAtRest (same_Some (flushed (written block bytes one)) disk is) (record { writes = refl; extension = refl }))
member_settled (one ∷ disks) zero block bytes (suc d) disk is = inl is
member_settled (one ∷ disks) (suc dev) block bytes zero disk is = inl is
member_settled (one ∷ disks) (suc dev) block bytes (suc d) disk is = member_settled disks dev block bytes d disk is

-- Where a block was written and its device flushed, nothing is pending that wasn't before.
pub rest_settled : (dev block : ℕ) (bytes : List ℕ) (old mid new : DevicesState) → All IsDisk (now old) → now mid ≡ changed dev (written block bytes) (now old) → now new ≡ changed dev flushed (now mid) → KeepsRest old new
rest_settled dev block bytes old mid new are first then =
    let is : settled dev block bytes (now old) ≡ now new = sym (then ∙ ap (changed dev flushed) first) in
    record {
      quiet = λ quiet. subst IsQuiet is (quiet_settled (now old) dev block bytes are quiet);
      rest = λ count rest d disk below there. ⊎_elim (λ (was : slice_get (now old) d ≡ Some disk). rest d disk below was) (λ (at : IsAtRest disk). at)
          (member_settled (now old) dev block bytes d disk (subst (λ (ds : List Disk). slice_get ds d ≡ Some disk) (sym is) there));
    }

pub rest_read : (old new : DevicesState) → DisksStay old new → KeepsRest old new
rest_read old new stay = record {
  quiet = λ quiet. subst IsQuiet (sym (stay_now old new stay)) quiet;
  rest = λ count rest. subst (AreAtRest count) (sym (stay_now old new stay)) rest;
}

pub rest_then : (old mid new : DevicesState) → KeepsRest old mid → KeepsRest mid new → KeepsRest old new
rest_then old mid new first then = record { quiet = λ quiet. then.quiet (first.quiet quiet); rest = λ count rest. then.rest count (first.rest count rest) }

-- ---- what is read

-- After a block was written and its device flushed it is read, and elsewhere what was.
pub reads_settled : {T E : Type 0} (result : Result T E) (dev block : ℕ) (bytes : List ℕ) (old mid new : DevicesState) → All IsDisk (now mid) → block < get_or (sizes_of (now old)) dev 0 → now mid ≡ changed dev (written block bytes) (now old)
    → ChangesDisks result (Is (now mid)) (Is (changed dev flushed (now mid))) mid new → block_at (as_read (now new)) dev block ≡ Some bytes
reads_settled result dev block bytes old mid new are within first flushing =
    reads_as_flushed result dev block bytes mid new are flushing dev block ∙ ap (λ (ds : List Disk). block_at (as_read ds) dev block) first ∙ reads_written (now old) dev block bytes within

-- Blocks were written, and then more.
pub written_then : (wanted less : ℕ → ℕ → List ℕ → Type 0) (one other last : Image) → ((d b : ℕ) (x : List ℕ) → less d b x → wanted d b x) → AreWritten wanted one other → AreWritten less other last → AreWritten wanted one last
written_then wanted less one other last more first then d b = ⊎_elim
    (λ (same : block_at last d b ≡ block_at other d b). ⊎_elim
    (λ (before : block_at other d b ≡ block_at one d b). inl (same ∙ before))
    (λ (was : (x : List ℕ) × wanted d b x × (block_at other d b ≡ Some x)). inr (was.0, was.1, same ∙ was.2))
    (first d b))
    (λ (is : (x : List ℕ) × less d b x × (block_at last d b ≡ Some x)). inr (is.0, more d b is.0 is.1, is.2))
    (then d b)

-- ---- failures

rose_at : (counts : List ℕ) (dev : ℕ) → dev < length counts → RoseBy 1 (get_or counts dev 0) (get_or (changed dev risen counts) dev 0)
rose_at [] dev within = absurd (omega (arith, within))
rose_at (count ∷ counts) zero within = omega arith
rose_at (count ∷ counts) (suc dev) within = rose_at counts dev (omega (arith, within))

pub write_failed : (dev : ℕ) (old new : FaultCounts) → dev < 8 → AreFaultCounts old → new ≡ with_write_fault dev old → AtMostOneWriteFailed (Some dev) old new
write_failed dev old new few are is =
    let eight = are.calls in
    (subst (λ (f : FaultCounts). DeviceFailed dev old f) (sym is) (rose_at old.calls dev (omega (arith, few, eight))), inr (ap (λ (f : FaultCounts). f.writes) is))

pub read_failed : (dev : ℕ) (old new : FaultCounts) → dev < 8 → AreFaultCounts old → new ≡ with_read_fault dev old → DeviceFailed dev old new
read_failed dev old new few are is =
    let eight = are.calls in
    subst (λ (f : FaultCounts). DeviceFailed dev old f) (sym is) (rose_at old.calls dev (omega (arith, few, eight)))

-- A read of this device failed, or it is for want of memory.
pub read_cause : (fault : DiskFault) (dev : ℕ) (old new : FaultCounts) → dev < 8 → AreFaultCounts old → new ≡ after_reads (fault_device fault) old → IfSome (fault_device fault) (λ d. d ≡ dev) → IfSome (fault_device fault) (λ d. (d ≡ dev) × DeviceFailed d old new)
read_cause (DeviceFault d) dev old new few are is names = (names, subst (λ e. DeviceFailed e old new) (sym names) (read_failed dev old new few are (is ∙ ap (λ e. with_read_fault e old) names)))
read_cause NoMemory dev old new few are is names = tt

-- A write or a flush failed, or didn't.
pub call_failed : (result : Result (Unit {0}) DiskFault) (dev : ℕ) (old mid new : FaultCounts) → dev < 8 → AreFaultCounts old → mid ≡ old → MatchResult result (λ _. new ≡ mid) (λ _. new ≡ with_write_fault dev mid)
    → IfErr result (λ fault. fault ≡ DeviceFault dev) → AtMostOneWriteFailed (failed_device result) old new
call_failed (Ok x) dev old mid new few are same is names = ap (λ (f : FaultCounts). f.writes) (is ∙ same)
call_failed (Err e) dev old mid new few are same is names =
    subst (λ (fault : DiskFault). AtMostOneWriteFailed (fault_device fault) old new) (sym names) (write_failed dev old new few are (is ∙ ap (with_write_fault dev) same))

-- Something failed after no write did.
pub failed_then : (failed : Option ℕ) (old mid new : FaultCounts) → AreNoFewer old.calls mid.calls → mid.writes ≡ old.writes → AtMostOneWriteFailed failed mid new → AtMostOneWriteFailed failed old new
failed_then None old mid new no_fewer first then = then ∙ first
failed_then (Some dev) old mid new no_fewer first then = (
  let before = no_fewer dev in let rose = then.0 in omega (arith, before, rose),
  ⊎_elim (λ (none : new.writes ≡ mid.writes). inl (none ∙ first)) (λ (one : new.writes ≡ changed dev risen mid.writes). inr (one ∙ ap (changed dev risen) first)) then.1,
)

-- Nothing but reads failed.
pub reads_failed : (failed : Option ℕ) (old new : FaultCounts) → new.writes ≡ old.writes → IfSome failed (λ dev. DeviceFailed dev old new) → AtMostOneWriteFailed failed old new
reads_failed None old new none is = none
reads_failed (Some dev) old new none is = (is, inl none)

-- What failed later, or earlier, failed in all.
pub failed_later : (dev : ℕ) (old mid new : FaultCounts) → AreNoFewer old.calls mid.calls → DeviceFailed dev mid new → DeviceFailed dev old new
failed_later dev old mid new no_fewer rose = let before = no_fewer dev in omega (arith, before, rose)

pub failed_earlier : (dev : ℕ) (old mid new : FaultCounts) → AreNoFewer mid.calls new.calls → DeviceFailed dev old mid → DeviceFailed dev old new
failed_earlier dev old mid new no_fewer rose = let after = no_fewer dev in omega (arith, after, rose)
