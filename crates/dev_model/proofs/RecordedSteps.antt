-- How a recording goes on, by a step or by none.
use Rattle.std.proofs.Common.{◌≡◌, ℕ, suc, ◌<◌, ◌≤◌, ◌^◌, List, [], ◌∷◌, ◌++◌, length, get_or, refl, ap, ◌∙◌, sym, subst, arith, Result, Err, Ok, MatchResult, OnOk, OnErr, All, inr}
use Rattle.std.proofs.lemmas.List.Elements.{All-same}
use Rattle.dev_model.specs.Disk.{Disk, IsDisk, IsBlock, NothingPending, as_read, blocks_of, changed, after_write, sizes_of}
use Rattle.dev_model.specs.Devices.{DevicesState, ChangesDisks, now, MayBeWritten}
use Rattle.dev_model.specs.Replay.{after_step, inside_step, after_steps, replayed, moments, disks_at, moments_push, after_push, at_end, at_past, at_inside}
use Rattle.dev_model.specs.Recording.{AddsStep, AddsNone}
use Rattle.dev_model.specs.Restart.{block_left_by}
use Rattle.dev_model.specs.declared.disk.Pick.{Pick}
use Rattle.dev_model.specs.declared.recording.Step.{Step}
use Rattle.dev_model.specs.declared.recording.Step.TheVariants.{Nothing, Extended, Written, Flushed, Patched}
use Rattle.dev_model.proofs.DiskSteps.{length-after_step, patched_is_quiet}
use Rattle.dev_model.proofs.SoundDisks.{all_changed, written_is_disk, flushed_is_disk, extended_is_disk, patched_is_disk, sizes_of-patched}

-- a call that failed before it did anything
pub changes_nothing : {T E : Type 0} (e : E) (partly wholly : List Disk → Type 0) (old new : DevicesState) → new ≡ old → partly (now old) → ChangesDisks {T = T} (Err e) partly wholly old new
changes_nothing {T} e partly wholly old new same here =
    let P : DevicesState → Type 0 = λ h. ChangesDisks {T = T} (Err e) partly wholly old h in
    subst P (sym same) (record {
      later = omega arith;
      past = λ m le. refl;
      inside = λ m lo hi. absurd (omega arith);
      after = here;
      takes_time = tt;
    })

now_replayed : (steps : List Step) (start : List Disk) → now (replayed steps start) ≡ after_steps steps start
now_replayed steps start = at_end steps start

-- a call that made a step
pub changes_step : {T E : Type 0} (result : Result T E) (partly wholly : List Disk → Type 0) (start : List Disk) (steps : List Step) (step : Step) (new_steps : List Step)
    → new_steps ≡ steps ++ step ∷ []
    → partly (inside_step step (now (replayed steps start)))
    → MatchResult result (λ _. wholly (after_step step (now (replayed steps start)))) (λ _. partly (after_step step (now (replayed steps start))))
    → ChangesDisks result partly wholly (replayed steps start) (replayed new_steps start)
changes_step result partly wholly start steps step new_steps is inside after =
    let more = moments_push steps step in
    let at = now_replayed steps start in
    let P : List Step → Type 0 = λ s. ChangesDisks result partly wholly (replayed steps start) (replayed s start) in
    let end : now (replayed (steps ++ step ∷ []) start) ≡ after_step step (now (replayed steps start)) =
    now_replayed (steps ++ step ∷ []) start ∙ after_push steps step start ∙ ap (after_step step) (sym at) in
    let mid : disks_at (steps ++ step ∷ []) start (suc (moments steps)) ≡ inside_step step (now (replayed steps start)) =
    at_inside steps step start ∙ ap (inside_step step) (sym at) in
    subst P (sym is) (record {
      later = omega (arith, more);
      past = λ m le. at_past steps step start m le;
      inside = λ m lo hi.
          let here : m ≡ suc (moments steps) = omega (arith, more) in
          subst partly (sym (ap (disks_at (steps ++ step ∷ []) start) here ∙ mid)) inside;
      after = subst (λ ds. MatchResult result (λ _. wholly ds) (λ _. partly ds)) (sym end) after;
      takes_time = time result (omega (arith, more));
    })
  where
    time : {T E P : Type 0} (result : Result T E) → P → OnOk result P
    time (Ok x) p = p
    time (Err e) p = tt

-- what holds of each recording
pub record IsRecording (start : List Disk) (devices : List Disk) (steps : List Step) : Type 0 where
  pub replays : devices ≡ after_steps steps start
  pub are_disks : All IsDisk devices
  pub count : (1 ≤ length devices) × (length devices ≤ 8)

-- the step leaves disks as disks
abbrev pub KeepsDisks : Step → Type 0
KeepsDisks step = (disks : List Disk) → All IsDisk disks → All IsDisk (after_step step disks)

pub flush_keeps : (dev : ℕ) → KeepsDisks (Flushed dev)
flush_keeps dev disks are = all_changed disks dev _ flushed_is_disk are

pub write_keeps : (dev block : ℕ) (bytes left : List ℕ) → IsBlock left → KeepsDisks (Written dev block bytes left)
write_keeps dev block bytes left is_block disks are = all_changed disks dev _ (λ d is. written_is_disk d block bytes left is_block is) are

pub extend_keeps : (dev size : ℕ) → size < 2 ^ 32 → KeepsDisks (Extended dev size)
extend_keeps dev size fits disks are = all_changed disks dev _ (λ d is. extended_is_disk d size fits is) are

pub patch_keeps : (dev block : ℕ) (bytes : List ℕ) → IsBlock bytes → KeepsDisks (Patched dev block bytes)
patch_keeps dev block bytes is_block disks are = all_changed disks dev _ (λ d is. patched_is_disk d block bytes is_block is) are

module _ (start : List Disk) (devices new_devices : List Disk) (steps new_steps : List Step) (was : IsRecording start devices steps) where
  pub recording_step : (step : Step) → KeepsDisks step → AddsStep step devices new_devices steps new_steps → IsRecording start new_devices new_steps
  recording_step step keeps adds =
      let many : length new_devices ≡ length devices = ap length adds.after ∙ length-after_step step devices in
      record {
        replays = adds.after ∙ ap (after_step step) was.replays ∙ sym (after_push steps step start) ∙ ap (λ s. after_steps s start) (sym adds.log);
        are_disks = All-same IsDisk _ _ adds.after (keeps devices was.are_disks);
        count = (omega (arith, many, was.count.0), omega (arith, many, was.count.1));
      }

  pub recording_none : AddsNone devices new_devices steps new_steps → IsRecording start new_devices new_steps
  recording_none none = record {
    replays = none.after ∙ was.replays ∙ sym (ap (λ s. after_steps s start) none.log);
    are_disks = All-same IsDisk _ _ none.after was.are_disks;
    count = (omega (arith, ap length none.after, was.count.0), omega (arith, ap length none.after, was.count.1));
  }

  pub recording_after : {T E : Type 0} (result : Result T E) (step : Step) → KeepsDisks step → OnOk result (AddsStep step devices new_devices steps new_steps) → OnErr result (AddsNone devices new_devices steps new_steps) → IsRecording start new_devices new_steps
  recording_after (Ok x) step keeps adds none = recording_step step keeps adds
  recording_after (Err e) step keeps adds none = recording_none none

  -- a write that failed as it was to, or found no memory
  pub recording_failed_write : {T E : Type 0} (result : Result T E) (dev block : ℕ) (bytes left : List ℕ) → OnOk result (IsBlock left × AddsStep (Written dev block bytes left) devices new_devices steps new_steps) → OnErr result (AddsNone devices new_devices steps new_steps) → IsRecording start new_devices new_steps
  recording_failed_write (Ok x) dev block bytes left made none = recording_step (Written dev block bytes left) (write_keeps dev block bytes left made.0) made.1
  recording_failed_write (Err e) dev block bytes left made none = recording_none none

pub same_state : (start : List Disk) (steps new_steps : List Step) → new_steps ≡ steps → replayed new_steps start ≡ replayed steps start
same_state start steps new_steps same = ap (λ s. replayed s start) same

-- A write that failed as it was to.
pub changes_failed_write : {T E : Type 0} (e : E) (wholly : List Disk → Type 0) (start : List Disk) (steps new_steps : List Step) (dev block : ℕ) (bytes left : List ℕ) → IsBlock left → new_steps ≡ steps ++ Written dev block bytes left ∷ []
    → ChangesDisks {T = T} (Err e) (MayBeWritten dev block bytes (now (replayed steps start))) wholly (replayed steps start) (replayed new_steps start)
changes_failed_write {T} e wholly start steps new_steps dev block bytes left is_block log =
    let done : MayBeWritten dev block bytes (now (replayed steps start)) (changed dev (after_write block bytes left) (now (replayed steps start))) = inr (left, is_block, refl) in
    changes_step {T = T} (Err e) _ wholly start steps (Written dev block bytes left) new_steps log done done

-- A write that failed, with what it left under another name.
pub failed_write_added : {T E : Type 0} (result : Result T E) (devices new_devices : List Disk) (steps new_steps : List Step) (dev block : ℕ) (bytes left as_picked : List ℕ) → left ≡ as_picked → IsBlock left
    → OnOk result (AddsStep (Written dev block bytes left) devices new_devices steps new_steps)
    → OnOk result (IsBlock as_picked × AddsStep (Written dev block bytes as_picked) devices new_devices steps new_steps)
failed_write_added (Ok x) devices new_devices steps new_steps dev block bytes left as_picked same is adds =
    (subst IsBlock same is, subst (λ (l : List ℕ). AddsStep (Written dev block bytes l) devices new_devices steps new_steps) same adds)
failed_write_added (Err e) devices new_devices steps new_steps dev block bytes left as_picked same is adds = tt

-- What is told after a write that failed: of its block what the pick says.
pub failed_write_told : (start devices new_devices : List Disk) (steps new_steps : List Step) (pick : Pick) (dev block : ℕ) (bytes : List ℕ) → devices ≡ after_steps steps start
    → AddsStep (Written dev block bytes (block_left_by pick bytes (get_or (blocks_of (as_read devices) dev) block []))) devices new_devices steps new_steps
    → now (replayed new_steps start) ≡ changed dev (after_write block bytes (block_left_by pick bytes (get_or (blocks_of (as_read (now (replayed steps start))) dev) block []))) (now (replayed steps start))
failed_write_told start devices new_devices steps new_steps pick dev block bytes replays adds =
    let told : now (replayed steps start) ≡ devices = now_replayed steps start ∙ sym replays in
    let left : List ℕ = block_left_by pick bytes (get_or (blocks_of (as_read devices) dev) block []) in
    let P : List Disk → Type 0 = λ ds. now (replayed new_steps start) ≡ changed dev (after_write block bytes (block_left_by pick bytes (get_or (blocks_of (as_read ds) dev) block []))) ds in
    subst P (sym told) (
    now_replayed new_steps start ∙ ap (λ s. after_steps s start) adds.log ∙ after_push steps (Written dev block bytes left) start ∙ ap (after_step (Written dev block bytes left)) (sym replays))

-- A call that failed has changed the disks so, whatever its fault is.
pub changes_otherwise : {S T E F : Type 0} (e : E) (f : F) (partly wholly : List Disk → Type 0) (old new : DevicesState) → ChangesDisks {T = S} (Err e) partly wholly old new → ChangesDisks {T = T} (Err f) partly wholly old new
changes_otherwise e f partly wholly old new changes = record { later = changes.later; past = changes.past; inside = changes.inside; after = changes.after; takes_time = tt }

-- where no step is added, the same is told
pub none_told : {T E : Type 0} (result : Result T E) (start devices new_devices : List Disk) (steps new_steps : List Step) → OnErr result (AddsNone devices new_devices steps new_steps) → OnErr result (replayed new_steps start ≡ replayed steps start)
none_told (Ok x) start devices new_devices steps new_steps none = tt
none_told (Err e) start devices new_devices steps new_steps none = same_state start steps new_steps none.log

-- a step that does nothing, or none
pub replays_nothing : {T E : Type 0} (result : Result T E) (start disks : List Disk) (steps new_steps : List Step) → OnOk result (new_steps ≡ steps ++ Nothing ∷ []) → OnErr result (new_steps ≡ steps) → disks ≡ after_steps steps start → disks ≡ after_steps new_steps start
replays_nothing (Ok x) start disks steps new_steps more none replays = replays ∙ sym (ap (λ s. after_steps s start) more ∙ after_push steps Nothing start)
replays_nothing (Err e) start disks steps new_steps more none replays = replays ∙ sym (ap (λ s. after_steps s start) none)

-- the disks of the present moment after a step that may have failed
pub now_after : {T E : Type 0} (result : Result T E) (start : List Disk) (devices new_devices : List Disk) (steps new_steps : List Step) (step : Step) → OnOk result (AddsStep step devices new_devices steps new_steps) → OnOk result (now (replayed new_steps start) ≡ after_step step (now (replayed steps start)))
now_after (Err e) start devices new_devices steps new_steps step adds = tt
now_after (Ok x) start devices new_devices steps new_steps step adds =
    now_replayed new_steps start ∙ ap (λ s. after_steps s start) adds.log ∙ after_push steps step start ∙ ap (after_step step) (sym (now_replayed steps start))

-- what a patch leaves
module _ (devices new_devices : List Disk) (steps new_steps : List Step) (dev block : ℕ) (bytes : List ℕ) where
  pub sizes_after_patch : {T E : Type 0} (result : Result T E) → OnOk result (AddsStep (Patched dev block bytes) devices new_devices steps new_steps) → OnErr result (AddsNone devices new_devices steps new_steps) → sizes_of new_devices ≡ sizes_of devices
  sizes_after_patch (Ok x) adds none = ap sizes_of adds.after ∙ sizes_of-patched devices dev block bytes
  sizes_after_patch (Err e) adds none = ap sizes_of none.after

  pub quiet_after_patch : {T E : Type 0} (result : Result T E) (start : List Disk) → OnOk result (AddsStep (Patched dev block bytes) devices new_devices steps new_steps) → OnErr result (AddsNone devices new_devices steps new_steps) → NothingPending (now (replayed steps start)) → NothingPending (now (replayed new_steps start))
  quiet_after_patch {T} {E} (Ok x) start adds none quiet =
      let after = now_after {E = E} (Ok x) start devices new_devices steps new_steps (Patched dev block bytes) adds in
      subst NothingPending (sym after) (patched_is_quiet (now (replayed steps start)) dev block bytes quiet)
  quiet_after_patch (Err e) start adds none quiet = subst (λ s. NothingPending (now (replayed s start))) (sym none.log) quiet

-- before the first step
pub told_none : (start disks : List Disk) (steps : List Step) → steps ≡ [] → start ≡ disks → now (replayed steps start) ≡ disks
told_none start disks steps none same = now_replayed steps start ∙ ap (λ s. after_steps s start) none ∙ same
