-- How the steps of formatting follow each other.
use Rattle.std.proofs.Common.{◌≡◌, ℕ, zero, suc, ◌<◌, ◌≤◌, List, [], ◌∷◌, length, slice_get, Option, Some, None, Result, Ok, Err, inl, inr, ⊎_elim, refl, ap, ◌∙◌, sym, subst, arith, All, Contains}
use Rattle.std.specs.Option.{IsSome, is_some}
use Rattle.std.proofs.lemmas.Bool.{cases_lt, false≢true}
use Rattle.std.proofs.lemmas.List.{length-map}
use Rattle.std.proofs.lemmas.List.Elements.{All-head, All-tail}
use Rattle.std.proofs.lemmas.Option.{none-some, same_Some, slice_get_past}
use Rattle.vol_types.specs.declared.layout.Layout.{Layout}
use Rattle.dev_model.specs.Disk.{Asked, Disk, IsAtRest, IsDisk, IsCrashImage, IsCrashOf, IsPending, NothingPending, as_read, block_at}
use Rattle.dev_model.specs.Devices.{DevicesState, now}
use Rattle.dev_model.specs.CrashLaws.{as_read_may_be_left}
use Rattle.dev_model.specs.Frames.{DisksStay}
use Rattle.dev_model.specs.FrameLaws.{stay_now}
use Rattle.dev_model.specs.HeldBlocks.{HaveHeld}
use Rattle.dev_model.specs.HeldLaws.{no_chance_before}
use Rattle.image_view.specs.CrashEntries.{opens}
use Rattle.replay.proofs.MendedEntry.{rest_held}
use Rattle.vol_format.specs.declared.fresh.FreshBlocks.{FreshBlocks}
use Rattle.vol_format.specs.Formatting.{Step, ZeroSpares, held_after, or_held, step_writes, steps_before}
use Rattle.vol_format.specs.Steps.{AllSettled, AreInStep, Formats, IsStep, LeavesSteps, Reached, Writes}
use Rattle.vol_format.proofs.Written.{left_count}

-- ---- where nothing is pending

not_pending : (disk : Disk) (block : ℕ) → IsAtRest disk → ¬ IsPending disk block
not_pending disk block rest pending =
    let none : Contains [] (record { block = block; bytes = pending.0 }) = subst (λ (asked : List Asked). Contains asked (record { block = block; bytes = pending.0 })) rest.writes pending.1 in
    omega (arith, none.1)

-- A crash leaves a disk of which nothing is pending as it is read,
left_at_rest : (disk : Disk) (left : List (List ℕ)) → IsAtRest disk → IsCrashOf disk left → (block : ℕ) → slice_get left block ≡ slice_get disk.blocks block
left_at_rest disk left rest may block = ⊎_elim
    (λ (within : block < length left). may.settled block within (not_pending disk block rest))
    (λ (past : length left ≤ block). slice_get_past left block past ∙ sym (slice_get_past disk.blocks block (omega (arith, past, may.no_shorter, rest.extension))))
    (cases_lt block (length left))

-- and so all places of disks of which nothing is.
pub rest_is_settled : (disks : List Disk) → NothingPending disks → AllSettled disks
rest_is_settled [] rest [] may dev block = refl
rest_is_settled [] rest (left ∷ image) may dev block = absurd may
rest_is_settled (disk ∷ disks) rest [] may dev block = absurd may
rest_is_settled (disk ∷ disks) rest (left ∷ image) may zero block = left_at_rest disk left (All-head IsAtRest disk disks rest) may.0 block
rest_is_settled (disk ∷ disks) rest (left ∷ image) may (suc dev) block = rest_is_settled disks (All-tail IsAtRest disk disks rest) image may.1 dev block

rested : (disks : List Disk) (dev : ℕ) (disk : Disk) → NothingPending disks → slice_get disks dev ≡ Some disk → IsAtRest disk
rested [] dev disk rest there = absurd (none-some disk there)
rested (one ∷ disks) zero disk rest there = subst IsAtRest (same_Some one disk there) (All-head IsAtRest one disks rest)
rested (one ∷ disks) (suc dev) disk rest there = rested disks dev disk (All-tail IsAtRest one disks rest) there

-- What they have held is what is read.
held_is_read : (disks : List Disk) → All IsDisk disks → NothingPending disks → (dev block : ℕ) (bytes : List ℕ) → HaveHeld disks dev block bytes → block_at (as_read disks) dev block ≡ Some bytes
held_is_read disks are rest dev block bytes held = rest_held (suc dev) disks dev block bytes are (λ d disk within there. rested disks d disk rest there) (omega arith) held

-- ---- the steps

-- There are as many devices as disks.
pub read_count : (disks : List Disk) → length (as_read disks) ≡ length disks
read_count disks = length-map {B = List (List ℕ)} disks (λ (disk : Disk). disk.blocks)

-- Before the first call the first step begins.
pub reached_first : (layout : Layout) (fresh : FreshBlocks) (history : DevicesState) → All IsDisk (now history) → Reached layout fresh ZeroSpares history history
reached_first layout fresh history are = record {
  leaves = record {
    later = omega arith;
    past = λ m le. refl;
    each = λ rest m lo hi.
        let same : m ≡ history.moment = omega (arith, lo, hi) in
        record {
          step = ZeroSpares;
          of_step = λ image may.
              let may_now : IsCrashImage (now history) image = subst (λ n. IsCrashImage (history.disks n) image) same may in
              record { count = left_count (now history) image may_now ∙ sym (read_count (now history)); others = λ d b none. rest_is_settled (now history) rest image may_now d b };
          held = λ d b no_chance bytes is_open held. inl (held_is_read (now history) are rest d b bytes (subst (λ n. HaveHeld (history.disks n) d b bytes) same held));
        };
  };
  held = λ d b. refl;
  settled = λ rest. rest_is_settled (now history) rest;
  rest = λ rest. rest;
  disks = are;
  count = refl;
}

-- What was in a step is so, whatever came after it.
in_step_before : (layout : Layout) (fresh : FreshBlocks) (old mid new : DevicesState) (m n : ℕ) → ((m : ℕ) → m ≤ mid.moment → new.disks m ≡ mid.disks m) → n ≤ mid.moment → n ≤ m → new.disks m ≡ mid.disks n
    → AreInStep layout fresh old mid n → AreInStep layout fresh old new m
in_step_before layout fresh old mid new m n past within before same in_step = record {
  step = in_step.step;
  of_step = λ image may. in_step.of_step image (subst (λ (ds : List Disk). IsCrashImage ds image) same may);
  held = λ d b no_chance bytes is_open held. in_step.held d b (no_chance_before opens d b old.moment m mid new past n before within no_chance) bytes is_open (subst (λ (ds : List Disk). HaveHeld ds d b bytes) same held);
}

-- What holds at each moment of two parts holds of both.
both_parts : (layout : Layout) (fresh : FreshBlocks) (old mid new : DevicesState) → LeavesSteps layout fresh old mid → mid.moment ≤ new.moment → ((m : ℕ) → m ≤ mid.moment → new.disks m ≡ mid.disks m)
    → (NothingPending (now old) → (m : ℕ) → mid.moment ≤ m → m ≤ new.moment → AreInStep layout fresh old new m) → LeavesSteps layout fresh old new
both_parts layout fresh old mid new so_far later past each = record {
  later = omega (arith, so_far.later, later);
  past = λ m le. past m (omega (arith, le, so_far.later)) ∙ so_far.past m le;
  each = λ rest m lo hi. ⊎_elim
      (λ (beyond : mid.moment < m). each rest m (omega (arith, beyond)) hi)
      (λ (before : m ≤ mid.moment). in_step_before layout fresh old mid new m m past before (omega arith) (past m before) (so_far.each rest m lo before))
      (cases_lt mid.moment m);
}

-- Reading leaves the step reached.
pub reached_reading : (layout : Layout) (fresh : FreshBlocks) (step : Step) (old mid new : DevicesState) → Reached layout fresh step old mid → DisksStay mid new → Reached layout fresh step old new
reached_reading layout fresh step old mid new reached stays = record {
  leaves = both_parts layout fresh old mid new reached.leaves stays.later stays.past
      (λ rest m lo hi. in_step_before layout fresh old mid new m mid.moment stays.past (omega arith) lo (stays.same m lo hi) (reached.leaves.each rest mid.moment reached.leaves.later (omega arith)));
  held = λ d b. ap (λ (ds : List Disk). block_at (as_read ds) d b) (stay_now mid new stays) ∙ reached.held d b;
  settled = λ rest. subst AllSettled (sym (stay_now mid new stays)) (reached.settled rest);
  rest = λ rest. subst NothingPending (sym (stay_now mid new stays)) (reached.rest rest);
  disks = subst (λ (ds : List Disk). All IsDisk ds) (sym (stay_now mid new stays)) reached.disks;
  count = ap (λ (ds : List Disk). length ds) (stay_now mid new stays) ∙ reached.count;
}

not_some : (bytes : Option (List ℕ)) → bytes ≡ None → ¬ IsSome bytes
not_some None is some = false≢true some
not_some (Some b) is some = absurd (false≢true (sym (ap (λ (o : Option (List ℕ)). is_some o) is)))

-- Writes where the step writes leave only images of the step.
step_leaves : {T E : Type 0} (result : Result T E) (layout : Layout) (fresh : FreshBlocks) (step : Step) (writes : ℕ → ℕ → Option (List ℕ)) (old mid new : DevicesState) → Reached layout fresh step old mid
    → ((dev block : ℕ) → writes dev block ≡ step_writes layout fresh (as_read (now old)) step dev block) → Writes result writes mid new → LeavesSteps layout fresh old new
step_leaves result layout fresh step writes old mid new reached same taken =
    both_parts layout fresh old mid new reached.leaves taken.touches.later taken.touches.past
    (λ rest m lo hi. record {
      step = step;
      of_step = λ image may.
          let leaves = taken.touches.each m lo hi image may in
          record {
            count = leaves.count ∙ reached.count ∙ sym (read_count (now old));
            others = λ d b none.
                sym (leaves.but.2 d b (not_some (writes d b) (same d b ∙ none))) ∙ reached.settled rest leaves.but.0 leaves.but.1 d b ∙ reached.held d b;
          };
      held = λ d b no_chance bytes is_open held. ⊎_elim
          (λ (before : HaveHeld (now mid) d b bytes). inl (sym (reached.held d b) ∙ held_is_read (now mid) reached.disks (reached.rest rest) d b bytes before))
          (λ (asked : writes d b ≡ Some bytes). inr (sym (same d b) ∙ asked))
          (taken.asks opens m lo hi d b (λ n from to. no_chance n (omega (arith, from, reached.leaves.later)) to) bytes is_open held);
    })

left_is_read : (disks : List Disk) → All IsDisk disks → IsCrashImage disks (as_read disks)
left_is_read disks are = as_read_may_be_left disks are

-- After a step the next one begins.
pub step_taken : {T E : Type 0} (result : Result T E) (layout : Layout) (fresh : FreshBlocks) (step next : Step) (writes : ℕ → ℕ → Option (List ℕ)) (old mid new : DevicesState) → All IsDisk (now new) → steps_before next ≡ step ∷ steps_before step
    → Reached layout fresh step old mid → ((dev block : ℕ) → writes dev block ≡ step_writes layout fresh (as_read (now old)) step dev block) → IsStep result writes mid new → Formats result layout fresh next old new
step_taken (Err e) layout fresh step next writes old mid new are follows reached same taken = record { leaves = step_leaves (Err e) layout fresh step writes old mid new reached same taken.writes_so; reached = tt }
step_taken (Ok x) layout fresh step next writes old mid new are follows reached same taken = record {
  leaves = leaves;
  reached = (
    record {
      leaves = leaves;
      held = λ d b.
          taken.writes_so.reads d b
          ∙ ap (λ bytes. or_held bytes (block_at (as_read (now mid)) d b)) (same d b)
          ∙ ap (or_held (step_writes layout fresh (as_read (now old)) step d b)) (reached.held d b)
          ∙ sym (ap (λ steps. held_after layout fresh (as_read (now old)) steps d b) follows);
      settled = λ rest. taken.settled;
      rest = λ rest. taken.rest;
      disks = are;
      count = sym (read_count (now new)) ∙ (taken.writes_so.touches.each new.moment taken.writes_so.touches.later (omega arith) (as_read (now new)) (left_is_read (now new) are)).count ∙ reached.count;
    },
    taken.settled,
  );
}
  where
    leaves : LeavesSteps layout fresh old new
    leaves = step_leaves (Ok x) layout fresh step writes old mid new reached same taken.writes_so
