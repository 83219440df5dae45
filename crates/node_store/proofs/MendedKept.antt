-- What some place of a node shows is shown by one still, whatever a crash leaves while it is mended.
use Rattle.std.proofs.Common.{◌≡◌, ◌≢◌, ℕ, ◌+◌, ◌<◌, ◌≤◌, ⊎_elim, List, refl, ap, ◌∙◌, sym, subst, arith}
use Rattle.std.specs.Prelude.{Contains}
use Rattle.std.proofs.lemmas.Bool.{cases_eq, cases_lt}
use Rattle.dev_model.specs.Crashes.{EachCrash, IsCrashImageBut, IsQuiet}
use Rattle.dev_model.specs.Devices.{DevicesState, now}
use Rattle.dev_model.specs.Disk.{Disk, Image, IsCrashImage, as_read, block_at}
use Rattle.dev_model.specs.Frames.{DisksStay}
use Rattle.vol_types.specs.declared.layout.Layout.{Layout}
use Rattle.vol_types.specs.declared.pointers.Place.{Place}
use Rattle.node_store.specs.Mending.{ArePlaced, AreWritten, IsCopyShown, IsShown, IsStillShown, IsWanted, MayBeMended, StayShown, WritesOnly, is_of_node}
use Rattle.node_store.specs.Writes.{IsCopyOf}
use Rattle.node_store.proofs.MendedNodes.{one_place, shown_still, untouched}
use Rattle.node_store.proofs.MendedSteps.{IsSpared}

-- Where quiet disks were only read, a crash leaves what is read.
pub quiet_read : (P : Image → Type 0) (old new : DevicesState) → DisksStay old new → IsQuiet (now old) → P (as_read (now old)) → EachCrash (λ _ _ image. P image) old new
quiet_read P old new stay quiet holds = record {
  later = stay.later;
  past = stay.past;
  each = λ m lo hi image may. subst P (sym (quiet image (subst (λ (ds : List Disk). IsCrashImage ds image) (stay.same m lo hi) may))) holds;
}

module _ (id : List ℕ) (birth : ℕ) (places : List Place) where
  -- What is shown is shown still where nothing has changed,
  shows_itself : (n : ℕ) (image : Image) (bytes : List ℕ) → IsShown id birth places image n bytes → IsStillShown id birth places n image image
  shows_itself n image bytes shown = record { place = shown.place; of_node = shown.one; opens = ap (is_of_node id birth) shown.stands ∙ shown.opens; stays = refl }

  -- so block n stays shown while quiet disks are only read,
  pub block_kept_reading : (n : ℕ) (old new : DevicesState) → DisksStay old new → IsQuiet (now old)
      → EachCrash (λ _ _ image. (bytes : List ℕ) → IsShown id birth places (as_read (now old)) n bytes → IsStillShown id birth places n (as_read (now old)) image) old new
  block_kept_reading n old new stay quiet = quiet_read (λ (image : Image). (bytes : List ℕ) → IsShown id birth places (as_read (now old)) n bytes → IsStillShown id birth places n (as_read (now old)) image) old new stay quiet
      (shows_itself n (as_read (now old)))

  -- and so do all.
  pub kept_reading : (end : ℕ) (old new : DevicesState) → DisksStay old new → IsQuiet (now old) → EachCrash (λ _ _ image. StayShown id birth places end (as_read (now old)) image) old new
  kept_reading end old new stay quiet = quiet_read (StayShown id birth places end (as_read (now old))) old new stay quiet (λ n bytes below shown. shows_itself n (as_read (now old)) bytes shown)

  -- ---- one block

  -- The place that it was read from holds it still.
  pub block_kept : (n source : ℕ) (old new : DevicesState) (bytes : List ℕ) (shown : IsShown id birth places (as_read (now old)) n bytes) → shown.place.dev ≡ source
      → WritesOnly (IsSpared id birth places n source old new) (IsCopyShown id birth places n (as_read (now old))) old new → IsQuiet (now old)
      → EachCrash (λ _ _ image. (x : List ℕ) → IsShown id birth places (as_read (now old)) n x → IsStillShown id birth places n (as_read (now old)) image) old new
  block_kept n source old new bytes shown from writes quiet = record {
    later = writes.crashes.later;
    past = writes.crashes.past;
    each = λ m lo hi image may x is.
        let before = writes.crashes.each m lo hi image may in
        let cell = shown.place.block + n in
        record {
          place = shown.place;
          of_node = shown.one;
          opens = ap (is_of_node id birth) shown.stands ∙ shown.opens;
          stays = sym (before.2 shown.place.dev cell (λ at. at.1 from)) ∙ ap (λ (i : Image). block_at i shown.place.dev cell) (quiet before.0 before.1);
        };
  }

  -- ---- one block after others

  -- Blocks of one place with different numbers are different blocks.
  other_number : (layout : Layout) → ArePlaced layout places → (n k : ℕ) (place : Place) → Contains places place → k ≢ n → ¬ IsCopyOf places n place.dev (place.block + k)
  other_number layout placed n k place there away at =
      let same : place ≡ at.0 = one_place id birth places layout placed place at.0 there at.1 at.2 in
      let block : place.block ≡ at.0.block = ap (λ (p : Place). p.block) same in
      let blocks : place.block + k ≡ at.0.block + n = at.3 in
      away (omega (arith, block, blocks))

  -- What was kept while other blocks were written is so while this one is.
  pub kept_then : (layout : Layout) (end : ℕ) → MayBeMended layout places end → (n : ℕ) (touched : ℕ → ℕ → Type 0) (first mid new : DevicesState) → ((d b : ℕ) → touched d b → IsCopyOf places n d b)
      → AreWritten (IsWanted id birth places n (as_read (now first))) (as_read (now first)) (as_read (now mid)) → IsQuiet (now mid)
      → EachCrash (λ _ _ image. StayShown id birth places end (as_read (now first)) image) first mid
      → EachCrash (λ _ _ image. IsCrashImageBut touched (now mid) image) mid new
      → EachCrash (λ _ _ image. (bytes : List ℕ) → IsShown id birth places (as_read (now mid)) n bytes → IsStillShown id birth places n (as_read (now mid)) image) mid new
      → EachCrash (λ _ _ image. StayShown id birth places end (as_read (now first)) image) first new
  kept_then layout end may_be n touched first mid new of_block written quiet so_far crashes block = record {
    later = omega (arith, so_far.later, crashes.later);
    past = λ m le. crashes.past m (omega (arith, le, so_far.later)) ∙ so_far.past m le;
    each = λ m lo hi image may k bytes below shown. ⊎_elim
        (λ (later : mid.moment < m).
        let from : mid.moment ≤ m = omega (arith, later) in
        ⊎_elim
        (λ (same : k ≡ n).
        let was : IsShown id birth places (as_read (now first)) n bytes = subst (λ i. IsShown id birth places (as_read (now first)) i bytes) same shown in
        let still = block.each m from hi image may bytes (shown_still id birth places layout end may_be (as_read (now first)) (as_read (now mid)) n bytes written was) in
        let then : block_at (as_read (now mid)) still.place.dev (still.place.block + n) ≡ block_at (as_read (now first)) still.place.dev (still.place.block + n) = untouched id birth places layout end may_be (as_read (now first)) (as_read (now mid)) n written still.place still.of_node in
        subst (λ i. IsStillShown id birth places i (as_read (now first)) image) (sym same) (record {
          place = still.place;
          of_node = still.of_node;
          opens = ap (is_of_node id birth) (sym then) ∙ still.opens;
          stays = still.stays ∙ then;
        }))
        (λ (away : k ≢ n).
        let before = crashes.each m from hi image may in
        let still = so_far.each mid.moment so_far.later (omega arith) before.0 (before.1) k bytes below shown in
        record {
          place = still.place;
          of_node = still.of_node;
          opens = still.opens;
          stays = sym (before.2 still.place.dev (still.place.block + k) (λ at. other_number layout may_be.placed n k still.place still.of_node away (of_block still.place.dev (still.place.block + k) at))) ∙ still.stays;
        })
        (cases_eq k n))
        (λ (earlier : m ≤ mid.moment). so_far.each m lo earlier image (subst (λ (ds : List Disk). IsCrashImage ds image) (crashes.past m earlier) may) k bytes below shown)
        (cases_lt mid.moment m);
  }
