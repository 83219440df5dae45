-- What an image of each step means: what it meant before, nothing that mounts, or the fresh volume.
use Rattle.std.proofs.Common.{◌≡◌, ℕ, zero, suc, ◌-◌, ◌<◌, ◌≤◌, Bool, true, false, ◌&&◌, cond, List, length, slice_get, Option, Some, None, ◌⊎◌, inl, inr, ⊎_elim, refl, ap, ◌∙◌, sym, subst, arith}
use Rattle.std.specs.Prelude.{nat_lt, ◌==◌}
use Rattle.std.proofs.lemmas.Bool.{cases_lt, cases_eq, eq-eqb, ne_eqb, lt-ltb, le-ltb}
use Rattle.std.proofs.lemmas.Option.{slice_get_past}
use Rattle.vol_types.specs.declared.layout.Layout.{Layout}
use Rattle.dev_model.specs.Disk.{Image, block_at, blocks_of, zeros}
use Rattle.sealed_block.specs.declared.heads.Head.{Head}
use Rattle.sealed_block.specs.Opening.{opened}
use Rattle.geometry.specs.declared.copies.SuperCopy.{SuperCopy}
use Rattle.geometry.specs.Sessions.{session_block, session_named}
use Rattle.geometry.specs.SuperLaws.{block_of}
use Rattle.geometry.specs.Superblocks.{copy_in, counting, later, super_block, super_copy}
use Rattle.vol_format.specs.declared.fresh.FreshBlocks.{FreshBlocks}
use Rattle.vol_format.specs.Formatting.{Extend, IsOfStep, IsSuperBlock, Prepare, Seal, Step, ZeroOthers, ZeroSpares, held_before, or_held, other_block, prepared, spare_beside, spare_block, step_writes, zeroed}
use Rattle.vol_format.proofs.Copies.{copy_number, copy_of, counting_of, first_counts, later_none, no_copy, no_copy_if, one_of, second_counts, spare_cases, zeros_closed}
use Rattle.vol_format.proofs.Preparing.{prepared_eight, prepared_none}

-- What is sealed for the layout is found again: its superblocks, and session 1.
pub record HasLaws (layout : Layout) : Type 0 where
  pub supers : (dev block : ℕ) → dev < length layout.blocks → (block ≡ 0) ⊎ (block ≡ 8) → copy_in block (super_block layout dev block 1) ≡ Some (super_copy layout dev block 1)
  pub named : session_named layout.id 5 (session_block layout.id 1) ≡ Some 1

-- A superblock copy that opens stands as it did when the step began, or as the step writes it.
abbrev pub OpensOldOrNew : Layout → FreshBlocks → Image → Step → Image → Type 0
OpensOldOrNew layout fresh before step image =
    (dev block : ℕ) → IsSuperBlock block → (bytes : List ℕ) (head : Head) → block_at image dev block ≡ Some bytes → opened bytes ≡ Some head
    → (held_before layout fresh before step dev block ≡ Some bytes) ⊎ (step_writes layout fresh before step dev block ≡ Some bytes)

-- One of two holds of each of the first numbers: then the first of all, or the second of one.
pub all_or_one : (P Q : ℕ → Type 0) (n : ℕ) → ((i : ℕ) → i < n → P i ⊎ Q i) → ((i : ℕ) → i < n → P i) ⊎ ((i : ℕ) × (i < n) × Q i)
all_or_one P Q zero each = inl (λ i within. absurd (omega (arith, within)))
all_or_one P Q (suc n) each = ⊎_elim
    (λ (all : (i : ℕ) → i < n → P i). ⊎_elim
    (λ (last : P n). inl (λ i within. ⊎_elim
    (λ (before : i < n). all i before)
    (λ (end : n ≤ i). subst P (let e : n ≡ i = omega (arith, within, end) in e) last)
    (cases_lt i n)))
    (λ (last : Q n). inr (n, omega arith, last))
    (each n (omega arith)))
    (λ (one : (i : ℕ) × (i < n) × Q i). inr (one.0, omega (arith, one.1), one.2))
    (all_or_one P Q n (λ i within. each i (omega (arith, within))))

-- Nothing is zeroed but at the place.
pub zeroed_elsewhere : (blocks : List (List ℕ)) (place block : ℕ) → ¬ (block ≡ place) → zeroed blocks place block ≡ None
zeroed_elsewhere blocks place block other = rw (ne_eqb block place other) refl

-- A place that was zeroed, or isn't there, has no copy.
cleared_at : (blocks : List (List ℕ)) (place block : ℕ) → block ≡ place → copy_of block (or_held (zeroed blocks place block) (slice_get blocks block)) ≡ None
cleared_at blocks place block is = ⊎_elim
    (λ (within : block < length blocks). rw (eq-eqb block place is, lt-ltb block (length blocks) within) (no_copy block zeros zeros_closed))
    (λ (past : length blocks ≤ block). rw (eq-eqb block place is, le-ltb block (length blocks) past, slice_get_past blocks block past) refl)
    (cases_lt block (length blocks))

-- What was written over a place without a copy, and is none, leaves none.
closed_or : (block : ℕ) (written held : Option (List ℕ)) → copy_of block written ≡ None → copy_of block held ≡ None → copy_of block (or_held written held) ≡ None
closed_or block None held new old = old
closed_or block (Some bytes) held new old = new

pub none_in_all : {A : Type 0} (there held written : Option A) → held ≡ None → written ≡ None → (there ≡ None) ⊎ ((there ≡ held) ⊎ (there ≡ written)) → there ≡ None
none_in_all there held written old new cases = ⊎_elim (λ e. e) (λ more. ⊎_elim (λ e. e ∙ old) (λ e. e ∙ new) more) cases

module _ (layout : Layout) (fresh : FreshBlocks) (before : Image) where
  -- the copy in this block before
  was : ℕ → ℕ → Option SuperCopy
  was dev block = copy_of block (block_at before dev block)

  -- Which copy counted, and which was the spare one.
  which : (dev : ℕ) → ((spare_block (blocks_of before dev) ≡ 8) × (later (was dev 0) (was dev 8) ≡ was dev 0)) ⊎ ((spare_block (blocks_of before dev) ≡ 0) × (later (was dev 0) (was dev 8) ≡ was dev 8))
  unfolding was
  which dev =
      let c0 = copy_of 0 (block_at before dev 0) in
      let c8 = copy_of 8 (block_at before dev 8) in
      subst (λ counts. ((spare_beside counts ≡ 8) × (later c0 c8 ≡ c0)) ⊎ ((spare_beside counts ≡ 0) × (later c0 c8 ≡ c8))) (sym (counting_of before dev))
      (spare_cases c0 c8 (copy_number 0 (block_at before dev 0)) (copy_number 8 (block_at before dev 8)))

  -- While the spare copies are zeroed, the same copies count.
  pub spares_keep : (image : Image) → IsOfStep layout fresh before ZeroSpares image → OpensOldOrNew layout fresh before ZeroSpares image → (dev : ℕ) → counting (blocks_of image dev) ≡ counting (blocks_of before dev)
  unfolding was
  spares_keep image of_step match dev =
      let c0 : Option SuperCopy = copy_of 0 (block_at before dev 0) in
      let c8 : Option SuperCopy = copy_of 8 (block_at before dev 8) in
      let n0 : Option SuperCopy = copy_of 0 (block_at image dev 0) in
      let n8 : Option SuperCopy = copy_of 8 (block_at image dev 8) in
      let B : List (List ℕ) = blocks_of before dev in
      let kept : (block : ℕ) → IsSuperBlock block → (copy_of block (block_at image dev block) ≡ None) ⊎ (copy_of block (block_at image dev block) ≡ copy_of block (block_at before dev block)) = λ block place.
      ⊎_elim (λ none. inl none) (λ more. ⊎_elim (λ same. inr same) (λ new. inl (new ∙ no_copy_if block (block == spare_block B && nat_lt block (length B)))) more)
      (one_of block (block_at image dev block) (block_at before dev block) (step_writes layout fresh before ZeroSpares dev block) (match dev block place)) in
      counting_of image dev ∙ ⊎_elim
      (λ (first : (spare_block B ≡ 8) × (later c0 c8 ≡ c0)).
      let stays : block_at image dev 0 ≡ block_at before dev 0 = of_step.others dev 0 (zeroed_elsewhere B (spare_block B) 0 (λ e. omega (arith, e, first.0))) in
      ap (λ held. later (copy_of 0 held) n8) stays ∙ first_counts c0 c8 n8 first.1 (kept 8 (inr refl)) ∙ sym first.1)
      (λ (second : (spare_block B ≡ 0) × (later c0 c8 ≡ c8)).
      let stays : block_at image dev 8 ≡ block_at before dev 8 = of_step.others dev 8 (zeroed_elsewhere B (spare_block B) 8 (λ e. omega (arith, e, second.0))) in
      ap (λ held. later n0 (copy_of 8 held)) stays ∙ second_counts c0 c8 n0 second.1 (kept 0 (inl refl)) ∙ sym second.1)
      (which dev) ∙ sym (counting_of before dev)

  -- A place that was zeroed as the spare copy has none.
  spare_cleared : (dev block : ℕ) → block ≡ spare_block (blocks_of before dev) → copy_of block (held_before layout fresh before ZeroOthers dev block) ≡ None
  spare_cleared dev block is =
      ap (λ held. copy_of block (or_held (zeroed (blocks_of before dev) (spare_block (blocks_of before dev)) block) held)) (sym (block_of before dev block))
      ∙ cleared_at (blocks_of before dev) (spare_block (blocks_of before dev)) block is

  -- While the other copies are zeroed, the same copies count, or none.
  pub others_keep : (image : Image) → IsOfStep layout fresh before ZeroOthers image → OpensOldOrNew layout fresh before ZeroOthers image → (dev : ℕ) → (counting (blocks_of image dev) ≡ counting (blocks_of before dev)) ⊎ (counting (blocks_of image dev) ≡ None)
  unfolding was
  others_keep image of_step match dev =
      let c0 : Option SuperCopy = copy_of 0 (block_at before dev 0) in
      let c8 : Option SuperCopy = copy_of 8 (block_at before dev 8) in
      let n0 : Option SuperCopy = copy_of 0 (block_at image dev 0) in
      let n8 : Option SuperCopy = copy_of 8 (block_at image dev 8) in
      let B : List (List ℕ) = blocks_of before dev in
      let kept : (block : ℕ) → IsSuperBlock block → ¬ (block ≡ spare_block B) → (copy_of block (block_at image dev block) ≡ copy_of block (block_at before dev block)) ⊎ (copy_of block (block_at image dev block) ≡ None) = λ block place other.
      ⊎_elim (λ none. inr none) (λ more. ⊎_elim
      (λ same. inl (same ∙ ap (λ zero_there. copy_of block (or_held zero_there (block_at before dev block))) (zeroed_elsewhere B (spare_block B) block other)))
      (λ new. inr (new ∙ no_copy_if block (block == other_block B && nat_lt block (length B)))) more)
      (one_of block (block_at image dev block) (held_before layout fresh before ZeroOthers dev block) (step_writes layout fresh before ZeroOthers dev block) (match dev block place)) in
      ⊎_elim
      (λ (first : (spare_block B ≡ 8) × (later c0 c8 ≡ c0)).
      let gone : n8 ≡ None = ap (copy_of 8) (of_step.others dev 8 (zeroed_elsewhere B (other_block B) 8 (λ e. omega (arith, e, first.0)))) ∙ spare_cleared dev 8 (sym first.0) in
      let now : counting (blocks_of image dev) ≡ n0 = counting_of image dev ∙ ap (later n0) gone ∙ later_none n0 in
      ⊎_elim (λ same. inl (now ∙ same ∙ sym first.1 ∙ sym (counting_of before dev))) (λ none. inr (now ∙ none)) (kept 0 (inl refl) (λ e. omega (arith, e, first.0))))
      (λ (second : (spare_block B ≡ 0) × (later c0 c8 ≡ c8)).
      let gone : n0 ≡ None = ap (copy_of 0) (of_step.others dev 0 (zeroed_elsewhere B (other_block B) 0 (λ e. omega (arith, e, second.0)))) ∙ spare_cleared dev 0 (sym second.0) in
      let now : counting (blocks_of image dev) ≡ n8 = counting_of image dev ∙ ap (λ n. later n n8) gone in
      ⊎_elim (λ same. inl (now ∙ same ∙ sym second.1 ∙ sym (counting_of before dev))) (λ none. inr (now ∙ none)) (kept 8 (inr refl) (λ e. omega (arith, e, second.0))))
      (which dev)

  -- After both, no superblock copy is there.
  pub all_cleared : (dev block : ℕ) → (block ≡ 0) ⊎ (block ≡ 8) → copy_of block (held_before layout fresh before Extend dev block) ≡ None
  unfolding was
  all_cleared dev block place =
      let B : List (List ℕ) = blocks_of before dev in
      ⊎_elim
      (λ (spare : block ≡ spare_block B). closed_or block (zeroed B (other_block B) block) _ (no_copy_if block (block == other_block B && nat_lt block (length B))) (spare_cleared dev block spare))
      (λ (other : ¬ (block ≡ spare_block B)).
      let zero_or_eight : (spare_block B ≡ 8) ⊎ (spare_block B ≡ 0) = ⊎_elim (λ first. inl first.0) (λ second. inr second.0) (which dev) in
      let is : block ≡ other_block B = ⊎_elim
      (λ (eight : spare_block B ≡ 8). ⊎_elim (λ (a : block ≡ 0). (let e : block ≡ 8 - spare_block B = omega (arith, a, eight) in e)) (λ (b : block ≡ 8). absurd (other (b ∙ sym eight))) place)
      (λ (nought : spare_block B ≡ 0). ⊎_elim (λ (a : block ≡ 0). absurd (other (a ∙ sym nought))) (λ (b : block ≡ 8). (let e : block ≡ 8 - spare_block B = omega (arith, b, nought) in e)) place)
      zero_or_eight in
      ap (λ spared. copy_of block (or_held (zeroed B (other_block B) block) (or_held spared (block_at before dev block)))) (zeroed_elsewhere B (spare_block B) block other)
      ∙ ap (λ held. copy_of block (or_held (zeroed B (other_block B) block) held)) (sym (block_of before dev block))
      ∙ cleared_at B (other_block B) block is)
      (cases_eq block (spare_block B))

  pub cleared_in_prepare : (dev block : ℕ) → (block ≡ 0) ⊎ (block ≡ 8) → copy_of block (held_before layout fresh before Prepare dev block) ≡ None
  cleared_in_prepare dev block place = closed_or block (step_writes layout fresh before Extend dev block) (held_before layout fresh before Extend dev block) (no_copy_if block _) (all_cleared dev block place)

  pub nothing_prepared : (dev block : ℕ) → (block ≡ 0) ⊎ (block ≡ 8) → step_writes layout fresh before Prepare dev block ≡ None
  nothing_prepared dev block place = by_test (nat_lt dev layout.metadata_replicas) (⊎_elim (λ a. prepared_none layout fresh block (omega (arith, a))) (λ b. prepared_eight layout fresh block b) place)
    where
      by_test : (test : Bool) → prepared layout fresh block ≡ None → cond test (prepared layout fresh block) None ≡ None
      by_test true is = is
      by_test false is = refl

  pub cleared_in_seal : (dev block : ℕ) → (block ≡ 0) ⊎ (block ≡ 8) → copy_of block (held_before layout fresh before Seal dev block) ≡ None
  cleared_in_seal dev block place = closed_or block (step_writes layout fresh before Prepare dev block) (held_before layout fresh before Prepare dev block) (ap (copy_of block) (nothing_prepared dev block place)) (cleared_in_prepare dev block place)

  pub none_counts : (image : Image) (dev : ℕ) → ((block : ℕ) → (block ≡ 0) ⊎ (block ≡ 8) → copy_of block (block_at image dev block) ≡ None) → counting (blocks_of image dev) ≡ None
  none_counts image dev none = counting_of image dev ∙ ap (λ c. later c (copy_of 8 (block_at image dev 8))) (none 0 (inl refl)) ∙ none 8 (inr refl)
