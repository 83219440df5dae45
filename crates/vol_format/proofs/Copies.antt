-- Which superblock copy counts, when some of a device's blocks are what they were, zeros, or copies of a layout.
use Rattle.std.proofs.Common.{◌≡◌, ℕ, Bool, true, false, cond, List, Option, Some, None, ◌⊎◌, inl, inr, ⊎_elim, refl, ap, ◌∙◌, sym, arith}
use Rattle.std.specs.Prelude.{nat_lt, ◌==◌, option_and_then, slice_index}
use Rattle.std.specs.Int.{is_in_range}
use Rattle.std.proofs.lemmas.Bool.{cond-false, and_left, and_right, eq-eqb, ne_eqb, eqb-true, and_parts}
use Rattle.std.proofs.lemmas.List.{get_or-replicate}
use Rattle.std.proofs.lemmas.Option.{none-some, option_and_then_some, cond_some}
use Rattle.sealed_block.specs.declared.heads.Head.{Head}
use Rattle.sealed_block.specs.Opening.{head_in, opened, payload_in}
use Rattle.dev_model.specs.Disk.{Image, block_at, blocks_of, zeros}
use Rattle.geometry.specs.declared.copies.SuperCopy.{SuperCopy}
use Rattle.geometry.specs.SuperLaws.{block_of}
use Rattle.geometry.specs.Superblocks.{copy_at, copy_in, counting, is_copy_head, later}
use Rattle.vol_format.specs.Formatting.{if_so, spare_beside}

-- the copy that a block with these bytes holds
abbrev pub copy_of : ℕ → Option (List ℕ) → Option SuperCopy
copy_of block held = option_and_then (copy_in block) held

-- The copy that counts is the later one of two blocks.
pub counting_of : (image : Image) (dev : ℕ) → counting (blocks_of image dev) ≡ later (copy_of 0 (block_at image dev 0)) (copy_of 8 (block_at image dev 8))
counting_of image dev =
    ap (λ held. later (copy_of 0 held) (copy_at 8 (blocks_of image dev))) (block_of image dev 0) ∙ ap (λ held. later (copy_of 0 (block_at image dev 0)) (copy_of 8 held)) (block_of image dev 8)

-- A block whose kind is 0 doesn't open.
closed_by_kind : (bytes : List ℕ) → slice_index bytes 8 ≡ 0 → opened bytes ≡ None
unfolding opened head_in
closed_by_kind bytes kind = cond-false _ _ _ (and_left _ _ (and_right _ _ (and_left _ _ (and_left _ _ (and_left _ _ (and_left _ _ (ap (is_in_range 1 4) kind)))))))

-- Zeros don't open.
pub zeros_closed : opened zeros ≡ None
zeros_closed = closed_by_kind zeros (get_or-replicate 4096 8 0 0 (omega arith))

-- What doesn't open holds no copy.
pub no_copy : (block : ℕ) (bytes : List ℕ) → opened bytes ≡ None → copy_in block bytes ≡ None
unfolding copy_in
no_copy block bytes closed = ap (option_and_then _) closed

-- Zeros hold none, where there are any.
pub no_copy_if : (block : ℕ) (test : Bool) → copy_of block (if_so test zeros) ≡ None
no_copy_if block true = no_copy block zeros zeros_closed
no_copy_if block false = refl

-- The number of a copy is its block's.
pub copy_number : (block : ℕ) (held : Option (List ℕ)) (copy : SuperCopy) → copy_of block held ≡ Some copy → copy.head.number ≡ block
unfolding copy_in
copy_number block None copy is = absurd (none-some copy is)
copy_number block (Some bytes) copy is =
    option_and_then_some _ (opened bytes) copy is (λ (head : Head) at found.
    let parts = cond_some (is_copy_head block (payload_in bytes) head) _ copy found in
    let a = and_parts _ _ parts.0 in
    let b = and_parts _ _ a.0 in
    let number : (head.number == block) ≡ true = (and_parts _ _ b.0).1 in
    ap (λ (c : SuperCopy). c.head.number) (sym parts.1) ∙ eqb-true head.number block number)

-- What a place may hold is one of two blocks, if it opens: so its copy is none, or that of one of them.
pub one_of : (block : ℕ) (there held written : Option (List ℕ))
    → ((bytes : List ℕ) (head : Head) → there ≡ Some bytes → opened bytes ≡ Some head → (held ≡ Some bytes) ⊎ (written ≡ Some bytes))
    → (copy_of block there ≡ None) ⊎ ((copy_of block there ≡ copy_of block held) ⊎ (copy_of block there ≡ copy_of block written))
one_of block None held written match = inl refl
one_of block (Some bytes) held written match = by_head (opened bytes) refl
  where
    by_head : (o : Option Head) → opened bytes ≡ o → (copy_of block (Some bytes) ≡ None) ⊎ ((copy_of block (Some bytes) ≡ copy_of block held) ⊎ (copy_of block (Some bytes) ≡ copy_of block written))
    by_head None closed = inl (no_copy block bytes closed)
    by_head (Some head) opens = ⊎_elim (λ was. inr (inl (sym (ap (copy_of block) was)))) (λ new. inr (inr (sym (ap (copy_of block) new)))) (match bytes head refl opens)

-- The spare copy is that of block 8 where that of block 0 counts or none does, and that of block 0 where that of block 8 counts.
pub spare_cases : (first second : Option SuperCopy) → ((copy : SuperCopy) → first ≡ Some copy → copy.head.number ≡ 0) → ((copy : SuperCopy) → second ≡ Some copy → copy.head.number ≡ 8)
    → ((spare_beside (later first second) ≡ 8) × (later first second ≡ first)) ⊎ ((spare_beside (later first second) ≡ 0) × (later first second ≡ second))
spare_cases None None zero_is eight_is = inl (refl, refl)
spare_cases None (Some b) zero_is eight_is = inr ((rw (ne_eqb b.head.number 0 (λ e. omega (arith, e, eight_is b refl))) refl), refl)
spare_cases (Some a) None zero_is eight_is = inl ((rw (eq-eqb a.head.number 0 (zero_is a refl)) refl), refl)
spare_cases (Some a) (Some b) zero_is eight_is = both (nat_lt a.head.sequence b.head.sequence)
  where
    both : (test : Bool) → ((spare_beside (cond test (Some b) (Some a)) ≡ 8) × (cond test (Some b) (Some a) ≡ Some a)) ⊎ ((spare_beside (cond test (Some b) (Some a)) ≡ 0) × (cond test (Some b) (Some a) ≡ Some b))
    both true = inr ((rw (ne_eqb b.head.number 0 (λ e. omega (arith, e, eight_is b refl))) refl), refl)
    both false = inl ((rw (eq-eqb a.head.number 0 (zero_is a refl)) refl), refl)

-- The first copy counts as before, if it did, whether the second one stays or is lost.
pub first_counts : (first second new : Option SuperCopy) → later first second ≡ first → (new ≡ None) ⊎ (new ≡ second) → later first new ≡ first
first_counts first second new is kept = ⊎_elim (λ lost. ap (later first) lost ∙ alone first) (λ same. ap (later first) same ∙ is) kept
  where
    alone : (first : Option SuperCopy) → later first None ≡ first
    alone None = refl
    alone (Some copy) = refl

-- The second copy counts as before, if it did, whether the first one stays or is lost.
pub second_counts : (first second new : Option SuperCopy) → later first second ≡ second → (new ≡ None) ⊎ (new ≡ first) → later new second ≡ second
second_counts first second new is kept = ⊎_elim (λ lost. ap (λ n. later n second) lost) (λ same. ap (λ n. later n second) same ∙ is) kept

-- A copy alone counts.
pub later_none : (first : Option SuperCopy) → later first None ≡ first
later_none None = refl
later_none (Some copy) = refl
