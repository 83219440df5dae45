-- What a degraded image shows of a node's bucket: on each place what it showed, or nothing.
use Rattle.std.proofs.Common.{◌≡◌, ◌⊎◌, inl, inr, ⊎_elim, ℕ, zero, suc, ◌+◌, ◌<◌, ◌≤◌, List, [], ◌∷◌, length, Option, Some, None, refl, ap, sym, ◌∙◌, arith}
use Rattle.std.proofs.lemmas.Bool.{and_left, and_right, cases_lt, cond-false}
use Rattle.std.proofs.lemmas.List.{get_or-replicate}
use Rattle.std.proofs.lemmas.Option.{none-some}
use Rattle.std.specs.Prelude.{option_and_then, option_map, slice_index}
use Rattle.std.specs.Int.{is_in_range}
use Rattle.dev_model.specs.Disk.{Image, block_at, zeros}
use Rattle.image_view.specs.Bases.{AgreeAt}
use Rattle.node_store.specs.Copies.{block_in, copies_at, copy_at, shown_at, shown_in}
use Rattle.node_store.specs.StoredSets.{Copies}
use Rattle.node_store.specs.declared.opening.OpenBlock.{OpenBlock}
use Rattle.node_store.proofs.NoBlocks.{behind-copy_at, block_in-copy_at}
use Rattle.replay.specs.Roots.{Shows}
use Rattle.sealed_block.specs.Opening.{head_in, opened, payload_in}
use Rattle.sealed_block.specs.declared.heads.Head.{Head}
use Rattle.vol_types.specs.declared.layout.Layout.{Layout}
use Rattle.vol_types.specs.declared.pointers.Place.{Place}
use Rattle.mirror_laws.specs.Degraded.{AreLostOf, IsDegradedTo, IsLostAt, IsLostOf, IsWipedAt}

-- ---- copies

shown_before : (copy left : List (Option OpenBlock)) → IsLostOf copy left → (n : ℕ) (x : OpenBlock) → block_in left n ≡ Some x → block_in copy n ≡ Some x
shown_before copy left lost n x at = ⊎_elim (λ (same : block_in left n ≡ block_in copy n). sym same ∙ at) (λ (none : block_in left n ≡ None). absurd (none-some x (sym none ∙ at))) (lost n)

-- What copies show that have lost blocks was shown.
pub lost_shows : (one other : Copies) → AreLostOf one other → (n : ℕ) (x : OpenBlock) → Shows other n x → Shows one n x
lost_shows [] [] lost n x (copy, there, at) = absurd (let lower = there.1 in omega (arith, lower))
lost_shows [] (d ∷ other) lost n x shows = absurd lost
lost_shows (c ∷ one) [] lost n x shows = absurd lost
lost_shows (c ∷ one) (d ∷ other) lost n x (copy, (zero, within, is), at) = (c, (0, omega arith, refl), shown_before c d lost.0 n x (ap (λ (l : List (Option OpenBlock)). block_in l n) is ∙ at))
lost_shows (c ∷ one) (d ∷ other) lost n x (copy, (suc k, within, is), at) =
    let before = lost_shows one other lost.1 n x (copy, (k, (let lower : k < length other = omega (arith, within) in lower), is), at) in
    (before.0, (suc before.1.0, (let lower = before.1.1 in omega (arith, lower)), before.1.2), before.2)

-- ---- zeros

-- A block whose kind is 0 doesn't open.
closed_by_kind : (bytes : List ℕ) → slice_index bytes 8 ≡ 0 → opened bytes ≡ None
unfolding opened head_in
closed_by_kind bytes kind = cond-false _ _ _ (and_left _ _ (and_right _ _ (and_left _ _ (and_left _ _ (and_left _ _ (and_left _ _ (ap (is_in_range 1 4) kind)))))))

-- So zeros don't.
zeros_closed : opened zeros ≡ None
zeros_closed = closed_by_kind zeros (get_or-replicate 4096 8 0 0 (omega arith))

-- What is wiped is lost.
pub wiped_lost : (layout : Layout) (mirror : ℕ) (one other : Image) (dev block : ℕ) → IsWipedAt layout mirror one other dev block → IsLostAt layout mirror one other dev block
wiped_lost layout mirror one other dev block wiped = record {
  on_mirror = wiped.on_mirror;
  another = wiped.another;
  behind = wiped.behind;
  shown = wiped.shown;
  lost = ap (option_and_then opened) wiped.wiped ∙ zeros_closed;
}

-- ---- images

unopened : (held : Option (List ℕ)) → option_and_then opened held ≡ None → option_and_then shown_in held ≡ None
unopened None none = refl
unopened (Some bytes) none = ap (option_map (λ (head : Head). record { head = head; payload = payload_in bytes })) none

module _ (layout : Layout) (mirror : ℕ) (one other : Image) (degraded : IsDegradedTo layout mirror one other) where
  shown_lost : (place : Place) (n : ℕ) → (shown_at (block_at other) place n ≡ shown_at (block_at one) place n) ⊎ (shown_at (block_at other) place n ≡ None)
  shown_lost place n = ⊎_elim
      (λ (same : AgreeAt one other place.dev (place.block + n)). inl (ap (option_and_then shown_in) (sym same)))
      (λ (lost : IsLostAt layout mirror one other place.dev (place.block + n)). inr (unopened (block_at other place.dev (place.block + n)) lost.lost))
      (degraded.each place.dev (place.block + n))

  -- The copy at a place shows what it showed, or nothing.
  pub copy_lost : (place : Place) → IsLostOf (copy_at (block_at one) place) (copy_at (block_at other) place)
  copy_lost place n = ⊎_elim
      (λ (low : n < 16).
      let before = block_in-copy_at (block_at one) place n low in
      let left = block_in-copy_at (block_at other) place n low in
      ⊎_elim
      (λ (same : shown_at (block_at other) place n ≡ shown_at (block_at one) place n). inl (left ∙ same ∙ sym before))
      (λ (none : shown_at (block_at other) place n ≡ None). inr (left ∙ none))
      (shown_lost place n))
      (λ (behind : 16 ≤ n). inr (behind-copy_at (block_at other) place n behind))
      (cases_lt n 16)

  -- So does each copy of a node.
  pub copies_lost : (places : List Place) → AreLostOf (copies_at (block_at one) places) (copies_at (block_at other) places)
  copies_lost [] = tt
  copies_lost (place ∷ places) = (copy_lost place, copies_lost places)
