-- What an image shows of the roots while they are mended, and then: what was shown before, on whichever places.
use Rattle.std.proofs.Common.{◌≡◌, ◌⊎◌, ⊎_elim, ℕ, ◌+◌, ◌<◌, ◌≤◌, IsTrue, true, false, List, get_or, Option, Some, None, refl, sym, ap, subst, ◌∙◌, arith}
use Rattle.std.specs.Option.{option_map_or}
use Rattle.std.specs.Prelude.{Contains, ◌&&◌, ◌==◌, is_some, option_and_then, option_map}
use Rattle.std.specs.Str.{bytes_eq}
use Rattle.std.proofs.lemmas.Bool.{and_parts, cases_lt, eqb-true, false≢true}
use Rattle.std.proofs.lemmas.List.{get_or-map, get_or_default, length-map}
use Rattle.std.proofs.lemmas.Slice.Eq.{bytes_eq-Decides}
use Rattle.std.proofs.lemmas.Option.{none-some, same_Some}
use Rattle.dev_model.specs.Disk.{Image, block_at}
use Rattle.image_view.specs.CrashEntries.{opens}
use Rattle.node_store.specs.Answers.{AgreeOn, AreAlike, IsOfNode}
use Rattle.node_store.specs.Copies.{block_in, copies_at, copy_at, shown_at, shown_in}
use Rattle.node_store.specs.Mending.{ArePlaced, IsShown, StayShown, is_node_head, is_of_node}
use Rattle.node_store.specs.declared.opening.OpenBlock.{OpenBlock}
use Rattle.node_store.proofs.NoBlocks.{behind-copy_at, block_in-copy_at}
use Rattle.sealed_block.specs.Opening.{opened, payload_in}
use Rattle.sealed_block.specs.declared.heads.Head.{Head}
use Rattle.vol_types.specs.Limits.{bucket_blocks}
use Rattle.vol_types.specs.declared.layout.Layout.{Layout}
use Rattle.vol_types.specs.declared.pointers.Place.{Place}
use Rattle.replay.specs.Roots.{ShowTheSame, Shows}
use Rattle.replay.proofs.ShownSets.{place_of_copy, shown_bytes}

-- ---- one place on each device

-- Places that are one on each device in their order are told apart by their devices.
pub one_place : (layout : Layout) (places : List Place) → ArePlaced layout places → (p q : Place) → Contains places p → Contains places q → p.dev ≡ q.dev → p ≡ q
one_place layout places placed p q at_p at_q same =
    let first = (placed at_p.0 p at_p.1).device in
    let second = (placed at_q.0 q at_q.1).device in
    let dev_p : p.dev ≡ at_p.0 = subst (λ (x : Place). x.dev ≡ at_p.0) at_p.2 first in
    let dev_q : q.dev ≡ at_q.0 = subst (λ (x : Place). x.dev ≡ at_q.0) at_q.2 second in
    let index : at_p.0 ≡ at_q.0 = omega (arith, dev_p, dev_q, same) in
    sym at_p.2 ∙ get_or_default places at_p.0 p q at_p.1 ∙ ap (λ k. get_or places k q) index ∙ at_q.2

-- ---- what is shown at a place

contains_copy : (image : Image) (places : List Place) (place : Place) → Contains places place → Contains (copies_at (block_at image) places) (copy_at (block_at image) place)
contains_copy image places place there =
    let count = length-map {B = List (Option OpenBlock)} places (copy_at (block_at image)) in
    let lower = there.1 in
    (there.0, omega (arith, count, lower), get_or-map (copy_at (block_at image)) places there.0 place (copy_at (block_at image) place) there.1 ∙ ap (copy_at (block_at image)) there.2)

-- A head that passes is that of a block of the node.
head_in : (id : List ℕ) (birth : ℕ) (head : Head) → is_node_head id birth head ≡ true → IsOfNode id birth head
head_in id birth head is =
    let x = and_parts (head.kind == 3 && bytes_eq head.id id) (head.owner == birth) is in
    let y = and_parts (head.kind == 3) (bytes_eq head.id id) x.0 in
    record { kind = eqb-true head.kind 3 y.0; volume = (bytes_eq-Decides head.id id).0 y.1; owner = eqb-true head.owner birth x.1 }

module _ (id : List ℕ) (birth : ℕ) (places : List Place) where
  -- A place that shows a block shows it on its copy,
  shows_at : (image : Image) (place : Place) (n : ℕ) (block : OpenBlock) → Contains places place → n < bucket_blocks → shown_at (block_at image) place n ≡ Some block → Shows (copies_at (block_at image) places) n block
  shows_at image place n block there below is = (copy_at (block_at image) place, contains_copy image places place there, block_in-copy_at (block_at image) place n below ∙ is)

  -- and the other way round.
  place_shows : (image : Image) (n : ℕ) (block : OpenBlock) → Shows (copies_at (block_at image) places) n block → (n < bucket_blocks) × ((place : Place) × Contains places place × (shown_at (block_at image) place n ≡ Some block))
  place_shows image n block shows =
      let at = place_of_copy (block_at image) places shows.0 shows.1 in
      let is : block_in (copy_at (block_at image) at.0) n ≡ Some block = ap (λ (copy : List (Option OpenBlock)). block_in copy n) at.2 ∙ shows.2 in
      let below : n < bucket_blocks = ⊎_elim (λ (lower : n < bucket_blocks). lower) (λ (past : bucket_blocks ≤ n). absurd (none-some block (sym (behind-copy_at (block_at image) at.0 n past) ∙ is))) (cases_lt n bucket_blocks) in
      (below, (at.0, at.1, sym (block_in-copy_at (block_at image) at.0 n below) ∙ is))

  -- What opens as a block of the node shows one.
  opened_of : (held : Option (List ℕ)) → is_of_node id birth held ≡ true → (block : OpenBlock) × (option_and_then shown_in held ≡ Some block) × IsOfNode id birth block.head
  opened_of None is = absurd (false≢true is)
  opened_of (Some bytes) is = by (opened bytes) refl is
    where
      by : (head : Option Head) → opened bytes ≡ head → option_map_or (is_node_head id birth) head false ≡ true → (block : OpenBlock) × (shown_in bytes ≡ Some block) × IsOfNode id birth block.head
      by None at is_head = absurd (false≢true is_head)
      by (Some head) at is_head = (record { head = head; payload = payload_in bytes }, ap (option_map (λ (h : Head). record { head = h; payload = payload_in bytes })) at, head_in id birth head is_head)

  -- Bytes that show a block of the node open.
  shown_opens : (bytes : List ℕ) (block : OpenBlock) → shown_in bytes ≡ Some block → IsTrue (opens bytes)
  shown_opens bytes block is = by (opened bytes) refl is
    where
      by : (head : Option Head) → opened bytes ≡ head → option_map (λ (h : Head). record { head = h; payload = payload_in bytes }) head ≡ Some block → IsTrue (opens bytes)
      by None at shown = absurd cc
      by (Some head) at shown = ap is_some at

  -- ---- from one image to another

  module _ (end : ℕ) (few : end ≤ bucket_blocks) (one other : Image) (agree : AgreeOn id birth (copies_at (block_at one) places))
      (still : (n : ℕ) (place : Place) → Contains places place → end ≤ n → n < bucket_blocks → block_at other place.dev (place.block + n) ≡ block_at one place.dev (place.block + n)) (kept : StayShown id birth places end one other) where
    -- What is shown stays shown,
    shown_on : (n : ℕ) (block : OpenBlock) → IsOfNode id birth block.head → Shows (copies_at (block_at one) places) n block → Shows (copies_at (block_at other) places) n block
    shown_on n block of_node shows =
        let at = place_shows one n block shows in
        let place : Place = at.1.0 in
        ⊎_elim
        (λ (lower : n < end).
        let held = shown_bytes id birth (block_at one place.dev (place.block + n)) block at.1.2 of_node in
        let left = kept n held.0 lower (record { place = place; one = at.1.1; stands = held.1; opens = held.2 }) in
        let there = opened_of (block_at one left.place.dev (left.place.block + n)) left.opens in
        let first = shows_at one left.place n there.0 left.of_node at.0 there.1 in
        let same : there.0 ≡ block = agree n first.0 shows.0 first.1 shows.1 there.0 block first.2 shows.2 there.2 of_node in
        shows_at other left.place n block left.of_node at.0 (ap (option_and_then shown_in) left.stays ∙ there.1 ∙ ap (λ (b : OpenBlock). Some b) same))
        (λ (behind : end ≤ n). shows_at other place n block at.1.1 at.0 (ap (option_and_then shown_in) (still n place at.1.1 behind at.0) ∙ at.1.2))
        (cases_lt n end)

    -- and what is shown was, where it was so before the end.
    pub same_shown : ((n : ℕ) (place : Place) (block : OpenBlock) → n < end → Contains places place → IsOfNode id birth block.head → shown_at (block_at other) place n ≡ Some block → Shows (copies_at (block_at one) places) n block)
        → ShowTheSame id birth (copies_at (block_at one) places) (copies_at (block_at other) places)
    same_shown before n block of_node = (
      shown_on n block of_node,
      λ shows.
          let at = place_shows other n block shows in
          let place : Place = at.1.0 in
          ⊎_elim
          (λ (lower : n < end). before n place block lower at.1.1 of_node at.1.2)
          (λ (behind : end ≤ n). shows_at one place n block at.1.1 at.0 (ap (option_and_then shown_in) (sym (still n place at.1.1 behind at.0)) ∙ at.1.2))
          (cases_lt n end),
    )

    -- So it is where nothing opens at a place but what stood there or what some place showed,
    pub shown_by_held : ((n : ℕ) (place : Place) (bytes : List ℕ) → n < end → Contains places place → block_at other place.dev (place.block + n) ≡ Some bytes → IsTrue (opens bytes)
        → (block_at one place.dev (place.block + n) ≡ Some bytes) ⊎ IsShown id birth places one n bytes) → ShowTheSame id birth (copies_at (block_at one) places) (copies_at (block_at other) places)
    shown_by_held only = same_shown (λ n place block lower there of_node is.
        let held = shown_bytes id birth (block_at other place.dev (place.block + n)) block is of_node in
        let shows : shown_in held.0 ≡ Some block = sym (ap (option_and_then shown_in) held.1) ∙ is in
        let below : n < bucket_blocks = omega (arith, lower, few) in
        ⊎_elim
        (λ (stood : block_at one place.dev (place.block + n) ≡ Some held.0). shows_at one place n block there below (ap (option_and_then shown_in) stood ∙ shows))
        (λ (shown : IsShown id birth places one n held.0). shows_at one shown.place n block shown.one below (ap (option_and_then shown_in) shown.stands ∙ shows))
        (only n place held.0 lower there held.1 (shown_opens held.0 block shows)))

    -- and where all places show the same and each block was shown.
    pub shown_by_alike : ((n : ℕ) → n < end → (bytes : List ℕ) × IsShown id birth places one n bytes) → AreAlike end (copies_at (block_at other) places) → ShowTheSame id birth (copies_at (block_at one) places) (copies_at (block_at other) places)
    shown_by_alike shown alike = same_shown (λ n place block lower there of_node is.
        let below : n < bucket_blocks = omega (arith, lower, few) in
        let some = shown n lower in
        let left = kept n some.0 lower some.1 in
        let first = opened_of (block_at one left.place.dev (left.place.block + n)) left.opens in
        let second = shows_at other left.place n first.0 left.of_node below (ap (option_and_then shown_in) left.stays ∙ first.1) in
        let here = shows_at other place n block there below is in
        let same : block ≡ first.0 = same_Some block first.0 (sym here.2 ∙ alike here.0 second.0 here.1 second.1 n lower ∙ second.2) in
        subst (λ (b : OpenBlock). Shows (copies_at (block_at one) places) n b) (sym same) (shows_at one left.place n first.0 left.of_node below first.1))
