-- Which blocks a node's places show before and after it is mended.
use Rattle.std.proofs.Common.{◌≡◌, ◌⊎◌, ℕ, zero, suc, ◌+◌, ◌<◌, ◌≤◌, inl, inr, ⊎_elim, Bool, true, false, List, [], ◌∷◌, length, get_or, Option, Some, None, refl, ap, ◌∙◌, sym, subst, arith}
use Rattle.std.specs.Prelude.{Contains, option_and_then, option_map}
use Rattle.std.specs.Option.{option_map_or}
use Rattle.std.proofs.lemmas.Bool.{and_parts, eqb-true, false≢true}
use Rattle.std.proofs.lemmas.List.{get_or-map, get_or_default, length-map}
use Rattle.std.proofs.lemmas.Slice.Eq.{bytes_eq-Decides}
use Rattle.dev_model.specs.Disk.{Image, block_at}
use Rattle.sealed_block.specs.Opening.{opened, payload_in}
use Rattle.sealed_block.specs.declared.heads.Head.{Head}
use Rattle.vol_types.specs.declared.layout.Layout.{Layout}
use Rattle.vol_types.specs.declared.pointers.Place.{Place}
use Rattle.node_store.specs.declared.opening.OpenBlock.{OpenBlock}
use Rattle.node_store.specs.Answers.{AgreeOn, AreAlike, IsOfNode}
use Rattle.node_store.specs.Copies.{Reading, block_in, copies_at, copy_at, shown_at, shown_in}
use Rattle.node_store.specs.Mending.{ArePlaced, AreWritten, IsShown, IsToMend, IsWanted, IsWholeOrNone, MayBeMended, is_node_head, is_of_node}
use Rattle.node_store.proofs.NoBlocks.{block_in-copy_at}

-- a test that fails or not
abbrev pub test_cases : (b : Bool) → (b ≡ true) ⊎ (b ≡ false)
test_cases true = inl refl
test_cases false = inr refl

-- ---- places and copies

contains_copy : (read : Reading) (places : List Place) (place : Place) → Contains places place → Contains (copies_at read places) (copy_at read place)
contains_copy read places place there = (
  there.0,
  let low = there.1 in let same : length (copies_at read places) ≡ length places = length-map {B = List (Option OpenBlock)} places (copy_at read) in omega (arith, low, same),
  get_or-map (copy_at read) places there.0 place (copy_at read place) there.1 ∙ ap (copy_at read) there.2,
)

place_of_copy : (read : Reading) (places : List Place) (copy : List (Option OpenBlock)) → Contains (copies_at read places) copy → (place : Place) × Contains places place × (copy_at read place ≡ copy)
place_of_copy read [] copy is = absurd (omega (arith, is.1))
place_of_copy read (place ∷ places) copy (zero, within, at) = (place, (0, omega arith, refl), at)
place_of_copy read (place ∷ places) copy (suc k, within, at) =
    let lower : k < length (copies_at read places) = omega (arith, within) in
    let rest = place_of_copy read places copy (k, lower, at) in
    (rest.0, (suc rest.1.0, (let l = rest.1.1 in omega (arith, l)), rest.1.2), rest.2)

-- ---- what shows a block of the node

module _ (id : List ℕ) (birth : ℕ) where
  of_opened : (bytes : List ℕ) (head : Option Head) → opened bytes ≡ head → option_map_or (is_node_head id birth) head false ≡ option_map_or (λ (block : OpenBlock). is_node_head id birth block.head) (option_map (λ h. record { head = h; payload = payload_in bytes }) head) false
  of_opened bytes None is = refl
  of_opened bytes (Some head) is = refl

  -- It does by what is shown there.
  of_shown : (held : Option (List ℕ)) → is_of_node id birth held ≡ option_map_or (λ (block : OpenBlock). is_node_head id birth block.head) (option_and_then shown_in held) false
  of_shown None = refl
  of_shown (Some bytes) = of_opened bytes (opened bytes) refl

  is_head : (head : Head) → is_node_head id birth head ≡ true → IsOfNode id birth head
  is_head head is =
      let a = and_parts _ _ is in
      let b = and_parts _ _ a.0 in
      record { kind = eqb-true head.kind 3 b.0; volume = (bytes_eq-Decides head.id id).0 b.1; owner = eqb-true head.owner birth a.1 }

  block_by : (shown : Option OpenBlock) → option_map_or (λ (block : OpenBlock). is_node_head id birth block.head) shown false ≡ true → (x : OpenBlock) × (shown ≡ Some x) × IsOfNode id birth x.head
  block_by None is = absurd (false≢true is)
  block_by (Some x) is = (x, refl, is_head x.head is)

  -- What shows a block of the node shows this one.
  pub block_shown : (held : Option (List ℕ)) → is_of_node id birth held ≡ true → (x : OpenBlock) × (option_and_then shown_in held ≡ Some x) × IsOfNode id birth x.head
  block_shown held is = block_by (option_and_then shown_in held) (sym (of_shown held) ∙ is)

  module _ (wanted : ℕ → ℕ → List ℕ → Type 0) (one other : Image) (each_opens : (d b : ℕ) (x : List ℕ) → wanted d b x → is_of_node id birth (Some x) ≡ true) (written : AreWritten wanted one other) where
    -- What shows a block of the node shows one still, where nothing was written but blocks of the node,
    pub stays : (d b : ℕ) → is_of_node id birth (block_at one d b) ≡ true → is_of_node id birth (block_at other d b) ≡ true
    stays d b held = ⊎_elim
        (λ (same : block_at other d b ≡ block_at one d b). ap (is_of_node id birth) same ∙ held)
        (λ (was : (x : List ℕ) × wanted d b x × (block_at other d b ≡ Some x)). ap (is_of_node id birth) was.2 ∙ each_opens d b was.0 was.1)
        (written d b)

    -- and what shows none now showed none at first.
    pub lacked : (d b : ℕ) → is_of_node id birth (block_at other d b) ≡ false → is_of_node id birth (block_at one d b) ≡ false
    lacked d b lacks = ⊎_elim
        (λ (held : is_of_node id birth (block_at one d b) ≡ true). absurd (false≢true (sym lacks ∙ stays d b held)))
        (λ (not : is_of_node id birth (block_at one d b) ≡ false). not)
        (test_cases (is_of_node id birth (block_at one d b)))

  module _ (places : List Place) where
    -- A place that shows a block of the node among those of which none does.
    pub none_shown : (image : Image) (n : ℕ) (bytes : List ℕ) → ((k : ℕ) (d : Place) → k < length places → is_of_node id birth (block_at image (get_or places k d).dev ((get_or places k d).block + n)) ≡ false) → IsShown id birth places image n bytes → ⊥
    none_shown image n bytes none shown =
        let lacks = subst (λ (p : Place). is_of_node id birth (block_at image p.dev (p.block + n)) ≡ false) shown.one.2 (none shown.one.0 shown.place shown.one.1) in
        false≢true (sym lacks ∙ ap (is_of_node id birth) shown.stands ∙ shown.opens)

    -- Where copies are alike each place shows a block of the node where some does.
    pub alike_whole : (image : Image) (end n : ℕ) → n < end → end ≤ 16 → AreAlike end (copies_at (block_at image) places) → IsWholeOrNone id birth places n image
    alike_whole image end n below few alike bytes shown place there =
        let read = block_at image in
        let same : block_in (copy_at read shown.place) n ≡ block_in (copy_at read place) n =
        alike (copy_at read shown.place) (copy_at read place) (contains_copy read places shown.place shown.one) (contains_copy read places place there) n below in
        let lower : n < 16 = omega (arith, below, few) in
        let shows : shown_at read place n ≡ shown_at read shown.place n = sym (block_in-copy_at read place n lower) ∙ sym same ∙ block_in-copy_at read shown.place n lower in
        of_shown (read place.dev (place.block + n)) ∙ ap (λ o. option_map_or (λ (block : OpenBlock). is_node_head id birth block.head) o false) shows ∙ sym (of_shown (read shown.place.dev (shown.place.block + n)))
        ∙ ap (is_of_node id birth) shown.stands ∙ shown.opens

    -- What is to be mended below a block is so below a later one, and where more has failed, and so with what is wanted.
    pub to_mend_up : (few many : ℕ) (image : Image) (failed more_failed : ℕ → Type 0) → few ≤ many → ((d : ℕ) → failed d → more_failed d) → (d b : ℕ) → IsToMend id birth places few image failed d b → IsToMend id birth places many image more_failed d b
    to_mend_up few many image failed more_failed more later d b is = record {
      number = is.number;
      below = (let l = is.below in omega (arith, l, more));
      copy = is.copy;
      lacks = ⊎_elim (λ (lacks : is_of_node id birth (block_at image d b) ≡ false). inl lacks) (λ (fails : failed d). inr (later d fails)) is.lacks;
    }

    pub wanted_up : (few many : ℕ) (image : Image) → few ≤ many → (d b : ℕ) (x : List ℕ) → IsWanted id birth places few image d b x → IsWanted id birth places many image d b x
    wanted_up few many image more d b x is = record { number = is.number; below = (let l = is.below in omega (arith, l, more)); copy = is.copy; shown = is.shown }

    module _ (layout : Layout) (placed : ArePlaced layout places) where
      index_is : (p : Place) (there : Contains places p) → p.dev ≡ there.0
      index_is p there = subst (λ (q : Place). q.dev ≡ there.0) there.2 (placed there.0 p there.1).device

      -- Places on one device are one place.
      pub one_place : (p q : Place) → Contains places p → Contains places q → p.dev ≡ q.dev → p ≡ q
      one_place p q one other same =
          let indexes : one.0 ≡ other.0 = sym (index_is p one) ∙ same ∙ index_is q other in
          sym one.2 ∙ ap (λ k. get_or places k p) indexes ∙ get_or_default places other.0 p q other.1 ∙ other.2

    module _ (layout : Layout) (end : ℕ) (may : MayBeMended layout places end) where
      -- Where other blocks of the bucket were written, this one is as it was.
      pub untouched : (first mid : Image) (n : ℕ) → AreWritten (IsWanted id birth places n first) first mid → (place : Place) → Contains places place → block_at mid place.dev (place.block + n) ≡ block_at first place.dev (place.block + n)
      untouched first mid n written place there = ⊎_elim
          (λ (same : block_at mid place.dev (place.block + n) ≡ block_at first place.dev (place.block + n)). same)
          (λ (was : (x : List ℕ) × IsWanted id birth places n first place.dev (place.block + n) x × (block_at mid place.dev (place.block + n) ≡ Some x)).
          let wanted = was.1 in
          let same : place ≡ wanted.copy.0 = one_place layout may.placed place wanted.copy.0 there wanted.copy.1 wanted.copy.2 in
          let blocks : place.block + n ≡ wanted.copy.0.block + wanted.number = wanted.copy.3 in
          let block : place.block ≡ wanted.copy.0.block = ap (λ (p : Place). p.block) same in
          let below = wanted.below in
          absurd (omega (arith, blocks, block, below)))
          (written place.dev (place.block + n))

      -- So what is shown of it now was shown at first, and the other way round.
      pub shown_before : (first mid : Image) (n : ℕ) (bytes : List ℕ) → AreWritten (IsWanted id birth places n first) first mid → IsShown id birth places mid n bytes → IsShown id birth places first n bytes
      shown_before first mid n bytes written shown = record {
        place = shown.place;
        one = shown.one;
        stands = sym (untouched first mid n written shown.place shown.one) ∙ shown.stands;
        opens = shown.opens;
      }

      pub shown_still : (first mid : Image) (n : ℕ) (bytes : List ℕ) → AreWritten (IsWanted id birth places n first) first mid → IsShown id birth places first n bytes → IsShown id birth places mid n bytes
      shown_still first mid n bytes written shown = record {
        place = shown.place;
        one = shown.one;
        stands = untouched first mid n written shown.place shown.one ∙ shown.stands;
        opens = shown.opens;
      }

      -- What a place shows in the end, some place showed at first.
      origin : (first last : Image) (upto n : ℕ) → AreWritten (IsWanted id birth places upto first) first last → (place : Place) → Contains places place → is_of_node id birth (block_at last place.dev (place.block + n)) ≡ true
          → (p : Place) × Contains places p × (block_at last place.dev (place.block + n) ≡ block_at first p.dev (p.block + n))
      origin first last upto n written place there opens = ⊎_elim
          (λ (same : block_at last place.dev (place.block + n) ≡ block_at first place.dev (place.block + n)). (place, there, same))
          (λ (was : (x : List ℕ) × IsWanted id birth places upto first place.dev (place.block + n) x × (block_at last place.dev (place.block + n) ≡ Some x)).
          let wanted = was.1 in
          let same : place ≡ wanted.copy.0 = one_place layout may.placed place wanted.copy.0 there wanted.copy.1 wanted.copy.2 in
          let blocks : place.block + n ≡ wanted.copy.0.block + wanted.number = wanted.copy.3 in
          let block : place.block ≡ wanted.copy.0.block = ap (λ (p : Place). p.block) same in
          let number : wanted.number ≡ n = omega (arith, blocks, block) in
          (wanted.shown.place, wanted.shown.one, was.2 ∙ sym wanted.shown.stands ∙ ap (λ m. block_at first wanted.shown.place.dev (wanted.shown.place.block + m)) number))
          (written place.dev (place.block + n))

      -- Where each place shows a block of the node in the end, and they agreed at first, they are alike.
      pub whole_alike : (first last : Image) (upto : ℕ) → AgreeOn id birth (copies_at (block_at first) places) → AreWritten (IsWanted id birth places upto first) first last
          → ((n : ℕ) → n < end → (place : Place) → Contains places place → is_of_node id birth (block_at last place.dev (place.block + n)) ≡ true) → AreAlike end (copies_at (block_at last) places)
      whole_alike first last upto agree written whole one other in_one in_other n below =
          let read = block_at last in
          let before = block_at first in
          let few = may.within in
          let lower : n < 16 = omega (arith, below, few) in
          let p = place_of_copy read places one in_one in
          let q = place_of_copy read places other in_other in
          let x = block_shown (read p.0.dev (p.0.block + n)) (whole n below p.0 p.1) in
          let y = block_shown (read q.0.dev (q.0.block + n)) (whole n below q.0 q.1) in
          let p_was = origin first last upto n written p.0 p.1 (whole n below p.0 p.1) in
          let q_was = origin first last upto n written q.0 q.1 (whole n below q.0 q.1) in
          let x_was : block_in (copy_at before p_was.0) n ≡ Some x.0 = block_in-copy_at before p_was.0 n lower ∙ ap (option_and_then shown_in) (sym p_was.2) ∙ x.1 in
          let y_was : block_in (copy_at before q_was.0) n ≡ Some y.0 = block_in-copy_at before q_was.0 n lower ∙ ap (option_and_then shown_in) (sym q_was.2) ∙ y.1 in
          let same : x.0 ≡ y.0 = agree n (copy_at before p_was.0) (copy_at before q_was.0) (contains_copy before places p_was.0 p_was.1) (contains_copy before places q_was.0 q_was.1) x.0 y.0 x_was y_was x.2 y.2 in
          ap (λ (c : List (Option OpenBlock)). block_in c n) (sym p.2) ∙ block_in-copy_at read p.0 n lower ∙ x.1 ∙ ap (λ (b : OpenBlock). Some b) same ∙ sym y.1 ∙ sym (block_in-copy_at read q.0 n lower)
          ∙ ap (λ (c : List (Option OpenBlock)). block_in c n) q.2
