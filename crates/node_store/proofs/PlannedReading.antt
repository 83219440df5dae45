-- Where each place holds the planned blocks, the copies there show the set.
use Rattle.std.proofs.Common.{◌≡◌, ◌⊎◌, ⊎_elim, inl, inr, ℕ, suc, ◌+◌, ◌-◌, ◌*◌, ◌<◌, ◌≤◌, false, List, [], ◌∷◌, ◌++◌, length, take, drop, replicate, Option, Some, None, Ok, refl, ap, sym, ◌∙◌, subst, arith, length-append}
use Rattle.std.specs.Prelude.{Contains, option_and_then, option_map, slice_index}
use Rattle.std.specs.Option.{option_map_or}
use Rattle.std.specs.List.{AllZip, list_any}
use Rattle.std.specs.Int.{is_in_range}
use Rattle.std.proofs.lemmas.Bool.{and_left, and_right, cases_lt, cond-false, or_from}
use Rattle.std.proofs.lemmas.List.{drop-append-le, drop-replicate, get_or-replicate, length-drop, length-replicate, drop_at, take-append-le, take-replicate, take_all}
use Rattle.std.proofs.Math.Seq.{drop-append-add}
use Rattle.sealed_block.specs.declared.heads.Head.{Head}
use Rattle.sealed_block.specs.Blocks.{Opens}
use Rattle.sealed_block.specs.Opening.{head_in, opened, payload_in}
use Rattle.vol_types.specs.declared.pointers.NodePtr.{NodePtr}
use Rattle.vol_types.specs.declared.pointers.Place.{Place}
use Rattle.node_store.specs.declared.opening.OpenBlock.{OpenBlock}
use Rattle.node_store.specs.declared.planning.Blocked.{Blocked}
use Rattle.node_store.specs.declared.sets.StoredSet.{StoredSet}
use Rattle.node_store.specs.Copies.{Reading, block_in, copies_at, copy_at, shown_in}
use Rattle.node_store.specs.Plans.{ArePartsBefore, HoldBlocks, IsReadAlone, IsReadBehind, block_of_bytes, blocks_for, chunk, part_head, planned_blocks, set_stored}
use Rattle.node_store.specs.StoredSets.{is_set_head, set_at, sets_from, sets_in, shows_head, with_set}
use Rattle.node_store.proofs.Behind.{Extends, all_join, no_heads}
use Rattle.node_store.proofs.NoBlocks.{behind-copy_at, block_in-copy_at}
use Rattle.node_store.proofs.Planned.{planned, set_there}
use Rattle.node_store.proofs.Stored.{ends_here, first_head_none, no_heads_no_set, none_behind, sets_in_gives, sets_in_is}

-- A block whose kind is 0 doesn't open.
closed_by_kind : (bytes : List ℕ) → slice_index bytes 8 ≡ 0 → opened bytes ≡ None
unfolding opened head_in
closed_by_kind bytes kind = cond-false _ _ _ (and_left _ _ (and_right _ _ (and_left _ _ (and_left _ _ (and_left _ _ (and_left _ _ (ap (is_in_range 1 4) kind)))))))

-- Zeros don't open.
zeros_shut : opened (replicate 4096 0) ≡ None
zeros_shut = closed_by_kind (replicate 4096 0) (get_or-replicate 4096 8 0 0 (omega arith))

contains_here : (place : Place) (places : List Place) → Contains (place ∷ places) place
contains_here place places = (0, omega arith, refl)

contains_later : (first : Place) (places : List Place) (place : Place) → Contains places place → Contains (first ∷ places) place
contains_later first places place is = (suc is.0, omega (arith, is.1), is.2)

-- What holds of each place holds of the copies there.
zip_at : (R : List (Option OpenBlock) → List (Option OpenBlock) → Type 0) (before after : Reading) (places : List Place) → ((place : Place) → Contains places place → R (copy_at before place) (copy_at after place)) → AllZip R (copies_at before places) (copies_at after places)
zip_at R before after [] each = tt
zip_at R before after (place ∷ places) each = (each place (contains_here place places), zip_at R before after places (λ p in_it. each p (contains_later place places p in_it)))

none_shown : (read : Reading) (id : List ℕ) (birth k : ℕ) (places : List Place) → ((place : Place) → Contains places place → block_in (copy_at read place) k ≡ None) → list_any (shows_head id birth k) (copies_at read places) ≡ false
none_shown read id birth k [] each = refl
none_shown read id birth k (place ∷ places) each =
    or_from _ _ (ap (λ o. option_map_or (λ (block : OpenBlock). is_set_head id birth k block.head) o false) (each place (contains_here place places)))
    (none_shown read id birth k places (λ p in_it. each p (contains_later place places p in_it)))

-- The bytes of the first blocks stay where more are behind them.
pub first_blocks : (bytes more : List ℕ) (count p : ℕ) → length bytes ≡ 4096 * count → p < count → block_of_bytes (bytes ++ more) p ≡ block_of_bytes bytes p
first_blocks bytes more count p size lt =
    ap (take 4096) (drop-append-le (4096 * p) bytes more (let le : 4096 * p ≤ length bytes = omega (arith, size, lt) in le))
    ∙ take-append-le 4096 (drop (4096 * p) bytes) more (let le : 4096 ≤ length (drop (4096 * p) bytes) = omega (arith, size, lt, length-drop (4096 * p) bytes) in le)

-- Behind the blocks of a set that is filled up with zeros each block is one of zeros.
pub zeros_behind : (sealed : List ℕ) (count k : ℕ) → length sealed ≡ 4096 * count → count ≤ k → k < 16 → block_of_bytes (sealed ++ replicate (65536 - length sealed) 0) k ≡ replicate 4096 0
zeros_behind sealed count k size le lt =
    let m : ℕ = 4096 * k - length sealed in
    let zeros : List ℕ = replicate (65536 - length sealed) 0 in
    ap (λ j. take 4096 (drop j (sealed ++ zeros))) (let e : 4096 * k ≡ length sealed + m = omega (arith, size, le) in e)
    ∙ ap (take 4096) (drop-append-add sealed zeros m ∙ drop-replicate m (65536 - length sealed) 0)
    ∙ take-replicate 4096 (65536 - length sealed - m) 0 (let room : 4096 ≤ 65536 - length sealed - m = omega (arith, size, le, lt) in room)

module _ (id : List ℕ) (birth n sequence : ℕ) (payload sealed : List ℕ) (ptr : NodePtr) (blocked : Blocked)
    (opens_head : (block : List ℕ) (h : Head) (p : List ℕ) → Opens block h p → opened block ≡ Some h)
    (opens_payload : (block : List ℕ) (h : Head) (p : List ℕ) → Opens block h p → payload_in block ≡ p)
    (sealed_are : ArePartsBefore id birth n sequence payload sealed (blocks_for payload)) (size : length sealed ≡ 4096 * blocks_for payload)
    (places : blocked.places ≡ ptr.places) (at : blocked.block ≡ n) (born : birth ≡ ptr.birth) (some : 0 < blocks_for payload) (fits : n + blocks_for payload ≤ 16) (some_places : 0 < length ptr.places) where
  abbrev set : StoredSet
  set = set_stored n sequence payload

  -- What a block of the set shows.
  shown : (bytes : List ℕ) (p : ℕ) → Opens bytes (part_head id birth n sequence payload p) (chunk payload p) → shown_in bytes ≡ Some (planned id birth n sequence payload p)
  shown bytes p opens =
      ap (option_map (λ (h : Head). record { head = h; payload = payload_in bytes })) (opens_head bytes _ _ opens)
      ∙ ap (λ (b : List ℕ). Some (record { head = part_head id birth n sequence payload p; payload = b })) (opens_payload bytes _ _ opens)

  here : (read : Reading) → HoldBlocks read blocked → ((p : ℕ) → p < blocks_for payload → block_of_bytes blocked.parts p ≡ block_of_bytes sealed p) → blocks_for payload ≤ planned_blocks blocked
      → (place : Place) → Contains ptr.places place → (p : ℕ) → p < blocks_for payload → block_in (copy_at read place) (n + p) ≡ Some (planned id birth n sequence payload p)
  here read holds same enough place in_it p lt =
      let held = holds place (subst (λ (ps : List Place). Contains ps place) (sym places) in_it) p (omega (arith, lt, enough)) in
      block_in-copy_at read place (n + p) (omega (arith, lt, fits))
      ∙ ap (λ k. option_and_then shown_in (read place.dev (place.block + (k + p)))) (sym at)
      ∙ ap (option_and_then shown_in) held
      ∙ ap shown_in (same p lt) ∙ shown (block_of_bytes sealed p) p (sealed_are p lt)

  first_place_shows : (read : Reading) → ((place : Place) → Contains ptr.places place → (p : ℕ) → p < blocks_for payload → block_in (copy_at read place) (n + p) ≡ Some (planned id birth n sequence payload p))
      → set_at (copies_at read ptr.places) id birth n ≡ Some set
  first_place_shows read all = by ptr.places some_places all
    where
      by : (ps : List Place) → 0 < length ps → ((place : Place) → Contains ps place → (p : ℕ) → p < blocks_for payload → block_in (copy_at read place) (n + p) ≡ Some (planned id birth n sequence payload p)) → set_at (copies_at read ps) id birth n ≡ Some set
      by [] none each = absurd (omega (arith, none))
      by (place ∷ ps) none each = set_there id birth n sequence payload (copy_at read place) (copies_at read ps) (each place (contains_here place ps)) some fits

  -- Blocks of a further set.
  pub read_behind : blocked.parts ≡ sealed → IsReadBehind id ptr set blocked
  read_behind same before after sets was holds around =
      let count : planned_blocks blocked ≡ blocks_for payload = omega (arith, ap length same, size) in
      let all = here after holds (λ p lt. ap (λ (bytes : List ℕ). block_of_bytes bytes p) same) (omega (arith, count)) in
      let old = copies_at before ptr.places in
      let new = copies_at after ptr.places in
      let end = n + blocks_for payload in
      let kept : (place : Place) → Contains ptr.places place → (k : ℕ) → (k < n) ⊎ (end ≤ k) → block_in (copy_at after place) k ≡ block_in (copy_at before place) k =
      λ place in_it k away. ⊎_elim
      (λ (lt : k < 16).
      block_in-copy_at after place k lt
      ∙ ap (option_and_then shown_in) (around place (subst (λ (ps : List Place). Contains ps place) (sym places) in_it) k lt (⊎_elim (λ (b : k < n). inl (let l : k < blocked.block = omega (arith, b, at) in l)) (λ (e : end ≤ k). inr (let l : blocked.block + planned_blocks blocked ≤ k = omega (arith, e, at, count) in l)) away))
      ∙ sym (block_in-copy_at before place k lt))
      (λ (past : 16 ≤ k). behind-copy_at after place k past ∙ sym (behind-copy_at before place k past))
      (cases_lt k 16) in
      let first : OpenBlock = planned id birth n sequence payload 0 in
      let zipped : AllZip (Extends n end first) old new = zip_at (Extends n end first) before after ptr.places (λ place in_it. record {
        before = λ k lt. kept place in_it k (inl lt);
        here = ap (block_in (copy_at after place)) (let e : n ≡ n + 0 = omega arith in e) ∙ all place in_it 0 some;
        behind = λ k le. kept place in_it k (inr le);
      }) in
      let found = sets_in_is old id birth (record { sets = sets; end = n }) (subst (λ b. sets_in old id b ≡ Ok (record { sets = sets; end = n })) (sym born) was) in
      let none : (k : ℕ) → n < k → list_any (shows_head id birth k) old ≡ false = λ k lt. ⊎_elim
      (λ (within : k < 16). none_behind old id birth (16 - suc n) (suc n) found.none k (omega (arith, lt)) (omega (arith, within, lt)))
      (λ (past : 16 ≤ k). none_shown before id birth k ptr.places (λ place in_it. behind-copy_at before place k past))
      (cases_lt k 16) in
      let further : n < end = omega (arith, some) in
      subst (λ b. sets_in new id b ≡ Ok (record { sets = sets ++ set ∷ []; end = end })) born
      (all_join n end first refl id birth old new zipped set (first_place_shows after all) refl further fits (no_heads n end first refl id birth old new zipped further none) sets
      (subst (λ b. sets_in old id b ≡ Ok (record { sets = sets; end = n })) (sym born) was))

  -- Blocks of a new node.
  pub read_alone : n ≡ 0 → blocked.parts ≡ sealed ++ replicate (65536 - length sealed) 0 → IsReadAlone id ptr set blocked
  read_alone first same read holds =
      let zeros : List ℕ = replicate (65536 - length sealed) 0 in
      let total : length blocked.parts ≡ 65536 = omega (arith, ap length same, length-append sealed zeros, length-replicate {A = ℕ} (65536 - length sealed) 0, size, fits, first) in
      let count : planned_blocks blocked ≡ 16 = omega (arith, total) in
      let all = here read holds (λ p lt. ap (λ (bytes : List ℕ). block_of_bytes bytes p) same ∙ first_blocks sealed zeros (blocks_for payload) p size lt) (omega (arith, count, fits)) in
      let copies = copies_at read ptr.places in
      let shut : (k : ℕ) → blocks_for payload ≤ k → (place : Place) → Contains ptr.places place → block_in (copy_at read place) k ≡ None =
      λ k le place in_it. ⊎_elim
      (λ (lt : k < 16).
      let held = holds place (subst (λ (ps : List Place). Contains ps place) (sym places) in_it) k (omega (arith, lt, count)) in
      block_in-copy_at read place k lt
      ∙ ap (λ j. option_and_then shown_in (read place.dev (place.block + j))) (let e : k ≡ blocked.block + k = omega (arith, at, first) in e)
      ∙ ap (option_and_then shown_in) held
      ∙ ap shown_in (ap (λ (bytes : List ℕ). block_of_bytes bytes k) same ∙ zeros_behind sealed (blocks_for payload) k size le lt)
      ∙ ap (option_map _) zeros_shut)
      (λ (past : 16 ≤ k). behind-copy_at read place k past)
      (cases_lt k 16) in
      let heads : (k : ℕ) → blocks_for payload ≤ k → list_any (shows_head id birth k) copies ≡ false = λ k le. none_shown read id birth k ptr.places (shut k le) in
      let there : set_at copies id birth 0 ≡ Some set = subst (λ k. set_at copies id birth k ≡ Some set) first (first_place_shows read all) in
      subst (λ b. sets_in copies id b ≡ Ok (record { sets = set ∷ []; end = blocks_for payload })) born
      (sets_in_gives copies id birth (record { sets = set ∷ []; end = blocks_for payload }) set []
      (record {
        sets =
            ap (λ o. option_map_or (λ s. with_set s (sets_from copies id birth 15 (0 + s.blocks))) o (record { sets = []; end = 0 })) there
            ∙ ap (λ k. with_set set (sets_from copies id birth 15 k)) (let e : 0 + blocks_for payload ≡ blocks_for payload = omega arith in e)
            ∙ ap (with_set set) (ends_here copies id birth 15 (blocks_for payload) (no_heads_no_set copies copies id birth (blocks_for payload) (heads (blocks_for payload) (omega arith))));
        none = first_head_none copies id birth (16 - suc (blocks_for payload)) (suc (blocks_for payload)) (λ k le. heads k (omega (arith, le)));
      }) refl)

-- One block more is one part more.
pub parts_more : (id : List ℕ) (birth n sequence : ℕ) (payload bytes new_bytes block : List ℕ) (p : ℕ) → length bytes ≡ 4096 * p → new_bytes ≡ bytes ++ block → length block ≡ 4096
    → Opens block (part_head id birth n sequence payload p) (chunk payload p) → ArePartsBefore id birth n sequence payload bytes p → ArePartsBefore id birth n sequence payload new_bytes (p + 1)
parts_more id birth n sequence payload bytes new_bytes block p size pushed long opens before k lt = ⊎_elim
    (λ (earlier : k < p). subst (λ (b : List ℕ). Opens b (part_head id birth n sequence payload k) (chunk payload k))
    (sym (ap (λ (bs : List ℕ). block_of_bytes bs k) pushed ∙ first_blocks bytes block p k size earlier)) (before k earlier))
    (λ (last : p ≤ k).
    let e : p ≡ k = omega (arith, lt, last) in
    let here : block_of_bytes new_bytes p ≡ block = ap (λ (bs : List ℕ). block_of_bytes bs p) pushed ∙ ap (take 4096) (drop_at bytes block (4096 * p) size) ∙ take_all 4096 block (let le : length block ≤ 4096 = omega (arith, long) in le) in
    subst (λ j. Opens (block_of_bytes new_bytes j) (part_head id birth n sequence payload j) (chunk payload j)) e
    (subst (λ (b : List ℕ). Opens b (part_head id birth n sequence payload p) (chunk payload p)) (sym here) opens))
    (cases_lt k p)
