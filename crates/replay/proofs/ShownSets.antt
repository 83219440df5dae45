-- Each block before the end of a node's sets is shown by one of its places, where the sets are found; and where what the sets come to ends.
use Rattle.std.proofs.Common.{◌≡◌, ⊎_elim, ℕ, zero, suc, ◌+◌, ◌-◌, ◌<◌, ◌≤◌, true, false, List, [], ◌∷◌, ◌++◌, length, Option, Some, None, Result, Ok, Err, refl, ap, sym, subst, ◌∙◌, arith}
use Rattle.std.specs.Prelude.{Contains, ◌&&◌, ◌==◌, nat_le, nat_lt, option_and_then, option_map}
use Rattle.std.specs.Option.{option_map_or, option_or}
use Rattle.std.specs.Str.{bytes_eq}
use Rattle.std.proofs.lemmas.Bool.{and_parts, cases_lt, eq-eqb, eqb-true}
use Rattle.std.proofs.lemmas.Slice.Eq.{bytes_eq-Decides}
use Rattle.std.specs.Cmp.Derive.{both_true}
use Rattle.dev_model.specs.Disk.{Image, block_at}
use Rattle.key_codec.specs.Combined.{ok_is}
use Rattle.node_store.specs.Answers.{IsOfNode}
use Rattle.node_store.specs.Copies.{Reading, block_in, copies_at, copy_at, shown_at, shown_in}
use Rattle.node_store.specs.Mending.{IsShown, is_node_head, is_of_node}
use Rattle.node_store.specs.NodeContents.{NodeContent, content_if, content_in, content_with, entries_after}
use Rattle.node_store.specs.StoredSets.{Copies, begins, first_of, is_set_head, part_if, part_in, part_of, parts_from, set_at, set_from, set_with, sets_from, sets_in}
use Rattle.node_store.specs.declared.opening.OpenBlock.{OpenBlock}
use Rattle.node_store.specs.declared.sets.StoredSet.{StoredSet}
use Rattle.node_store.specs.declared.sets.StoredSets.{StoredSets}
use Rattle.node_store.proofs.NoBlocks.{block_in-copy_at}
use Rattle.node_store.proofs.Stored.{and_then_some, cond_some, ends_within, found_by, set_begun_is, set_from_is, sets_in_is}
use Rattle.record_codec.specs.declared.sets.SetHead.{SetHead}
use Rattle.sealed_block.specs.Opening.{opened, payload_in}
use Rattle.sealed_block.specs.Parts.{continues, continues-is}
use Rattle.sealed_block.specs.declared.heads.Head.{Head}
use Rattle.vol_types.specs.KeyMaps.{Entries}
use Rattle.vol_types.specs.declared.pointers.Place.{Place}

-- ---- where what the sets come to ends

content_ends : (end : ℕ) (entries : Result Entries ℕ) (content : NodeContent) → content_with end entries ≡ Ok content → content.end ≡ end
content_ends end (Err n) content is = absurd cc
content_ends end (Ok entries) content is = ap (λ (c : NodeContent). c.end) (sym (ok_is (record { entries = entries; end = end }) content is))

-- What a node holds ends where its sets do.
pub content_of_sets : (copies : Copies) (id : List ℕ) (wanted : SetHead) (content : NodeContent) → content_in copies id wanted ≡ Ok content → (found : StoredSets) × (sets_in copies id wanted.birth ≡ Ok found) × (found.end ≡ content.end)
content_of_sets copies id wanted content is = by (sets_in copies id wanted.birth) refl is
  where
    by : (sets : Result StoredSets ℕ) → sets_in copies id wanted.birth ≡ sets → content_if wanted sets ≡ Ok content → (found : StoredSets) × (sets_in copies id wanted.birth ≡ Ok found) × (found.end ≡ content.end)
    by (Err n) at is = absurd cc
    by (Ok found) at is = (found, at, sym (content_ends found.end (entries_after wanted found.sets []) content is))

-- The sets end within the bucket.
pub sets_within : (copies : Copies) (id : List ℕ) (birth : ℕ) (found : StoredSets) → sets_in copies id birth ≡ Ok found → found.end ≤ 16
sets_within copies id birth found is =
    let all = (sets_in_is copies id birth found is).sets in
    subst (λ (f : StoredSets). f.end ≤ 16) all (ends_within copies id birth 16 0 (omega arith))

-- ---- which blocks are shown

-- Some copy shows a block of the node there.
pub record ShowsBlock (id : List ℕ) (birth : ℕ) (copies : Copies) (n : ℕ) : Type 0 where
  pub copy : List (Option OpenBlock)
  pub one : Contains copies copy
  pub block : OpenBlock
  pub at : block_in copy n ≡ Some block
  pub of_node : IsOfNode id birth block.head

-- What is found first is found on a member.
pub first_in : {A B : Type 0} (give : A → Option B) (xs : List A) (y : B) → first_of give xs ≡ Some y → (x : A) × Contains xs x × (give x ≡ Some y)
first_in give [] y is = cc
first_in {A} {B} give (x ∷ xs) y is = by (give x) refl is (first_in give xs y)
  where
    by : (o : Option B) → give x ≡ o → option_or o (first_of give xs) ≡ Some y → (first_of give xs ≡ Some y → (z : A) × Contains xs z × (give z ≡ Some y)) → (z : A) × Contains (x ∷ xs) z × (give z ≡ Some y)
    by None at rest further = let there = further rest in (there.0, (suc there.1.0, (let l = there.1.1 in omega (arith, l)), there.1.2), there.2)
    by (Some z) at rest further = (x, (0, omega arith, refl), at ∙ rest)

pub map_some : {A B : Type 0} (f : A → B) (o : Option A) (y : B) → option_map f o ≡ Some y → (x : A) × (o ≡ Some x) × (f x ≡ y)
map_some f None y is = cc
map_some f (Some x) y is = (x, refl, cc)

-- The head of a set is that of a block of the node,
pub head_of_node : (id : List ℕ) (birth n : ℕ) (head : Head) → is_set_head id birth n head ≡ true → IsOfNode id birth head
head_of_node id birth n head is =
    let t1 = head.kind == 3 in
    let t2 = t1 && head.version == 1 in
    let t3 = t2 && head.part == 0 in
    let t4 = t3 && bytes_eq head.id id in
    let t5 = t4 && head.owner == birth in
    let a = and_parts t5 (head.number == n) is in
    let b = and_parts t4 (head.owner == birth) a.0 in
    let c = and_parts t3 (bytes_eq head.id id) b.0 in
    let d = and_parts t2 (head.part == 0) c.0 in
    let e = and_parts t1 (head.version == 1) d.0 in
    record { kind = eqb-true head.kind 3 e.0; volume = (bytes_eq-Decides head.id id).0 c.1; owner = eqb-true head.owner birth b.1 }

pub begun_of_node : (id : List ℕ) (birth n : ℕ) (head : Head) → begins id birth n head ≡ true → IsOfNode id birth head
begun_of_node id birth n head is =
    let x = and_parts (is_set_head id birth n head && continues head 0 head && nat_lt n (n + head.parts)) (nat_le (n + head.parts) 16) is in
    let y = and_parts (is_set_head id birth n head && continues head 0 head) (nat_lt n (n + head.parts)) x.0 in
    head_of_node id birth n head (and_parts (is_set_head id birth n head) (continues head 0 head) y.0).0

-- and so is that of a part of it.
pub part_of_node : (id : List ℕ) (birth : ℕ) (first : Head) (p : ℕ) (head : Head) → IsOfNode id birth first → continues first p head ≡ true → IsOfNode id birth head
part_of_node id birth first p head of is =
    let part = continues-is first p head is in
    record { kind = part.record_is.kind ∙ of.kind; volume = part.record_is.id ∙ of.volume; owner = part.record_is.owner ∙ of.owner }

module _ (copies : Copies) (id : List ℕ) (birth : ℕ) where
  -- A part that is there is shown.
  part_shown : (first : Head) (n p : ℕ) (block : OpenBlock) → IsOfNode id birth first → part_of copies first n p ≡ Some block → ShowsBlock id birth copies (n + p)
  part_shown first n p block of is =
      let found = first_in (part_in first n p) copies block is in
      let there = and_then_some (part_if first p) (block_in found.0 (n + p)) block found.2 in
      let passed = cond_some (continues first p there.0.head) (Some there.0) block there.2 in
      record { copy = found.0; one = found.1; block = there.0; at = there.1; of_node = part_of_node id birth first p there.0.head of passed.0 }

  parts_shown : (first : Head) (n more p : ℕ) (rest : List ℕ) → IsOfNode id birth first → parts_from copies first n more p ≡ Some rest → (k : ℕ) → p ≤ k → k < p + more → ShowsBlock id birth copies (n + k)
  parts_shown first n zero p rest of is k from to = absurd (omega (arith, from, to))
  parts_shown first n (suc more) p rest of is k from to =
      let found = and_then_some (λ (block : OpenBlock). option_map (λ r. block.payload ++ r) (parts_from copies first n more (suc p))) (part_of copies first n p) rest is in
      let behind = map_some (λ r. found.0.payload ++ r) (parts_from copies first n more (suc p)) rest found.2 in
      ⊎_elim
      (λ (later : p < k). parts_shown first n more (suc p) behind.0 of behind.1 k (omega (arith, later)) (omega (arith, to)))
      (λ (here : k ≤ p). subst (λ j. ShowsBlock id birth copies (n + j)) (let e : p ≡ k = omega (arith, here, from) in e) (part_shown first n p found.0 of found.1))
      (cases_lt p k)

  -- So is each block of a set.
  set_shown : (n : ℕ) (set : StoredSet) → set_at copies id birth n ≡ Some set → (k : ℕ) → k < set.blocks → ShowsBlock id birth copies (n + k)
  set_shown n set is zero lower =
      let found = first_in (set_from copies id birth n) copies set is in
      let begun = set_from_is copies id birth n found.0 set found.2 in
      let passed = cond_some (begins id birth n begun.0.head) (option_and_then (λ rest. set_with n begun.0.head (begun.0.payload ++ rest)) (parts_from copies begun.0.head n (begun.0.head.parts - 1) 1)) set begun.2 in
      record { copy = found.0; one = found.1; block = begun.0; at = ap (block_in found.0) (let e : n + 0 ≡ n = omega arith in e) ∙ begun.1; of_node = begun_of_node id birth n begun.0.head passed.0 }
  set_shown n set is (suc k) lower =
      let found = first_in (set_from copies id birth n) copies set is in
      let begun = set_from_is copies id birth n found.0 set found.2 in
      let fields = set_begun_is copies id birth n begun.0 set begun.2 in
      let passed = cond_some (begins id birth n begun.0.head) (option_and_then (λ rest. set_with n begun.0.head (begun.0.payload ++ rest)) (parts_from copies begun.0.head n (begun.0.head.parts - 1) 1)) set begun.2 in
      let rest = and_then_some (λ rest. set_with n begun.0.head (begun.0.payload ++ rest)) (parts_from copies begun.0.head n (begun.0.head.parts - 1) 1) set passed.1 in
      let parts = fields.blocks in
      parts_shown begun.0.head n (begun.0.head.parts - 1) 1 rest.0 (begun_of_node id birth n begun.0.head passed.0) rest.1 (suc k) (omega arith) (omega (arith, lower, parts))

  sets_shown : (more n : ℕ) (found : StoredSets) → sets_from copies id birth more n ≡ found → (k : ℕ) → n ≤ k → k < found.end → ShowsBlock id birth copies k
  sets_shown zero n found is k from to = let end : n ≡ found.end = ap (λ (f : StoredSets). f.end) is in absurd (omega (arith, from, to, end))
  sets_shown (suc more) n found is k from to = by (set_at copies id birth n) refl is (λ m tail comes. sets_shown more m tail comes k)
    where
      by : (o : Option StoredSet) → set_at copies id birth n ≡ o → found_by copies id birth more n o ≡ found
          → ((m : ℕ) (tail : StoredSets) → sets_from copies id birth more m ≡ tail → m ≤ k → k < tail.end → ShowsBlock id birth copies k) → ShowsBlock id birth copies k
      by None here given further = let end : n ≡ found.end = ap (λ (f : StoredSets). f.end) given in absurd (omega (arith, from, to, end))
      by (Some s) here given further =
          let tail = sets_from copies id birth more (n + s.blocks) in
          let end : tail.end ≡ found.end = ap (λ (f : StoredSets). f.end) given in
          ⊎_elim
          (λ (own : k < n + s.blocks). subst (λ j. ShowsBlock id birth copies j) (let e : n + (k - n) ≡ k = omega (arith, from) in e) (set_shown n s here (k - n) (omega (arith, own, from))))
          (λ (later : n + s.blocks ≤ k). further (n + s.blocks) tail refl later (omega (arith, to, end)))
          (cases_lt k (n + s.blocks))

-- ---- on which place

pub place_of_copy : (read : Reading) (places : List Place) (copy : List (Option OpenBlock)) → Contains (copies_at read places) copy → (place : Place) × Contains places place × (copy_at read place ≡ copy)
place_of_copy read [] copy is = absurd (omega (arith, is.1))
place_of_copy read (place ∷ places) copy (zero, within, at) = (place, (0, omega arith, refl), at)
place_of_copy read (place ∷ places) copy (suc k, within, at) =
    let lower : k < length (copies_at read places) = omega (arith, within) in
    let rest = place_of_copy read places copy (k, lower, at) in
    (rest.0, (suc rest.1.0, (let l = rest.1.1 in omega (arith, l)), rest.1.2), rest.2)

head_passes : (id : List ℕ) (birth : ℕ) (head : Head) → IsOfNode id birth head → is_node_head id birth head ≡ true
head_passes id birth head of = both_true (both_true (eq-eqb head.kind 3 of.kind) ((bytes_eq-Decides head.id id).1 of.volume)) (eq-eqb head.owner birth of.owner)

opens_by : (id : List ℕ) (birth : ℕ) (bytes : List ℕ) (block : OpenBlock) (head : Option Head) → option_map (λ h. record { head = h; payload = payload_in bytes }) head ≡ Some block → IsOfNode id birth block.head → option_map_or (is_node_head id birth) head false ≡ true
opens_by id birth bytes block None is of = absurd cc
opens_by id birth bytes block (Some head) is of =
    let made : OpenBlock = record { head = head; payload = payload_in bytes } in
    let both : Some made ≡ Some block = is in
    let same : made ≡ block = cc in
    head_passes id birth head (subst (λ (b : OpenBlock). IsOfNode id birth b.head) (sym same) of)

pub shown_bytes : (id : List ℕ) (birth : ℕ) (held : Option (List ℕ)) (block : OpenBlock) → option_and_then shown_in held ≡ Some block → IsOfNode id birth block.head → (bytes : List ℕ) × (held ≡ Some bytes) × (is_of_node id birth (Some bytes) ≡ true)
shown_bytes id birth None block is of = absurd cc
shown_bytes id birth (Some bytes) block is of = (bytes, refl, opens_by id birth bytes block (opened bytes) is of)

-- Each block before the end of a node's sets is shown by one of its places.
pub block_shown : (id : List ℕ) (birth : ℕ) (places : List Place) (image : Image) (found : StoredSets) → sets_in (copies_at (block_at image) places) id birth ≡ Ok found → (n : ℕ) → n < found.end → (bytes : List ℕ) × IsShown id birth places image n bytes
block_shown id birth places image found is n lower =
    let read = block_at image in
    let copies = copies_at read places in
    let shows = sets_shown copies id birth 16 0 found (sets_in_is copies id birth found is).sets n (omega arith) lower in
    let at = place_of_copy read places shows.copy shows.one in
    let few = sets_within copies id birth found is in
    let shown : shown_at read at.0 n ≡ Some shows.block = sym (block_in-copy_at read at.0 n (omega (arith, lower, few))) ∙ ap (λ (c : List (Option OpenBlock)). block_in c n) at.2 ∙ shows.at in
    let held = shown_bytes id birth (read at.0.dev (at.0.block + n)) shows.block shown shows.of_node in
    (held.0, record { place = at.0; one = at.1; stands = held.1; opens = held.2 })
