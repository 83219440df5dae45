-- Where copies agree on a node, reads that failed below the end of its sets change nothing of what it holds.
use Rattle.std.proofs.Common.{◌≡◌, ⊎_elim, ℕ, zero, suc, ◌+◌, ◌-◌, ◌<◌, ◌≤◌, true, false, cond, List, [], ◌∷◌, ◌++◌, length, Option, Some, None, Ok, refl, ap, sym, ◌∙◌, subst, arith}
use Rattle.std.specs.Prelude.{Contains, option_and_then, option_map, nat_le, nat_lt, ◌&&◌, ◌==◌}
use Rattle.std.specs.Str.{bytes_eq}
use Rattle.std.specs.Option.{option_map_or, option_or}
use Rattle.std.specs.List.{list_any}
use Rattle.std.proofs.lemmas.Bool.{and_parts, eqb-true}
use Rattle.std.proofs.lemmas.Slice.Eq.{bytes_eq-Decides}
use Rattle.sealed_block.specs.declared.heads.Head.{Head}
use Rattle.node_store.specs.declared.opening.OpenBlock.{OpenBlock}
use Rattle.node_store.specs.declared.sets.StoredSet.{StoredSet}
use Rattle.node_store.specs.declared.sets.StoredSets.{StoredSets}
use Rattle.node_store.specs.Answers.{AgreeOn, AreSeenFrom, IsOfNode, IsSeenFrom}
use Rattle.node_store.specs.Copies.{block_in}
use Rattle.sealed_block.specs.Parts.{continues, continues-is}
use Rattle.node_store.specs.StoredSets.{Copies, begins, first_head, first_of, if_some, is_set_head, part_if, part_in, part_of, parts_from, set_at, set_begun, set_from, set_with, sets_from, sets_in, shows_head, with_set}
use Rattle.node_store.proofs.Behind.{any_same, first_same}
use Rattle.node_store.proofs.Stored.{found_by, and_then_some, cond_some, set_from_is, sets_in_gives, sets_in_is}

contains_head : {A : Type 0} (x : A) (xs : List A) → Contains (x ∷ xs) x
contains_head x xs = (0, omega arith, refl)

contains_tail : {A : Type 0} (x : A) (xs : List A) (y : A) → Contains xs y → Contains (x ∷ xs) y
contains_tail x xs y is = (suc is.0, omega (arith, is.1), is.2)

-- What is found first is found on a member,
first_in : {A B : Type 0} (give : A → Option B) (xs : List A) (y : B) → first_of give xs ≡ Some y → (x : A) × Contains xs x × (give x ≡ Some y)
first_in give [] y is = cc
first_in {A} {B} give (x ∷ xs) y is = by (give x) refl is (first_in give xs y)
  where
    by : (o : Option B) → give x ≡ o → option_or o (first_of give xs) ≡ Some y → (first_of give xs ≡ Some y → (z : A) × Contains xs z × (give z ≡ Some y)) → (z : A) × Contains (x ∷ xs) z × (give z ≡ Some y)
    by None at rest further = let there = further rest in (there.0, contains_tail x xs there.0 there.1, there.2)
    by (Some z) at rest further = (x, contains_head x xs, at ∙ rest)

-- and where nothing else can be found, that is what is found.
first_unique : {A B : Type 0} (give : A → Option B) (xs : List A) (y : B) → ((x : A) → Contains xs x → (z : B) → give x ≡ Some z → z ≡ y) → (x : A) → Contains xs x → give x ≡ Some y → first_of give xs ≡ Some y
first_unique give [] y one x in_it is = absurd (omega (arith, in_it.1))
first_unique give (w ∷ xs) y one x (zero, within, at) is =
    ap (λ o. option_or o (first_of give xs)) (ap give at ∙ is)
first_unique {A} {B} give (w ∷ xs) y one x (suc k, within, at) is =
    by (give w) refl (first_unique give xs y (λ v in_it z gives. one v (contains_tail w xs v in_it) z gives) x (k, (let lt : k < length xs = omega (arith, within) in lt), at) is)
  where
    by : (o : Option B) → give w ≡ o → first_of give xs ≡ Some y → option_or (give w) (first_of give xs) ≡ Some y
    by None here rest = ap (λ o. option_or o (first_of give xs)) here ∙ rest
    by (Some z) here rest = ap (λ o. option_or o (first_of give xs)) here ∙ ap Some (one w (contains_head w xs) z here)

-- The copy that was seen so.
the_copy : (from : ℕ) (copies seen : Copies) → AreSeenFrom from copies seen → (s : List (Option OpenBlock)) → Contains seen s → (c : List (Option OpenBlock)) × Contains copies c × IsSeenFrom from c s
the_copy from [] [] are s in_it = absurd (omega (arith, in_it.1))
the_copy from [] (s ∷ seen) are t in_it = absurd are
the_copy from (c ∷ copies) [] are s in_it = absurd are
the_copy from (c ∷ copies) (s ∷ seen) are t (zero, within, at) = (c, contains_head c copies, subst (λ (l : List (Option OpenBlock)). IsSeenFrom from c l) at are.0)
the_copy from (c ∷ copies) (s ∷ seen) are t (suc k, within, at) =
    let there = the_copy from copies seen are.1 t (k, (let lt : k < length seen = omega (arith, within) in lt), at) in
    (there.0, contains_tail c copies there.0 there.1, there.2)

shown_is : (from : ℕ) (c s : List (Option OpenBlock)) (n : ℕ) (block : OpenBlock) → IsSeenFrom from c s → block_in s n ≡ Some block → block_in c n ≡ Some block
shown_is from c s n block is there = ⊎_elim (λ (same : block_in s n ≡ block_in c n). sym same ∙ there) (λ (none : block_in s n ≡ None). let both : None ≡ Some block = sym none ∙ there in cc) (is.each n)

module _ (id : List ℕ) (birth from : ℕ) (copies seen : Copies) (agree : AgreeOn id birth copies) (are : AreSeenFrom from copies seen) where
  begun_of_node : (n : ℕ) (head : Head) → begins id birth n head ≡ true → IsOfNode id birth head
  begun_of_node n head is =
      let t1 = head.kind == 3 in
      let t2 = t1 && head.version == 1 in
      let t3 = t2 && head.part == 0 in
      let t4 = t3 && bytes_eq head.id id in
      let t5 = t4 && head.owner == birth in
      let x = and_parts (is_set_head id birth n head && continues head 0 head && nat_lt n (n + head.parts)) (nat_le (n + head.parts) 16) is in
      let y = and_parts (is_set_head id birth n head && continues head 0 head) (nat_lt n (n + head.parts)) x.0 in
      let z = and_parts (is_set_head id birth n head) (continues head 0 head) y.0 in
      let a = and_parts t5 (head.number == n) z.0 in
      let b = and_parts t4 (head.owner == birth) a.0 in
      let c = and_parts t3 (bytes_eq head.id id) b.0 in
      let d = and_parts t2 (head.part == 0) c.0 in
      let e = and_parts t1 (head.version == 1) d.0 in
      record { kind = eqb-true head.kind 3 e.0; volume = (bytes_eq-Decides head.id id).0 c.1; owner = eqb-true head.owner birth b.1 }

  part_of_node : (first : Head) (p : ℕ) (head : Head) → IsOfNode id birth first → continues first p head ≡ true → IsOfNode id birth head
  part_of_node first p head of is =
      let part = continues-is first p head is in
      record { kind = part.record_is.kind ∙ of.kind; volume = part.record_is.id ∙ of.volume; owner = part.record_is.owner ∙ of.owner }

  part_in_is : (first : Head) (n p : ℕ) (copy : List (Option OpenBlock)) (block : OpenBlock) → part_in first n p copy ≡ Some block → (block_in copy (n + p) ≡ Some block) × (continues first p block.head ≡ true)
  part_in_is first n p copy block is =
      let there = and_then_some (part_if first p) (block_in copy (n + p)) block is in
      let passed = cond_some (continues first p there.0.head) (Some there.0) block there.2 in
      let both : Some there.0 ≡ Some block = passed.1 in
      let same : there.0 ≡ block = cc in
      (there.1 ∙ ap Some same, subst (λ (b : OpenBlock). continues first p b.head ≡ true) same passed.0)

  part_in_gives : (first : Head) (n p : ℕ) (copy : List (Option OpenBlock)) (block : OpenBlock) → block_in copy (n + p) ≡ Some block → continues first p block.head ≡ true → part_in first n p copy ≡ Some block
  part_in_gives first n p copy block at is = ap (option_and_then (part_if first p)) at ∙ ap (λ b. cond b (Some block) None) is

  -- A part that was seen is the part.
  part_kept : (first : Head) (n p : ℕ) (block : OpenBlock) → IsOfNode id birth first → part_of seen first n p ≡ Some block → part_of copies first n p ≡ Some block
  part_kept first n p block of is =
      let found = first_in (part_in first n p) seen block is in
      let part = part_in_is first n p found.0 block found.2 in
      let there = the_copy from copies seen are found.0 found.1 in
      let shown = shown_is from there.0 found.0 (n + p) block there.2 part.0 in
      first_unique (part_in first n p) copies block
      (λ x in_it z gives.
      let other = part_in_is first n p x z gives in
      agree (n + p) x there.0 in_it there.1 z block other.0 shown (part_of_node first p z.head of other.1) (part_of_node first p block.head of part.1))
      there.0 there.1 (part_in_gives first n p there.0 block shown part.1)

  map_some : {A B : Type 0} (f : A → B) (o : Option A) (y : B) → option_map f o ≡ Some y → (x : A) × (o ≡ Some x) × (f x ≡ y)
  map_some f None y is = cc
  map_some f (Some x) y is = (x, refl, cc)

  parts_kept : (first : Head) (n more p : ℕ) (rest : List ℕ) → IsOfNode id birth first → parts_from seen first n more p ≡ Some rest → parts_from copies first n more p ≡ Some rest
  parts_kept first n zero p rest of is = is
  parts_kept first n (suc more) p rest of is =
      let found = and_then_some (λ (block : OpenBlock). option_map (λ r. block.payload ++ r) (parts_from seen first n more (suc p))) (part_of seen first n p) rest is in
      let behind = map_some (λ r. found.0.payload ++ r) (parts_from seen first n more (suc p)) rest found.2 in
      ap (option_and_then (λ (block : OpenBlock). option_map (λ r. block.payload ++ r) (parts_from copies first n more (suc p)))) (part_kept first n p found.0 of found.1)
      ∙ ap (option_map (λ r. found.0.payload ++ r)) (parts_kept first n more (suc p) behind.0 of behind.1) ∙ ap Some behind.2

  begun_kept : (n : ℕ) (first : OpenBlock) (set : StoredSet) → set_begun seen id birth n first ≡ Some set → set_begun copies id birth n first ≡ Some set
  begun_kept n first set is =
      let passed = cond_some (begins id birth n first.head) (option_and_then (λ rest. set_with n first.head (first.payload ++ rest)) (parts_from seen first.head n (first.head.parts - 1) 1)) set is in
      let found = and_then_some (λ rest. set_with n first.head (first.payload ++ rest)) (parts_from seen first.head n (first.head.parts - 1) 1) set passed.1 in
      ap (λ b. cond b (option_and_then (λ rest. set_with n first.head (first.payload ++ rest)) (parts_from copies first.head n (first.head.parts - 1) 1)) None) passed.0
      ∙ ap (option_and_then (λ rest. set_with n first.head (first.payload ++ rest))) (parts_kept first.head n (first.head.parts - 1) 1 found.0 (begun_of_node n first.head passed.0) found.1)
      ∙ found.2

  begun_first : (n : ℕ) (first : OpenBlock) (set : StoredSet) → set_begun copies id birth n first ≡ Some set → IsOfNode id birth first.head
  begun_first n first set is = begun_of_node n first.head (cond_some (begins id birth n first.head) (option_and_then (λ rest. set_with n first.head (first.payload ++ rest)) (parts_from copies first.head n (first.head.parts - 1) 1)) set is).0

  -- A set that was seen is the set.
  set_kept : (n : ℕ) (set : StoredSet) → set_at seen id birth n ≡ Some set → set_at copies id birth n ≡ Some set
  set_kept n set is =
      let found = first_in (set_from seen id birth n) seen set is in
      let begun = set_from_is seen id birth n found.0 set found.2 in
      let there = the_copy from copies seen are found.0 found.1 in
      let shown = shown_is from there.0 found.0 n begun.0 there.2 begun.1 in
      let kept = begun_kept n begun.0 set begun.2 in
      first_unique (set_from copies id birth n) copies set
      (λ x in_it z gives.
      let other = set_from_is copies id birth n x z gives in
      let same : other.0 ≡ begun.0 = agree n x there.0 in_it there.1 other.0 begun.0 other.1 shown (begun_first n other.0 z other.2) (begun_first n begun.0 set kept) in
      let both : Some z ≡ Some set = sym (subst (λ (b : OpenBlock). set_begun copies id birth n b ≡ Some z) same other.2) ∙ kept in
      let e : z ≡ set = cc in e)
      there.0 there.1 (ap (option_and_then (set_begun copies id birth n)) shown ∙ kept)

  -- From the block on from which all was seen, the same is found.
  part_same : (first : Head) (n p : ℕ) → from ≤ n → part_of seen first n p ≡ part_of copies first n p
  part_same first n p le = first_same (IsSeenFrom from) (part_in first n p) (part_in first n p) (λ x y r. ap (option_and_then (part_if first p)) (r.later (n + p) (omega (arith, le)))) copies seen are

  parts_same : (first : Head) (n more p : ℕ) → from ≤ n → parts_from seen first n more p ≡ parts_from copies first n more p
  parts_same first n zero p le = refl
  parts_same first n (suc more) p le =
      ap (option_and_then (λ (block : OpenBlock). option_map (λ r. block.payload ++ r) (parts_from seen first n more (suc p)))) (part_same first n p le)
      ∙ ap (λ o. option_and_then (λ (block : OpenBlock). option_map (λ r. block.payload ++ r) o) (part_of copies first n p)) (parts_same first n more (suc p) le)

  begun_same : (n : ℕ) → from ≤ n → (o : Option OpenBlock) → option_and_then (set_begun seen id birth n) o ≡ option_and_then (set_begun copies id birth n) o
  begun_same n le None = refl
  begun_same n le (Some first) = ap (λ o. cond (begins id birth n first.head) (option_and_then (λ rest. set_with n first.head (first.payload ++ rest)) o) None) (parts_same first.head n (first.head.parts - 1) 1 le)

  set_same : (n : ℕ) → from ≤ n → set_at seen id birth n ≡ set_at copies id birth n
  set_same n le = first_same (IsSeenFrom from) (set_from copies id birth n) (set_from seen id birth n)
      (λ x y r. ap (option_and_then (set_begun seen id birth n)) (r.later n le) ∙ begun_same n le (block_in x n)) copies seen are

  heads_same : (n : ℕ) → from ≤ n → list_any (shows_head id birth n) seen ≡ list_any (shows_head id birth n) copies
  heads_same n le = any_same (IsSeenFrom from) (shows_head id birth n) (shows_head id birth n)
      (λ x y r. ap (λ o. option_map_or (λ (block : OpenBlock). is_set_head id birth n block.head) o false) (r.later n le)) copies seen are

  -- So all sets are those that were seen,
  sets_kept : (more n : ℕ) (found : StoredSets) → sets_from seen id birth more n ≡ found → from ≤ found.end → sets_from copies id birth more n ≡ found
  sets_kept zero n found is le = is
  sets_kept (suc more) n found is le = by (set_at seen id birth n) refl is (λ k tail. sets_kept more k tail)
    where
      by : (o : Option StoredSet) → set_at seen id birth n ≡ o → found_by seen id birth more n o ≡ found
          → ((k : ℕ) (tail : StoredSets) → sets_from seen id birth more k ≡ tail → from ≤ tail.end → sets_from copies id birth more k ≡ tail) → found_by copies id birth more n (set_at copies id birth n) ≡ found
      by None here given further =
          let end : n ≡ found.end = ap (λ (f : StoredSets). f.end) given in
          ap (found_by copies id birth more n) (sym (set_same n (omega (arith, le, end))) ∙ here) ∙ given
      by (Some s) here given further =
          let tail = sets_from seen id birth more (n + s.blocks) in
          let end : tail.end ≡ found.end = ap (λ (f : StoredSets). f.end) given in
          ap (found_by copies id birth more n) (set_kept n s here)
          ∙ ap (with_set s) (further (n + s.blocks) tail refl (omega (arith, le, end))) ∙ given

  first_head_same : (more n : ℕ) → from ≤ n → first_head seen id birth more n ≡ first_head copies id birth more n
  first_head_same zero n le = refl
  first_head_same (suc more) n le =
      ap (λ b. cond b (Some n) (first_head seen id birth more (suc n))) (heads_same n le)
      ∙ ap (λ o. cond (list_any (shows_head id birth n) copies) (Some n) o) (first_head_same more (suc n) (omega (arith, le)))

  some_set : (sets : List StoredSet) (found : StoredSets) (gap : Option ℕ) (answer : StoredSets) → if_some found gap sets ≡ Ok answer → (s : StoredSet) × (rest : List StoredSet) × (sets ≡ s ∷ rest)
  some_set [] found gap answer is = cc
  some_set (s ∷ rest) found gap answer is = (s, rest, refl)

  pub sets_made_up : (found : StoredSets) → sets_in seen id birth ≡ Ok found → from ≤ found.end → sets_in copies id birth ≡ Ok found
  unfolding sets_in
  sets_made_up found is le =
      let was = sets_in_is seen id birth found is in
      let all = sets_from seen id birth 16 0 in
      let some = some_set all.sets all (first_head seen id birth (16 - suc all.end) (suc all.end)) found is in
      sets_in_gives copies id birth found some.0 some.1
      (record { sets = sets_kept 16 0 found was.sets le; none = sym (first_head_same (16 - suc found.end) (suc found.end) (omega (arith, le))) ∙ was.none })
      (ap (λ (f : StoredSets). f.sets) (sym was.sets) ∙ some.2)
