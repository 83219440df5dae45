-- Copies that have lost blocks hold the same sets of a node, where they agreed on it and none before the end of its sets is lost on all.
use Rattle.std.proofs.Common.{◌≡◌, ℕ, zero, suc, ◌+◌, ◌-◌, ◌<◌, ◌≤◌, Bool, true, false, cond, List, [], ◌∷◌, ◌++◌, length, Option, Some, None, Ok, refl, ap, sym, ◌∙◌, subst, arith}
use Rattle.std.specs.Prelude.{Contains, option_and_then, option_map, ◌||◌}
use Rattle.std.specs.Option.{option_map_or, option_or}
use Rattle.std.specs.List.{list_any}
use Rattle.std.proofs.lemmas.Bool.{false≢true}
use Rattle.std.proofs.lemmas.Option.{none-some, same_Some}
use Rattle.node_store.specs.Answers.{AgreeOn, IsOfNode}
use Rattle.node_store.specs.Copies.{block_in}
use Rattle.node_store.specs.StoredSets.{Copies, begins, first_head, first_of, if_some, is_set_head, part_if, part_in, part_of, parts_from, set_at, set_begun, set_from, set_with, sets_from, sets_in, shows_head}
use Rattle.node_store.specs.declared.opening.OpenBlock.{OpenBlock}
use Rattle.node_store.specs.declared.sets.StoredSet.{StoredSet}
use Rattle.node_store.specs.declared.sets.StoredSets.{StoredSets}
use Rattle.node_store.proofs.Stored.{and_then_some, cond_some, ends_later, found_by, set_begun_is, set_from_is, sets_in_is}
use Rattle.replay.specs.Roots.{Shows}
use Rattle.replay.proofs.ShownSets.{begun_of_node, first_in, head_of_node, map_some, part_of_node}
use Rattle.sealed_block.specs.Parts.{continues}
use Rattle.sealed_block.specs.declared.heads.Head.{Head}

-- ---- lists

-- Where nothing else can be found, that is what is found.
first_unique : {A B : Type 0} (give : A → Option B) (xs : List A) (y : B) → ((x : A) → Contains xs x → (z : B) → give x ≡ Some z → z ≡ y) → (x : A) → Contains xs x → give x ≡ Some y → first_of give xs ≡ Some y
first_unique give [] y one x in_it is = absurd (let lower = in_it.1 in omega (arith, lower))
first_unique give (w ∷ xs) y one x (zero, within, at) is = ap (λ o. option_or o (first_of give xs)) (ap give at ∙ is)
first_unique {A} {B} give (w ∷ xs) y one x (suc k, within, at) is =
    by (give w) refl (first_unique give xs y (λ v in_it z gives. one v (suc in_it.0, (let l = in_it.1 in omega (arith, l)), in_it.2) z gives) x (k, (let lt : k < length xs = omega (arith, within) in lt), at) is)
  where
    by : (o : Option B) → give w ≡ o → first_of give xs ≡ Some y → option_or (give w) (first_of give xs) ≡ Some y
    by None here rest = ap (λ o. option_or o (first_of give xs)) here ∙ rest
    by (Some z) here rest = ap (λ o. option_or o (first_of give xs)) here ∙ ap Some (one w (0, omega arith, refl) z here)

-- Where a test holds of some member, one of which it holds is there.
any_in : {A : Type 0} (test : A → Bool) (xs : List A) → list_any test xs ≡ true → (x : A) × Contains xs x × (test x ≡ true)
any_in test [] is = absurd (false≢true is)
any_in {A} test (x ∷ xs) is = by (test x) refl is (any_in test xs)
  where
    by : (b : Bool) → test x ≡ b → (b || list_any test xs) ≡ true → (list_any test xs ≡ true → (z : A) × Contains xs z × (test z ≡ true)) → (z : A) × Contains (x ∷ xs) z × (test z ≡ true)
    by true here is later = (x, (0, omega arith, refl), here)
    by false here is later = let there = later is in (there.0, (suc there.1.0, (let l = there.1.1 in omega (arith, l)), there.1.2), there.2)

any_of : {A : Type 0} (test : A → Bool) (xs : List A) (x : A) → Contains xs x → test x ≡ true → list_any test xs ≡ true
any_of test [] x there is = absurd (let l = there.1 in omega (arith, l))
any_of test (y ∷ xs) x (zero, within, at) is = ap (λ b. b || list_any test xs) (ap test at ∙ is)
any_of test (y ∷ xs) x (suc k, within, at) is = by (test y) (any_of test xs x (k, (let lt : k < length xs = omega (arith, within) in lt), at) is)
  where
    by : (b : Bool) → list_any test xs ≡ true → (b || list_any test xs) ≡ true
    by true later = refl
    by false later = later

-- ---- what is shown below a bound is kept

module _ (id : List ℕ) (birth : ℕ) (one other : Copies) (agree : AgreeOn id birth other) (bound : ℕ) (shown : (n : ℕ) (x : OpenBlock) → n < bound → IsOfNode id birth x.head → Shows one n x → Shows other n x) where
  part_is : (first : Head) (n p : ℕ) (copy : List (Option OpenBlock)) (block : OpenBlock) → part_in first n p copy ≡ Some block → (block_in copy (n + p) ≡ Some block) × (continues first p block.head ≡ true)
  part_is first n p copy block is =
      let at = and_then_some (part_if first p) (block_in copy (n + p)) block is in
      let passed = cond_some (continues first p at.0.head) (Some at.0) block at.2 in
      let same : at.0 ≡ block = same_Some at.0 block passed.1 in
      (at.1 ∙ ap Some same, subst (λ (b : OpenBlock). continues first p b.head ≡ true) same passed.0)

  part_kept : (first : Head) (n p : ℕ) (block : OpenBlock) → n + p < bound → IsOfNode id birth first → part_of one first n p ≡ Some block → part_of other first n p ≡ Some block
  part_kept first n p block low of is =
      let found = first_in (part_in first n p) one block is in
      let part = part_is first n p found.0 block found.2 in
      let of_block = part_of_node id birth first p block.head of part.1 in
      let there = shown (n + p) block low of_block (found.0, found.1, part.0) in
      first_unique (part_in first n p) other block
      (λ x in_it z gives.
      let another = part_is first n p x z gives in
      agree (n + p) x there.0 in_it there.1 z block another.0 there.2 (part_of_node id birth first p z.head of another.1) of_block)
      there.0 there.1 (ap (option_and_then (part_if first p)) there.2 ∙ ap (λ b. cond b (Some block) None) part.1)

  parts_kept : (first : Head) (n more p : ℕ) (rest : List ℕ) → n + (p + more) ≤ bound → IsOfNode id birth first → parts_from one first n more p ≡ Some rest → parts_from other first n more p ≡ Some rest
  parts_kept first n zero p rest few of is = is
  parts_kept first n (suc more) p rest few of is =
      let found = and_then_some (λ (block : OpenBlock). option_map (λ r. block.payload ++ r) (parts_from one first n more (suc p))) (part_of one first n p) rest is in
      let behind = map_some (λ r. found.0.payload ++ r) (parts_from one first n more (suc p)) rest found.2 in
      ap (option_and_then (λ (block : OpenBlock). option_map (λ r. block.payload ++ r) (parts_from other first n more (suc p)))) (part_kept first n p found.0 (omega (arith, few)) of found.1)
      ∙ ap (option_map (λ r. found.0.payload ++ r)) (parts_kept first n more (suc p) behind.0 (omega (arith, few)) of behind.1) ∙ ap Some behind.2

  begun_first : (copies : Copies) (n : ℕ) (first : OpenBlock) (set : StoredSet) → set_begun copies id birth n first ≡ Some set → IsOfNode id birth first.head
  begun_first copies n first set is =
      begun_of_node id birth n first.head (cond_some (begins id birth n first.head) (option_and_then (λ rest. set_with n first.head (first.payload ++ rest)) (parts_from copies first.head n (first.head.parts - 1) 1)) set is).0

  begun_kept : (n : ℕ) (first : OpenBlock) (set : StoredSet) → n + set.blocks ≤ bound → set_begun one id birth n first ≡ Some set → set_begun other id birth n first ≡ Some set
  begun_kept n first set few is =
      let fields = set_begun_is one id birth n first set is in
      let many = fields.blocks in
      let some = fields.some in
      let passed = cond_some (begins id birth n first.head) (option_and_then (λ rest. set_with n first.head (first.payload ++ rest)) (parts_from one first.head n (first.head.parts - 1) 1)) set is in
      let found = and_then_some (λ rest. set_with n first.head (first.payload ++ rest)) (parts_from one first.head n (first.head.parts - 1) 1) set passed.1 in
      ap (λ b. cond b (option_and_then (λ rest. set_with n first.head (first.payload ++ rest)) (parts_from other first.head n (first.head.parts - 1) 1)) None) passed.0
      ∙ ap (option_and_then (λ rest. set_with n first.head (first.payload ++ rest))) (parts_kept first.head n (first.head.parts - 1) 1 found.0 (omega (arith, few, many, some)) (begun_of_node id birth n first.head passed.0) found.1)
      ∙ found.2

  -- A set of the one that ends by then is the other's.
  set_kept : (n : ℕ) (set : StoredSet) → n + set.blocks ≤ bound → set_at one id birth n ≡ Some set → set_at other id birth n ≡ Some set
  set_kept n set few is =
      let found = first_in (set_from one id birth n) one set is in
      let begun = set_from_is one id birth n found.0 set found.2 in
      let fields = set_begun_is one id birth n begun.0 set begun.2 in
      let many = fields.blocks in
      let some = fields.some in
      let of = begun_first one n begun.0 set begun.2 in
      let there = shown n begun.0 (omega (arith, few, many, some)) of (found.0, found.1, begun.1) in
      let kept = begun_kept n begun.0 set few begun.2 in
      first_unique (set_from other id birth n) other set
      (λ x in_it z gives.
      let another = set_from_is other id birth n x z gives in
      let same : another.0 ≡ begun.0 = agree n x there.0 in_it there.1 another.0 begun.0 another.1 there.2 (begun_first other n another.0 z another.2) of in
      same_Some z set (sym (subst (λ (b : OpenBlock). set_begun other id birth n b ≡ Some z) same another.2) ∙ kept))
      there.0 there.1 (ap (option_and_then (set_begun other id birth n)) {x = block_in there.0 n} there.2 ∙ kept)

  -- Where one copy of the one shows the head of a set, one of the other does.
  heads_kept : (n : ℕ) → n < bound → list_any (shows_head id birth n) one ≡ true → list_any (shows_head id birth n) other ≡ true
  heads_kept n low is =
      let any = any_in (shows_head id birth n) one is in
      let head = head_shown (block_in any.0 n) any.2 in
      let there = shown n head.0 low (head_of_node id birth n head.0.head head.2) (any.0, any.1, head.1) in
      any_of (shows_head id birth n) other there.0 there.1 (ap (λ o. option_map_or (λ (block : OpenBlock). is_set_head id birth n block.head) o false) there.2 ∙ head.2)
    where
      head_shown : (o : Option OpenBlock) → option_map_or (λ (block : OpenBlock). is_set_head id birth n block.head) o false ≡ true → (x : OpenBlock) × (o ≡ Some x) × (is_set_head id birth n x.head ≡ true)
      head_shown None is = absurd (false≢true is)
      head_shown (Some x) is = (x, refl, is)

-- ---- what is lost

module _ (id : List ℕ) (birth : ℕ) (one other : Copies) (agree : AgreeOn id birth one) (lost : (n : ℕ) (x : OpenBlock) → Shows other n x → Shows one n x) where
  -- Copies that have lost blocks go on agreeing.
  pub agree_still : AgreeOn id birth other
  agree_still n c d in_c in_d x y at_x at_y of_x of_y =
      let first = lost n x (c, in_c, at_x) in
      let second = lost n y (d, in_d, at_y) in
      agree n first.0 second.0 first.1 second.1 x y first.2 second.2 of_x of_y

  -- They hold no set that wasn't there,
  none_new : (n : ℕ) → set_at one id birth n ≡ None → set_at other id birth n ≡ None
  none_new n none = by (set_at other id birth n) refl
    where
      by : (o : Option StoredSet) → set_at other id birth n ≡ o → o ≡ None
      by None at = refl
      by (Some set) at = absurd (none-some set (sym none ∙ set_kept id birth other one agree (n + set.blocks) (λ k x low of shows. lost k x shows) n set (omega arith) at))

  -- and show no head of one.
  no_head : (more n : ℕ) → first_head one id birth more n ≡ None → first_head other id birth more n ≡ None
  no_head zero n none = refl
  no_head (suc more) n none = by (list_any (shows_head id birth n) other) refl (list_any (shows_head id birth n) one) refl none (no_head more (suc n))
    where
      by : (b : Bool) → list_any (shows_head id birth n) other ≡ b → (t : Bool) → list_any (shows_head id birth n) one ≡ t → cond t (Some n) (first_head one id birth more (suc n)) ≡ None
          → (first_head one id birth more (suc n) ≡ None → first_head other id birth more (suc n) ≡ None) → cond b (Some n) (first_head other id birth more (suc n)) ≡ None
      by false shown false had none later = later none
      by false shown true had none later = absurd (none-some n (sym none))
      by true shown true had none later = absurd (none-some n (sym none))
      by true shown false had none later = absurd (false≢true (sym had ∙ heads_kept id birth other one agree (suc n) (λ k x low of shows. lost k x shows) n (omega arith) shown))

  module _ (found : StoredSets) (is : sets_in one id birth ≡ Ok found) (kept : (n : ℕ) (x : OpenBlock) → n < found.end → IsOfNode id birth x.head → Shows one n x → Shows other n x) where
    from_same : (more n : ℕ) → (sets_from one id birth more n).end ≤ found.end → sets_from other id birth more n ≡ sets_from one id birth more n
    from_same zero n within = refl
    from_same (suc more) n within = by (set_at one id birth n) refl within (λ k. from_same more k)
      where
        by : (o : Option StoredSet) → set_at one id birth n ≡ o → (found_by one id birth more n o).end ≤ found.end
            → ((k : ℕ) → (sets_from one id birth more k).end ≤ found.end → sets_from other id birth more k ≡ sets_from one id birth more k)
            → found_by other id birth more n (set_at other id birth n) ≡ found_by one id birth more n o
        by None at within further = ap (found_by other id birth more n) (none_new n at)
        by (Some set) at within further =
            let ends : n + set.blocks ≤ found.end = omega (arith, ends_later one id birth more (n + set.blocks), within) in
            ap (found_by other id birth more n) (set_kept id birth one other agree_still found.end kept n set ends at)
            ∙ ap (λ (tail : StoredSets). record { sets = set ∷ tail.sets; end = tail.end }) (further (n + set.blocks) within)

    -- They hold the same sets.
    pub held_still : sets_in other id birth ≡ Ok found
    unfolding sets_in
    held_still =
        let are = sets_in_is one id birth found is in
        let all : sets_from one id birth 16 0 ≡ found = are.sets in
        let same : sets_from other id birth 16 0 ≡ found = from_same 16 0 (let end : (sets_from one id birth 16 0).end ≡ found.end = ap (λ (f : StoredSets). f.end) all in omega (arith, end)) ∙ all in
        let none : first_head other id birth (16 - suc found.end) (suc found.end) ≡ first_head one id birth (16 - suc found.end) (suc found.end) = no_head (16 - suc found.end) (suc found.end) are.none ∙ sym are.none in
        ap (λ (f : StoredSets). if_some f (first_head other id birth (16 - suc f.end) (suc f.end)) f.sets) same
        ∙ ap (λ gap. if_some found gap found.sets) none
        ∙ sym (ap (λ (f : StoredSets). if_some f (first_head one id birth (16 - suc f.end) (suc f.end)) f.sets) all)
        ∙ is
