-- A set that is written behind the sets of a node joins them, and the sets before it stay.
use Rattle.std.proofs.Common.{◌≡◌, ⊎_elim, ℕ, zero, suc, ◌+◌, ◌-◌, ◌<◌, ◌≤◌, Bool, true, false, cond, List, [], ◌∷◌, ◌++◌, Option, Some, None, Ok, refl, ap, ◌∙◌, arith}
use Rattle.std.specs.Prelude.{◌||◌, option_and_then, option_map}
use Rattle.std.specs.Option.{option_map_or, option_or}
use Rattle.std.specs.List.{AllZip, list_any}
use Rattle.std.proofs.lemmas.Bool.{cases_lt, false_from_ne_true}
use Rattle.sealed_block.specs.declared.heads.Head.{Head}
use Rattle.node_store.specs.declared.opening.OpenBlock.{OpenBlock}
use Rattle.node_store.specs.declared.sets.StoredSet.{StoredSet}
use Rattle.node_store.specs.declared.sets.StoredSets.{StoredSets}
use Rattle.node_store.specs.Copies.{block_in}
use Rattle.sealed_block.specs.Parts.{continues, continues-is}
use Rattle.node_store.specs.StoredSets.{Copies, begins, first_of, is_set_head, part_if, part_in, part_of, parts_from, set_at, set_begun, set_from, set_with, sets_from, sets_in, shows_head, with_set}
use Rattle.node_store.proofs.Stored.{found_by, ends_here, ends_later, first_head_none, no_heads_no_set, set_at_is, set_begun_is, set_from_is, sets_in_gives, sets_in_is}

-- A copy that has new blocks from block n on, the first of which is this one, and is elsewhere as it was.
pub record Extends (n end : ℕ) (planned : OpenBlock) (old new : List (Option OpenBlock)) : Type 0 where
  pub before : (k : ℕ) → k < n → block_in new k ≡ block_in old k
  pub here : block_in new n ≡ Some planned
  pub behind : (k : ℕ) → end ≤ k → block_in new k ≡ block_in old k

module _ {A B : Type 0} (R : A → A → Type 0) where
  -- Functions that agree on related members find the same first result,
  pub first_same : (f g : A → Option B) → ((x y : A) → R x y → g y ≡ f x) → (xs ys : List A) → AllZip R xs ys → first_of g ys ≡ first_of f xs
  first_same f g same [] [] all = refl
  first_same f g same [] (y ∷ ys) all = absurd all
  first_same f g same (x ∷ xs) [] all = absurd all
  first_same f g same (x ∷ xs) (y ∷ ys) all =
      ap (λ o. option_or o (first_of g ys)) (same x y all.0) ∙ ap (λ o. option_or (f x) o) (first_same f g same xs ys all.1)

  -- and one that gives nothing on them finds none.
  pub first_nothing : (g : A → Option B) → ((x y : A) → R x y → g y ≡ None) → (xs ys : List A) → AllZip R xs ys → first_of g ys ≡ None
  first_nothing g none [] [] all = refl
  first_nothing g none [] (y ∷ ys) all = absurd all
  first_nothing g none (x ∷ xs) [] all = absurd all
  first_nothing g none (x ∷ xs) (y ∷ ys) all = ap (λ o. option_or o (first_of g ys)) (none x y all.0) ∙ first_nothing g none xs ys all.1

  -- What is found among the first ones is found among the second ones, where each member's result stays.
  pub first_kept : (f g : A → Option B) (b : B) → ((x y : A) → R x y → f x ≡ None → g y ≡ None) → ((x y : A) → R x y → f x ≡ Some b → g y ≡ Some b)
      → (xs ys : List A) → AllZip R xs ys → first_of f xs ≡ Some b → first_of g ys ≡ Some b
  first_kept f g b none some [] [] all is = is
  first_kept f g b none some [] (y ∷ ys) all is = absurd all
  first_kept f g b none some (x ∷ xs) [] all is = absurd all
  first_kept f g b none some (x ∷ xs) (y ∷ ys) all is = by (f x) refl is (first_kept f g b none some xs ys all.1)
    where
      by : (o : Option B) → f x ≡ o → option_or o (first_of f xs) ≡ Some b → (first_of f xs ≡ Some b → first_of g ys ≡ Some b) → option_or (g y) (first_of g ys) ≡ Some b
      by None at rest further = ap (λ o. option_or o (first_of g ys)) (none x y all.0 at) ∙ further rest
      by (Some z) at rest further = ap (λ o. option_or o (first_of g ys)) (some x y all.0 (at ∙ rest))

module _ {A : Type 0} (R : A → A → Type 0) where
  -- A test that agrees on related members agrees on the lists.
  pub any_same : (f g : A → Bool) → ((x y : A) → R x y → g y ≡ f x) → (xs ys : List A) → AllZip R xs ys → list_any g ys ≡ list_any f xs
  any_same f g same [] [] all = refl
  any_same f g same [] (y ∷ ys) all = absurd all
  any_same f g same (x ∷ xs) [] all = absurd all
  any_same f g same (x ∷ xs) (y ∷ ys) all =
      ap (λ b. b || list_any g ys) (same x y all.0) ∙ ap (λ b. f x || b) (any_same f g same xs ys all.1)

module _ (n end : ℕ) (planned : OpenBlock) (part_0 : planned.head.part ≡ 0) (id : List ℕ) (birth : ℕ) (old new : Copies) (are : AllZip (Extends n end planned) old new) where
  abbrev R : List (Option OpenBlock) → List (Option OpenBlock) → Type 0
  R = Extends n end planned

  -- The parts before the new blocks stay,
  part_stays : (first : Head) (k p : ℕ) → k + p < n → part_of new first k p ≡ part_of old first k p
  part_stays first k p lt = first_same R (part_in first k p) (part_in first k p) (λ x y r. ap (option_and_then (part_if first p)) (r.before (k + p) lt)) old new are

  part_0_continues_none : (first : Head) (p : ℕ) → 0 < p → continues first p planned.head ≡ false
  part_0_continues_none first p some = false_from_ne_true _ (λ is. omega (arith, (continues-is first p planned.head is).part, part_0, some))

  -- and the first new block is no later part of a set before it.
  part_ends : (first : Head) (k p : ℕ) → 0 < p → k + p ≡ n → part_of new first k p ≡ None
  part_ends first k p some at = first_nothing R (part_in first k p) (λ x y r.
      ap (option_and_then (part_if first p)) (ap (block_in y) at ∙ r.here) ∙ ap (λ b. cond b (Some planned) None) (part_0_continues_none first p some)) old new are

  parts_stay : (first : Head) (k more p : ℕ) → k + p + more ≤ n → parts_from new first k more p ≡ parts_from old first k more p
  parts_stay first k zero p le = refl
  parts_stay first k (suc more) p le =
      ap (option_and_then (λ block. option_map (λ rest. block.payload ++ rest) (parts_from new first k more (suc p)))) (part_stays first k p (omega (arith, le)))
      ∙ ap (λ o. option_and_then (λ (block : OpenBlock). option_map (λ rest. block.payload ++ rest) o) (part_of old first k p)) (parts_stay first k more (suc p) (omega (arith, le)))

  nothing_then : (o : Option OpenBlock) (rest : Option (List ℕ)) → rest ≡ None → option_and_then (λ (block : OpenBlock). option_map (λ r. block.payload ++ r) rest) o ≡ None
  nothing_then None rest none = refl
  nothing_then (Some block) rest none = ap (option_map (λ r. block.payload ++ r)) none

  parts_end : (first : Head) (k more p : ℕ) → 0 < p → k + p ≤ n → n < k + p + more → parts_from new first k more p ≡ None
  parts_end first k zero p some le over = absurd (omega (arith, le, over))
  parts_end first k (suc more) p some le over = ⊎_elim
      (λ (lt : k + p < n). nothing_then (part_of new first k p) (parts_from new first k more (suc p)) (parts_end first k more (suc p) (omega arith) (omega (arith, lt)) (omega (arith, over))))
      (λ (ge : n ≤ k + p). ap (option_and_then (λ block. option_map (λ rest. block.payload ++ rest) (parts_from new first k more (suc p)))) (part_ends first k p some (omega (arith, le, ge))))
      (cases_lt (k + p) n)

  begun_stays : (k : ℕ) (first : OpenBlock) → k < n → k + first.head.parts ≤ n → set_begun new id birth k first ≡ set_begun old id birth k first
  begun_stays k first lt le =
      ap (λ o. cond (begins id birth k first.head) (option_and_then (λ rest. set_with k first.head (first.payload ++ rest)) o) None)
      (parts_stay first.head k (first.head.parts - 1) 1 (omega (arith, lt, le)))

  shut : (b : Bool) (o : Option StoredSet) → o ≡ None → cond b o None ≡ None
  shut true o is = is
  shut false o is = refl

  begun_ends : (k : ℕ) (first : OpenBlock) → k < n → n < k + first.head.parts → set_begun new id birth k first ≡ None
  begun_ends k first lt over =
      shut (begins id birth k first.head) _
      (ap (option_and_then (λ rest. set_with k first.head (first.payload ++ rest))) (parts_end first.head k (first.head.parts - 1) 1 (omega arith) (omega (arith, lt)) (omega (arith, over))))

  from_none : (k : ℕ) → k < n → (x y : List (Option OpenBlock)) → R x y → set_from old id birth k x ≡ None → set_from new id birth k y ≡ None
  from_none k lt x y r is = ap (option_and_then (set_begun new id birth k)) (r.before k lt) ∙ by (block_in x k) is
    where
      by : (o : Option OpenBlock) → option_and_then (set_begun old id birth k) o ≡ None → option_and_then (set_begun new id birth k) o ≡ None
      by None at = refl
      by (Some first) at = ⊎_elim
          (λ (over : n < k + first.head.parts). begun_ends k first lt over)
          (λ (le : k + first.head.parts ≤ n). begun_stays k first lt le ∙ at)
          (cases_lt n (k + first.head.parts))

  from_some : (k : ℕ) (set : StoredSet) → k < n → k + set.blocks ≤ n → (x y : List (Option OpenBlock)) → R x y → set_from old id birth k x ≡ Some set → set_from new id birth k y ≡ Some set
  from_some k set lt le x y r is =
      let there = set_from_is old id birth k x set is in
      let begun = set_begun_is old id birth k there.0 set there.2 in
      ap (option_and_then (set_begun new id birth k)) (r.before k lt ∙ there.1)
      ∙ begun_stays k there.0 lt (omega (arith, le, begun.blocks)) ∙ there.2

  -- A set before the new blocks stays.
  set_stays : (k : ℕ) (set : StoredSet) → k < n → k + set.blocks ≤ n → set_at old id birth k ≡ Some set → set_at new id birth k ≡ Some set
  set_stays k set lt le is = first_kept R (set_from old id birth k) (set_from new id birth k) set (from_none k lt) (from_some k set lt le) old new are is

  module _ (set : StoredSet) (there : set_at new id birth n ≡ Some set) (blocks : n + set.blocks ≡ end) (some : n < end) (fits : end ≤ 16)
      (heads : (k : ℕ) → end ≤ k → list_any (shows_head id birth k) new ≡ false) where
    abbrev all_sets : StoredSets → StoredSets
    all_sets found = record { sets = found.sets ++ set ∷ []; end = end }

    -- The sets from a block on are those that were there, and the new one.
    joins : (more k : ℕ) (found : StoredSets) → sets_from old id birth more k ≡ found → found.end ≡ n → 16 ≤ k + more → sets_from new id birth more k ≡ all_sets found
    joins zero k found is at enough = absurd (omega (arith, ap (λ (f : StoredSets). f.end) is, at, enough, some, fits))
    joins (suc more) k found is at enough = by (set_at old id birth k) refl is (λ j tail. joins more j tail)
      where
        last : k ≡ n → [] ≡ found.sets → found_by new id birth more k (set_at new id birth k) ≡ all_sets found
        last e none =
            ap (found_by new id birth more k) (ap (set_at new id birth) e ∙ there)
            ∙ ap (with_set set) (ap (sets_from new id birth more) (let s : k + set.blocks ≡ end = omega (arith, e, blocks) in s) ∙ ends_here new id birth more end (no_heads_no_set new new id birth end (heads end (omega arith))))
            ∙ ap (λ (sets : List StoredSet). record { sets = sets ++ set ∷ []; end = end }) none

        by : (o : Option StoredSet) → set_at old id birth k ≡ o → found_by old id birth more k o ≡ found
            → ((j : ℕ) (tail : StoredSets) → sets_from old id birth more j ≡ tail → tail.end ≡ n → 16 ≤ j + more → sets_from new id birth more j ≡ all_sets tail) → found_by new id birth more k (set_at new id birth k) ≡ all_sets found
        by None none given further = last (ap (λ (f : StoredSets). f.end) given ∙ at) (ap (λ (f : StoredSets). f.sets) given)
        by (Some s) here given further =
            let begun = (set_at_is old id birth k s here).1 in
            let tail = sets_from old id birth more (k + s.blocks) in
            let ends : tail.end ≡ n = ap (λ (f : StoredSets). f.end) given ∙ at in
            let later : k + s.blocks ≤ tail.end = ends_later old id birth more (k + s.blocks) in
            ap (found_by new id birth more k) (set_stays k s (omega (arith, later, ends, begun.blocks, begun.some)) (omega (arith, later, ends)) here)
            ∙ ap (with_set s) (further (k + s.blocks) tail refl ends (omega (arith, enough, begun.blocks, begun.some)))
            ∙ ap (λ (sets : List StoredSet). record { sets = sets ++ set ∷ []; end = end }) (ap (λ (f : StoredSets). f.sets) given)

    first_is : (sets : List StoredSet) → (s : StoredSet) × (rest : List StoredSet) × (sets ++ set ∷ [] ≡ s ∷ rest)
    first_is [] = (set, [], refl)
    first_is (s ∷ sets) = (s, sets ++ set ∷ [], refl)

    -- So are the sets of the node.
    pub all_join : (sets : List StoredSet) → sets_in old id birth ≡ Ok (record { sets = sets; end = n }) → sets_in new id birth ≡ Ok (record { sets = sets ++ set ∷ []; end = end })
    all_join sets is =
        let found = sets_in_is old id birth (record { sets = sets; end = n }) is in
        let one = first_is sets in
        sets_in_gives new id birth (record { sets = sets ++ set ∷ []; end = end }) one.0 one.1
        (record {
          sets = joins 16 0 (record { sets = sets; end = n }) found.sets refl (omega arith);
          none = first_head_none new id birth (16 - suc end) (suc end) (λ k le. heads k (omega (arith, le)));
        }) one.2

  -- Behind the new blocks no head is shown, where none was.
  pub no_heads : n < end → ((k : ℕ) → n < k → list_any (shows_head id birth k) old ≡ false) → (k : ℕ) → end ≤ k → list_any (shows_head id birth k) new ≡ false
  no_heads some none k le =
      any_same R (shows_head id birth k) (shows_head id birth k) (λ x y r. ap (λ o. option_map_or (λ (block : OpenBlock). is_set_head id birth k block.head) o false) (r.behind k le)) old new are
      ∙ none k (omega (arith, some, le))
