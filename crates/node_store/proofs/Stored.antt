-- What the definition of stored sets finds, step by step.
use Rattle.std.proofs.Common.{◌≡◌, ℕ, zero, suc, ◌+◌, ◌-◌, ◌<◌, ◌≤◌, Bool, true, false, cond, ◌&&◌, List, [], ◌∷◌, ◌++◌, Option, Some, None, Ok, ◌⊎◌, ⊎_elim, inl, inr, refl, ap, sym, ◌∙◌, subst, arith}
use Rattle.std.specs.Prelude.{nat_le, nat_lt, option_and_then}
use Rattle.std.specs.Option.{option_map_or, option_or}
use Rattle.std.specs.List.{list_any}
use Rattle.std.proofs.lemmas.Bool.{and_left, and_parts, cases_lt, false≢true, leb-true, ltb-true, or_parts}
use Rattle.sealed_block.specs.declared.heads.Head.{Head}
use Rattle.node_store.specs.declared.opening.OpenBlock.{OpenBlock}
use Rattle.node_store.specs.declared.sets.StoredSet.{StoredSet}
use Rattle.node_store.specs.declared.sets.StoredSets.{StoredSets}
use Rattle.std.specs.Str.{bytes_eq}
use Rattle.sha2.specs.Sha256.{sha256}
use Rattle.sealed_block.specs.Parts.{continues}
use Rattle.node_store.specs.Copies.{block_in}
use Rattle.node_store.specs.StoredSets.{Copies, begins, first_head, first_of, if_some, is_set_head, parts_from, set_at, set_begun, set_from, set_with, sets_from, sets_in, shows_head, with_set, without_gap}

-- What is given only where a test holds.
pub cond_some : {A : Type 0} (b : Bool) (o : Option A) (y : A) → cond b o None ≡ Some y → (b ≡ true) × (o ≡ Some y)
cond_some true o y is = (refl, is)
cond_some false o y is = cc

pub and_then_some : {A B : Type 0} (f : A → Option B) (o : Option A) (y : B) → option_and_then f o ≡ Some y → (x : A) × (o ≡ Some x) × (f x ≡ Some y)
and_then_some f None y is = cc
and_then_some f (Some x) y is = (x, refl, is)

-- the sets from a block on, by the set that is there, if one is
abbrev pub found_by : Copies → List ℕ → ℕ → ℕ → ℕ → Option StoredSet → StoredSets
found_by copies id birth more n o = option_map_or (λ s. with_set s (sets_from copies id birth more (n + s.blocks))) o (record { sets = []; end = n })

-- A set that begins says which block it is and where it ends.
pub record Begun (n : ℕ) (first : Head) (set : StoredSet) : Type 0 where
  pub block : set.block ≡ n
  pub blocks : set.blocks ≡ first.parts
  pub some : n < n + first.parts
  pub fits : n + first.parts ≤ 16

set_with_is : (n : ℕ) (first : Head) (payload : List ℕ) (set : StoredSet) → set_with n first payload ≡ Some set → (set.block ≡ n) × (set.blocks ≡ first.parts)
set_with_is n first payload set is =
    let made : StoredSet = record { block = n; blocks = first.parts; sequence = first.sequence; payload = payload } in
    let there : Some made ≡ Some set = (cond_some (bytes_eq first.whole (sha256 payload)) (Some made) set is).1 in
    let same : made ≡ set = cc in
    (ap (λ (s : StoredSet). s.block) (sym same), ap (λ (s : StoredSet). s.blocks) (sym same))

pub set_begun_is : (copies : Copies) (id : List ℕ) (birth n : ℕ) (first : OpenBlock) (set : StoredSet) → set_begun copies id birth n first ≡ Some set → Begun n first.head set
set_begun_is copies id birth n first set is =
    let head = first.head in
    let give : List ℕ → Option StoredSet = λ rest. set_with n first.head (first.payload ++ rest) in
    let rest : Option (List ℕ) = parts_from copies first.head n (first.head.parts - 1) 1 in
    let begun = cond_some (begins id birth n first.head) (option_and_then give rest) set is in
    let a = and_parts (is_set_head id birth n head && continues head 0 head && nat_lt n (n + head.parts)) (nat_le (n + head.parts) 16) begun.0 in
    let b = and_parts (is_set_head id birth n head && continues head 0 head) (nat_lt n (n + head.parts)) a.0 in
    let joined = and_then_some give rest set begun.1 in
    let fields = set_with_is n first.head (first.payload ++ joined.0) set joined.2 in
    record { block = fields.0; blocks = fields.1; some = ltb-true n (n + first.head.parts) b.1; fits = leb-true (n + first.head.parts) 16 a.1 }

pub set_from_is : (copies : Copies) (id : List ℕ) (birth n : ℕ) (copy : List (Option OpenBlock)) (set : StoredSet) → set_from copies id birth n copy ≡ Some set
    → (first : OpenBlock) × (block_in copy n ≡ Some first) × (set_begun copies id birth n first ≡ Some set)
set_from_is copies id birth n copy set is = and_then_some (set_begun copies id birth n) (block_in copy n) set is

-- Where a function gives a result on a list, it gives it on a member.
pub first_of_is : {A B : Type 0} (give : A → Option B) (xs : List A) (y : B) → first_of give xs ≡ Some y → (x : A) × (give x ≡ Some y)
first_of_is give [] y is = cc
first_of_is {A} {B} give (x ∷ xs) y is = by (give x) refl is (first_of_is give xs y)
  where
    by : (o : Option B) → give x ≡ o → option_or o (first_of give xs) ≡ Some y → (first_of give xs ≡ Some y → (z : A) × (give z ≡ Some y)) → (z : A) × (give z ≡ Some y)
    by None at rest further = further rest
    by (Some z) at rest further = (x, at ∙ rest)

pub set_at_is : (copies : Copies) (id : List ℕ) (birth n : ℕ) (set : StoredSet) → set_at copies id birth n ≡ Some set → (first : Head) × Begun n first set
set_at_is copies id birth n set is =
    let copy = first_of_is (set_from copies id birth n) copies set is in
    let first = set_from_is copies id birth n copy.0 set copy.1 in
    (first.0.head, set_begun_is copies id birth n first.0 set first.2)

-- The sets end no earlier than where they begin.
pub ends_later : (copies : Copies) (id : List ℕ) (birth more n : ℕ) → n ≤ (sets_from copies id birth more n).end
ends_later copies id birth zero n = omega arith
ends_later copies id birth (suc more) n = by (set_at copies id birth n) (λ k. ends_later copies id birth more k)
  where
    by : (o : Option StoredSet) → ((k : ℕ) → k ≤ (sets_from copies id birth more k).end) → n ≤ (option_map_or (λ set. with_set set (sets_from copies id birth more (n + set.blocks))) o (record { sets = []; end = n })).end
    by None later = omega arith
    by (Some set) later = omega (arith, later (n + set.blocks))

-- They end within the bucket.
pub ends_within : (copies : Copies) (id : List ℕ) (birth more n : ℕ) → n ≤ 16 → (sets_from copies id birth more n).end ≤ 16
ends_within copies id birth zero n le = le
ends_within copies id birth (suc more) n le = by (set_at copies id birth n) refl (λ k. ends_within copies id birth more k)
  where
    by : (o : Option StoredSet) → set_at copies id birth n ≡ o → ((k : ℕ) → k ≤ 16 → (sets_from copies id birth more k).end ≤ 16) → (option_map_or (λ set. with_set set (sets_from copies id birth more (n + set.blocks))) o (record { sets = []; end = n })).end ≤ 16
    by None at within = le
    by (Some set) at within =
        let begun = (set_at_is copies id birth n set at).1 in
        within (n + set.blocks) (omega (arith, begun.blocks, begun.fits))

-- A copy without the head of a set begins none.
pub no_head_no_set : (copies : Copies) (id : List ℕ) (birth n : ℕ) (copy : List (Option OpenBlock)) → shows_head id birth n copy ≡ false → set_from copies id birth n copy ≡ None
no_head_no_set copies id birth n copy none = by (block_in copy n) none
  where
    shut : (b : Bool) (o : Option StoredSet) → b ≡ false → cond b o None ≡ None
    shut true o is = absurd (false≢true (sym is))
    shut false o is = refl

    by : (o : Option OpenBlock) → option_map_or (λ block. is_set_head id birth n block.head) o false ≡ false → option_and_then (set_begun copies id birth n) o ≡ None
    by None is = refl
    by (Some block) is =
        let head = block.head in
        let rest : Option StoredSet = option_and_then (λ rest. set_with n block.head (block.payload ++ rest)) (parts_from copies block.head n (block.head.parts - 1) 1) in
        shut (begins id birth n block.head) rest
        (and_left (is_set_head id birth n head && continues head 0 head && nat_lt n (n + head.parts)) (nat_le (n + head.parts) 16)
        (and_left (is_set_head id birth n head && continues head 0 head) (nat_lt n (n + head.parts))
        (and_left (is_set_head id birth n head) (continues head 0 head) is)))

-- Where no copy shows the head of a set, none is there.
pub no_heads_no_set : (whole copies : Copies) (id : List ℕ) (birth n : ℕ) → list_any (shows_head id birth n) copies ≡ false → first_of (set_from whole id birth n) copies ≡ None
no_heads_no_set whole [] id birth n none = refl
no_heads_no_set whole (copy ∷ copies) id birth n none =
    let parts = or_parts (shows_head id birth n copy) (list_any (shows_head id birth n) copies) none in
    ap (λ o. option_or o (first_of (set_from whole id birth n) copies)) (no_head_no_set whole id birth n copy parts.0) ∙ no_heads_no_set whole copies id birth n parts.1

-- Where none is there, the sets end.
pub ends_here : (copies : Copies) (id : List ℕ) (birth more n : ℕ) → set_at copies id birth n ≡ None → sets_from copies id birth more n ≡ record { sets = []; end = n }
ends_here copies id birth zero n none = refl
ends_here copies id birth (suc more) n none = ap (λ o. option_map_or (λ set. with_set set (sets_from copies id birth more (n + set.blocks))) o (record { sets = []; end = n })) none

-- With no head in any of the blocks there is no first one, and the other way round.
pub first_head_none : (copies : Copies) (id : List ℕ) (birth more n : ℕ) → ((k : ℕ) → n ≤ k → list_any (shows_head id birth k) copies ≡ false) → first_head copies id birth more n ≡ None
first_head_none copies id birth zero n none = refl
first_head_none copies id birth (suc more) n none =
    ap (λ b. cond b (Some n) (first_head copies id birth more (suc n))) (none n (omega arith)) ∙ first_head_none copies id birth more (suc n) (λ k le. none k (omega (arith, le)))

here_or_later : (k n : ℕ) → n ≤ k → (k ≡ n) ⊎ (suc n ≤ k)
here_or_later k n le = ⊎_elim (λ (lt : n < k). inr (let l : suc n ≤ k = omega (arith, lt) in l)) (λ (ge : k ≤ n). inl (let e : k ≡ n = omega (arith, le, ge) in e)) (cases_lt n k)

pub none_behind : (copies : Copies) (id : List ℕ) (birth more n : ℕ) → first_head copies id birth more n ≡ None → (k : ℕ) → n ≤ k → k < n + more → list_any (shows_head id birth k) copies ≡ false
none_behind copies id birth zero n none k le lt = absurd (omega (arith, le, lt))
none_behind copies id birth (suc more) n none k le lt = by (list_any (shows_head id birth n) copies) refl none (λ is later. none_behind copies id birth more (suc n) is k later (omega (arith, lt)))
  where
    same : (b : Bool) → list_any (shows_head id birth n) copies ≡ b → k ≡ n → list_any (shows_head id birth k) copies ≡ b
    same b at is = ap (λ j. list_any (shows_head id birth j) copies) is ∙ at

    by : (b : Bool) → list_any (shows_head id birth n) copies ≡ b → cond b (Some n) (first_head copies id birth more (suc n)) ≡ None
        → (first_head copies id birth more (suc n) ≡ None → suc n ≤ k → list_any (shows_head id birth k) copies ≡ false) → list_any (shows_head id birth k) copies ≡ false
    by true at is further = cc
    by false at is further = ⊎_elim (λ (e : k ≡ n). same false at e) (λ (later : suc n ≤ k). further is later) (here_or_later k n le)

-- The sets that the copies hold are those from block 0 on, and behind their end is no head.
pub record Found (copies : Copies) (id : List ℕ) (birth : ℕ) (found : StoredSets) : Type 0 where
  pub sets : sets_from copies id birth 16 0 ≡ found
  pub none : first_head copies id birth (16 - suc found.end) (suc found.end) ≡ None

pub if_some_is : (found : StoredSets) (gap : Option ℕ) (sets : List StoredSet) (answer : StoredSets) → if_some found gap sets ≡ Ok answer → (found ≡ answer) × (gap ≡ None)
if_some_is found gap [] answer is = cc
if_some_is found None (set ∷ sets) answer is = (cc, refl)
if_some_is found (Some n) (set ∷ sets) answer is = cc

pub sets_in_is : (copies : Copies) (id : List ℕ) (birth : ℕ) (found : StoredSets) → sets_in copies id birth ≡ Ok found → Found copies id birth found
unfolding sets_in
sets_in_is copies id birth found is =
    let all = sets_from copies id birth 16 0 in
    let parts = if_some_is all (first_head copies id birth (16 - suc all.end) (suc all.end)) all.sets found is in
    record { sets = parts.0; none = subst (λ (f : StoredSets). first_head copies id birth (16 - suc f.end) (suc f.end) ≡ None) parts.0 parts.1 }

if_some_gives : (found : StoredSets) (gap : Option ℕ) (set : StoredSet) (sets all : List StoredSet) → gap ≡ None → all ≡ set ∷ sets → if_some found gap all ≡ Ok found
if_some_gives found gap set sets all none is = ap (if_some found gap) is ∙ ap (without_gap found) none

pub sets_in_gives : (copies : Copies) (id : List ℕ) (birth : ℕ) (found : StoredSets) (set : StoredSet) (sets : List StoredSet) → Found copies id birth found → found.sets ≡ set ∷ sets → sets_in copies id birth ≡ Ok found
unfolding sets_in
sets_in_gives copies id birth found set sets is some =
    let gives : (f : StoredSets) → f ≡ found → if_some f (first_head copies id birth (16 - suc f.end) (suc f.end)) f.sets ≡ Ok f =
    λ (f : StoredSets) e. if_some_gives f _ set sets f.sets (subst (λ (g : StoredSets). first_head copies id birth (16 - suc g.end) (suc g.end) ≡ None) (sym e) is.none) (ap (λ (g : StoredSets). g.sets) e ∙ some) in
    gives (sets_from copies id birth 16 0) is.sets ∙ ap Ok is.sets
