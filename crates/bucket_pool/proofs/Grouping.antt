-- Groups of buckets: their members, their counts after one bucket was changed, and the search through them.
use Rattle.std.proofs.Common.{◌≡◌, ◌≢◌, ℕ, zero, suc, ◌+◌, ◌-◌, ◌*◌, ◌/◌, ◌<◌, ◌≤◌, ◌⊎◌, ⊎_elim, Bool, true, false, ◌&&◌, cond, nat_lt, min, is_some, IfSome, Option, None, Some, List, [], ◌∷◌, length, take, drop, get_or, set, refl, sym, ap, ◌∙◌, subst, arith, length-set, length-take, length-drop, get_or-set_same, get_or-set_other}
use Rattle.std.specs.List.{count_by, position, position_or_len}
use Rattle.std.proofs.lemmas.Bool.{false≢true}
use Rattle.std.proofs.lemmas.Bool.Decides.{nat_tests}
use Rattle.std.proofs.lemmas.List.{drop-set-add, drop-set-lt, drop_min, get_or-drop, get_or-take, take-set-le, take_min}
use Rattle.std.proofs.lemmas.List.Sums.{count_by-le-length, fails_before_first, get_or-le-sum_by, passes_at_first, position_or_len_is, sum_by-set}
use Rattle.bucket_pool.specs.declared.bucket.Bucket.{Bucket}
use Rattle.bucket_pool.specs.declared.groups.Group.{Group}
use Rattle.bucket_pool.specs.declared.bucket.State.{State}
use Rattle.bucket_pool.specs.declared.bucket.State.TheVariants.{Super, Journal, Node, User, Free, Waiting, Opened, Retired}
use Rattle.bucket_pool.specs.declared.groups.Want.{Want}
use Rattle.bucket_pool.specs.declared.groups.Want.TheVariants.{FreeOne, CurrentOf, RoomOf}
use Rattle.bucket_pool.specs.Buckets.{first_run, is_current_state, is_free, slots_of}
use Rattle.bucket_pool.specs.Groups.{AreCounted, count_for, fits, group_of, is_busy, is_busy_state, may_fit}
use Rattle.bucket_pool.proofs.First.{position_none, position_some}

pub group_by_cuts : {X : Type 0} (group a b : ℕ) (xs rest first : List X) → a ≡ min (length xs) (256 * group) → rest ≡ drop a xs → b ≡ min (length rest) 256 → first ≡ take b rest → first ≡ group_of group xs
group_by_cuts group a b xs rest first start tail end head =
    let whole : rest ≡ drop (256 * group) xs = tail ∙ ap (λ n. drop n xs) (let same : a ≡ min (256 * group) (length xs) = omega (arith, start) in same) ∙ drop_min (256 * group) xs in
    head ∙ ap (λ n. take n rest) (let same : b ≡ min 256 (length rest) = omega (arith, end) in same) ∙ take_min 256 rest ∙ ap (take 256) whole

take-set_within : {X : Type 0} (n : ℕ) (xs : List X) (i : ℕ) (y : X) → i < n → take n (set xs i y) ≡ set (take n xs) i y
take-set_within zero xs i y lt = absurd (omega (arith, lt))
take-set_within (suc n) [] i y lt = refl
take-set_within (suc n) (x ∷ xs) zero y lt = refl
take-set_within (suc n) (x ∷ xs) (suc i) y lt = ap (λ rest. x ∷ rest) (take-set_within n xs i y (let less : i < n = omega (arith, lt) in less))

-- the group in which a member is changed, by its place in the group
group_changed : {X : Type 0} (group r at : ℕ) (xs : List X) (y : X) → at ≡ 256 * group + r → r < 256 → group_of group (set xs at y) ≡ set (group_of group xs) r y
group_changed group r at xs y is lt =
    ap (λ n. group_of group (set xs n y)) is ∙ ap (take 256) (drop-set-add (256 * group) xs r y) ∙ take-set_within 256 (drop (256 * group) xs) r y lt

group_after : {X : Type 0} (group at : ℕ) (xs : List X) (y : X) → at < 256 * group → group_of group (set xs at y) ≡ group_of group xs
group_after group at xs y lt = ap (take 256) (drop-set-lt (256 * group) xs at y lt)

group_before : {X : Type 0} (group r at : ℕ) (xs : List X) (y : X) → at ≡ 256 * group + r → 256 ≤ r → group_of group (set xs at y) ≡ group_of group xs
group_before group r at xs y is le =
    ap (λ n. group_of group (set xs n y)) is ∙ ap (take 256) (drop-set-add (256 * group) xs r y) ∙ take-set-le 256 (drop (256 * group) xs) r y le

pub group_member : {X : Type 0} (group r : ℕ) (xs : List X) (d : X) → r < 256 → get_or (group_of group xs) r d ≡ get_or xs (256 * group + r) d
group_member group r xs d lt = get_or-take 256 (drop (256 * group) xs) r d lt ∙ get_or-drop (256 * group) xs r d

pub group_size : {X : Type 0} (group r : ℕ) (xs : List X) → r < 256 → 256 * group + r < length xs → r < length (group_of group xs)
group_size group r xs lt within =
    let cut = length-take 256 (drop (256 * group) xs) in
    let rest = length-drop (256 * group) xs in
    omega (arith, cut, rest, lt, within)

pub group_most : {X : Type 0} (group : ℕ) (xs : List X) → length (group_of group xs) ≤ 256
group_most group xs = let cut = length-take 256 (drop (256 * group) xs) in omega (arith, cut)

-- a count of a group after a bucket was changed
count_changed : {X : Type 0} (p : X → Bool) (group r at before after : ℕ) (xs : List X) (old new : X) → at ≡ 256 * group + r → r < 256 → at < length xs → old ≡ get_or xs at old
    → before ≡ count_by p (group_of group xs) → after + cond (p old) 1 0 ≡ before + cond (p new) 1 0 → after ≡ count_by p (group_of group (set xs at new))
count_changed p group r at before after xs old new is lt within read counted once =
    let inside : r < length (group_of group xs) = group_size group r xs lt (subst (λ (n : ℕ). n < length xs) is within) in
    let changed_sum = sum_by-set (λ x. cond (p x) 1 0) (group_of group xs) r new old inside in
    let here : get_or (group_of group xs) r old ≡ old = group_member group r xs old lt ∙ ap (λ n. get_or xs n old) (sym is) ∙ sym read in
    let whole = ap (count_by p) (group_changed group r at xs new is lt) in
    let same = ap (λ x. cond {A = ℕ} (p x) 1 0) here in
    sum_up (count_by p (group_of group (set xs at new))) (count_by p (set (group_of group xs) r new)) (cond (p (get_or (group_of group xs) r old)) 1 0) (cond (p old) 1 0) (cond (p new) 1 0) (count_by p (group_of group xs)) before after
    whole same changed_sum counted once
  where
    sum_up : (all some there here one was before after : ℕ) → all ≡ some → there ≡ here → some + there ≡ was + one → before ≡ was → after + here ≡ before + one → after ≡ all
    sum_up all some there here one was before after a b e d f = omega arith

pub was_counted : {X : Type 0} (p : X → Bool) (group r at count : ℕ) (xs : List X) (old : X) → at ≡ 256 * group + r → r < 256 → at < length xs → old ≡ get_or xs at old
    → count ≡ count_by p (group_of group xs) → p old ≡ true → 0 < count
was_counted p group r at count xs old is lt within read counted yes_it =
    let inside : r < length (group_of group xs) = group_size group r xs lt (subst (λ (n : ℕ). n < length xs) is within) in
    let least = get_or-le-sum_by (λ x. cond (p x) 1 0) (group_of group xs) r old inside in
    let here : get_or (group_of group xs) r old ≡ old = group_member group r xs old lt ∙ ap (λ n. get_or xs n old) (sym is) ∙ sym read in
    let one : cond {A = ℕ} (p (get_or (group_of group xs) r old)) 1 0 ≡ 1 = ap (λ x. cond {A = ℕ} (p x) 1 0) here ∙ ap (λ b. cond {A = ℕ} b 1 0) yes_it in
    omega (arith, least, one, counted)

pub count_most : {X : Type 0} (p : X → Bool) (group count : ℕ) (xs : List X) → count ≡ count_by p (group_of group xs) → count < 65536
count_most p group count xs counted =
    let most = count_by-le-length p (group_of group xs) in
    let size = group_most group xs in
    omega (arith, most, size, counted)

same_or_other : (m n : ℕ) → (m ≡ n) ⊎ ((m < n) ⊎ (n < m))
same_or_other m n = grind arith

-- the counts after a bucket and the counts of its group were changed
pub counted_put : (buckets : List Bucket) (groups : List Group) (at group : ℕ) (old new : Bucket) (before after : Group) → AreCounted buckets groups → at < length buckets → group ≡ at / 256 → old ≡ get_or buckets at old
    → before ≡ get_or groups group before → after.free + cond (is_free old) 1 0 ≡ before.free + cond (is_free new) 1 0 → after.busy + cond (is_busy old) 1 0 ≡ before.busy + cond (is_busy new) 1 0
    → AreCounted (set buckets at new) (set groups group after)
counted_put buckets groups at group old new before after counted within is read got frees busies =
    let r = at - 256 * group in
    let split : at ≡ 256 * group + r = omega (arith, is) in
    let small : r < 256 = omega (arith, is) in
    let there : group < length groups = let all = counted.covers in omega (arith, all, within, is) in
    record {
      covers = let all = counted.covers in let one = length-set buckets at new in let other = length-set groups group after in omega (arith, all, one, other);
      free_ones = each is_free (λ g. g.free) r split small there (count_changed is_free group r at before.free after.free buckets old new split small within read (ap (λ (g : Group). g.free) got ∙ counted.free_ones group before there) frees) counted.free_ones;
      busy_ones = each is_busy (λ g. g.busy) r split small there (count_changed is_busy group r at before.busy after.busy buckets old new split small within read (ap (λ (g : Group). g.busy) got ∙ counted.busy_ones group before there) busies) counted.busy_ones;
    }
  where
    each : (p : Bucket → Bool) (count : Group → ℕ) (r : ℕ) → at ≡ 256 * group + r → r < 256 → group < length groups → count after ≡ count_by p (group_of group (set buckets at new))
        → ((g : ℕ) (d : Group) → g < length groups → count (get_or groups g d) ≡ count_by p (group_of g buckets))
        → (g : ℕ) (d : Group) → g < length (set groups group after) → count (get_or (set groups group after) g d) ≡ count_by p (group_of g (set buckets at new))
    each p count r split small there here old_ones g d lt =
        let lt_old : g < length groups = subst (λ (n : ℕ). g < n) (length-set groups group after) lt in
        ⊎_elim
        (λ same. ap (λ n. count (get_or (set groups group after) n d)) same ∙ ap count (get_or-set_same groups group after d there) ∙ here ∙ ap (λ n. count_by p (group_of n (set buckets at new))) (sym same))
        (λ apart. ⊎_elim
        (λ less. let other : g ≢ group = λ e. absurd (omega (arith, less, e)) in
        ap count (get_or-set_other groups group g after d other) ∙ old_ones g d lt_old
        ∙ ap (count_by p) (sym (group_before g (at - 256 * g) at buckets new (omega (arith, split, less)) (omega (arith, split, less)))))
        (λ more. let other : g ≢ group = λ e. absurd (omega (arith, more, e)) in
        ap count (get_or-set_other groups group g after d other) ∙ old_ones g d lt_old
        ∙ ap (count_by p) (sym (group_after g at buckets new (omega (arith, split, small, more)))))
        apart)
        (same_or_other g group)

-- no member of a group passes where none is counted
pub none_of_group : {X : Type 0} (p q : X → Bool) (group k : ℕ) (xs : List X) (d : X) → ((x : X) → p x ≡ true → q x ≡ true) → count_by q (group_of group xs) ≡ 0 → 256 * group ≤ k → k < 256 * group + 256 → k < length xs → p (get_or xs k d) ≡ false
none_of_group p q group k xs d implies none from to within = choose (p (get_or xs k d)) refl
  where
    choose : (b : Bool) → p (get_or xs k d) ≡ b → b ≡ false
    choose false is = refl
    choose true is =
        let r = k - 256 * group in
        let split : k ≡ 256 * group + r = omega (arith, from) in
        let small : r < 256 = omega (arith, from, to) in
        let inside : r < length (group_of group xs) = group_size group r xs small (subst (λ (n : ℕ). n < length xs) split within) in
        let least = get_or-le-sum_by (λ x. cond (q x) 1 0) (group_of group xs) r d inside in
        let here : get_or (group_of group xs) r d ≡ get_or xs k d = group_member group r xs d small ∙ ap (λ n. get_or xs n d) (sym split) in
        let one : cond {A = ℕ} (q (get_or (group_of group xs) r d)) 1 0 ≡ 1 = ap (λ x. cond {A = ℕ} (q x) 1 0) here ∙ ap (λ b. cond {A = ℕ} b 1 0) (implies (get_or xs k d) is) in
        absurd (omega (arith, least, one, none))

-- none passes before a place: one more group in which none passes
abbrev pub AreBefore : {X : Type 0} → (X → Bool) → ℕ → List X → Type 0
AreBefore {X} p count xs = (k : ℕ) (d : X) → k < count → k < length xs → p (get_or xs k d) ≡ false

pub before_more : {X : Type 0} (p : X → Bool) (group : ℕ) (xs : List X) → AreBefore p (256 * group) xs → ((k : ℕ) (d : X) → 256 * group ≤ k → k < 256 * group + 256 → k < length xs → p (get_or xs k d) ≡ false) → AreBefore p (256 * (group + 1)) xs
before_more p group xs before here = λ k d lt within. ⊎_elim (λ less. before k d less within) (λ le. here k d le (omega (arith, lt)) within) (lt_or_le k (256 * group))
  where
    lt_or_le : (m n : ℕ) → (m < n) ⊎ (n ≤ m)
    lt_or_le m n = grind arith

-- a search that missed in a group
pub missed_in_group : {X : Type 0} (p : X → Bool) (group : ℕ) (xs : List X) → position p (group_of group xs) ≡ None → (k : ℕ) (d : X) → 256 * group ≤ k → k < 256 * group + 256 → k < length xs → p (get_or xs k d) ≡ false
missed_in_group p group xs missed = λ k d from to within.
    let r = k - 256 * group in
    let split : k ≡ 256 * group + r = omega (arith, from) in
    let small : r < 256 = omega (arith, from, to) in
    let inside : r < length (group_of group xs) = group_size group r xs small (subst (λ (n : ℕ). n < length xs) split within) in
    let past = position_none p (group_of group xs) missed in
    ap p (ap (λ n. get_or xs n d) split ∙ sym (group_member group r xs d small)) ∙ fails_before_first p (group_of group xs) r d (omega (arith, past, inside))

less_is : (m n : ℕ) → m < n → nat_lt m n ≡ true
less_is m n lt = grind (arith, nat_tests)

position_by : {X : Type 0} (p : X → Bool) (xs : List X) (at : ℕ) → at < length xs → position_or_len p xs ≡ at → position p xs ≡ Some at
position_by p xs at lt is = ap (λ n. cond (nat_lt n (length xs)) (Some n) None) is ∙ ap (λ b. cond b (Some at) None) (less_is at (length xs) lt)

not_less : (n : ℕ) → nat_lt n n ≡ false
not_less n = grind (arith, nat_tests)

less_or_not : (m n : ℕ) → (m < n) ⊎ (n ≤ m)
less_or_not m n = grind arith

-- none passes before the place where the search in a group hit
before_hit : {X : Type 0} (p : X → Bool) (group r : ℕ) (xs : List X) (d : X) → AreBefore p (256 * group) xs → r < 256 → r ≡ position_or_len p (group_of group xs) → 256 * group + r < length xs
    → (k : ℕ) → k < 256 * group + r → p (get_or xs k d) ≡ false
before_hit p group r xs d before small first within = λ k lt. ⊎_elim (λ less. before k d less (omega (arith, lt, within)))
    (λ le.
    let s = k - 256 * group in
    let split : k ≡ 256 * group + s = omega (arith, le) in
    let low : s < r = omega (arith, lt, le) in
    ap p (ap (λ n. get_or xs n d) split ∙ sym (group_member group s xs d (omega (arith, low, small)))) ∙ fails_before_first p (group_of group xs) s d (omega (arith, low, first)))
    (less_or_not k (256 * group))

hit_by : {X : Type 0} (p : X → Bool) (group r : ℕ) (xs : List X) (d : X) → AreBefore p (256 * group) xs → r ≡ position_or_len p (group_of group xs) → r < length (group_of group xs) → Some (256 * group + r) ≡ position p xs
hit_by p group r xs d before first inside =
    let most = group_most group xs in
    let cut = length-take 256 (drop (256 * group) xs) in
    let rest = length-drop (256 * group) xs in
    let small : r < 256 = omega (arith, inside, most) in
    let within : 256 * group + r < length xs = omega (arith, inside, cut, rest) in
    let here : p (get_or xs (256 * group + r) d) ≡ true =
    ap p (sym (group_member group r xs d small)) ∙ ap (λ n. p (get_or (group_of group xs) n d)) first ∙ passes_at_first p (group_of group xs) d (subst (λ (n : ℕ). n < length (group_of group xs)) first inside) in
    let place : position_or_len p xs ≡ 256 * group + r = position_or_len_is p xs (256 * group + r) d (omega (arith, within)) (before_hit p group r xs d before small first within) (λ _. here) in
    sym (position_by p xs (256 * group + r) within place)

-- a search that hit in a group
pub hit_in_group : {X : Type 0} (p : X → Bool) (group r : ℕ) (xs : List X) → AreBefore p (256 * group) xs → position p (group_of group xs) ≡ Some r → Some (256 * group + r) ≡ position p xs
hit_in_group {X = X} p group r [] before hit =
    let found = position_some p (group_of group []) r hit in
    let lt = found.1 in let cut = length-take {A = X} 256 (drop (256 * group) []) in let rest = length-drop {A = X} (256 * group) [] in absurd (omega (arith, lt, cut, rest))
hit_in_group p group r (x ∷ xs) before hit =
    let found = position_some p (group_of group (x ∷ xs)) r hit in
    hit_by p group r (x ∷ xs) x before found.0 found.1

position_past : {X : Type 0} (p : X → Bool) (xs : List X) → position_or_len p xs ≡ length xs → position p xs ≡ None
position_past p xs is = ap (λ n. cond (nat_lt n (length xs)) (Some n) None) is ∙ ap (λ b. cond b (Some (length xs)) None) (not_less (length xs))

-- none passes where none is counted
pub uncounted : {X : Type 0} (p q : X → Bool) (xs : List X) → ((x : X) → p x ≡ true → q x ≡ true) → count_by q xs ≡ 0 → None ≡ position p xs
uncounted p q [] implies none = refl
uncounted {X = X} p q (x ∷ xs) implies none =
    sym (position_past p (x ∷ xs) (position_or_len_is p (x ∷ xs) (length (x ∷ xs)) x (omega arith) (λ k lt. fails k lt (p (get_or (x ∷ xs) k x)) refl) (λ lt. absurd (omega (arith, lt)))))
  where
    fails : (k : ℕ) → k < length (x ∷ xs) → (b : Bool) → p (get_or (x ∷ xs) k x) ≡ b → b ≡ false
    fails k lt false is = refl
    fails k lt true is =
        let least = get_or-le-sum_by (λ y. cond (q y) 1 0) (x ∷ xs) k x lt in
        let one : cond {A = ℕ} (q (get_or (x ∷ xs) k x)) 1 0 ≡ 1 = ap (λ b. cond {A = ℕ} b 1 0) (implies (get_or (x ∷ xs) k x) is) in
        absurd (omega (arith, least, one, none))

-- no group has one that passes
pub none_at_all : {X : Type 0} (p : X → Bool) (groups : ℕ) (xs : List X) → length xs ≤ 256 * groups → AreBefore p (256 * groups) xs → None ≡ position p xs
none_at_all p groups [] le before = refl
none_at_all p groups (x ∷ xs) le before =
    sym (position_past p (x ∷ xs) (position_or_len_is p (x ∷ xs) (length (x ∷ xs)) x (omega arith) (λ k lt. before k x (omega (arith, lt, le)) lt) (λ lt. absurd (omega (arith, lt)))))

-- a bucket that is wanted is counted
pub fits_counted : (want : Want) (bucket : Bucket) → fits want bucket ≡ true → may_fit want bucket ≡ true
fits_counted FreeOne bucket is = is
fits_counted (CurrentOf actor) bucket is = current_busy actor bucket.state is
  where
    current_busy : (a : ℕ) (state : State) → is_current_state a state ≡ true → is_busy_state state ≡ true
    current_busy a (Opened o) is = refl
    current_busy a Super is = absurd (false≢true is)
    current_busy a Journal is = absurd (false≢true is)
    current_busy a Node is = absurd (false≢true is)
    current_busy a User is = absurd (false≢true is)
    current_busy a Free is = absurd (false≢true is)
    current_busy a (Waiting seq) is = refl
    current_busy a Retired is = absurd (false≢true is)
fits_counted (RoomOf actor count) bucket is = room_busy bucket.state is
  where
    room_busy : (state : State) → (is_current_state actor state && is_some (first_run count (slots_of state))) ≡ true → is_busy_state state ≡ true
    room_busy (Opened o) is = refl
    room_busy Super is = absurd (false≢true is)
    room_busy Journal is = absurd (false≢true is)
    room_busy Node is = absurd (false≢true is)
    room_busy User is = absurd (false≢true is)
    room_busy Free is = absurd (false≢true is)
    room_busy (Waiting seq) is = refl
    room_busy Retired is = absurd (false≢true is)

-- the counts of a group are those for what is wanted
pub counts_for : (want : Want) (buckets : List Bucket) (groups : List Group) (group : ℕ) (d : Group) → AreCounted buckets groups → group < length groups → count_for want (get_or groups group d) ≡ count_by (may_fit want) (group_of group buckets)
counts_for FreeOne buckets groups group d counted lt = counted.free_ones group d lt
counts_for (CurrentOf actor) buckets groups group d counted lt = counted.busy_ones group d lt
counts_for (RoomOf actor count) buckets groups group d counted lt = counted.busy_ones group d lt

pub found_within : {X : Type 0} (p : X → Bool) (xs : List X) (found : Option ℕ) → found ≡ position p xs → length xs ≤ 256 → IfSome found (λ at. at < 256)
found_within p xs None is few = tt
found_within p xs (Some at) is few = let place = position_some p xs at (sym is) in let lt = place.1 in omega (arith, lt, few)
