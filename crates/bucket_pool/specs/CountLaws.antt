-- A reservation that has space gives one pointer for each replica.
use Rattle.std.proofs.Common.{◌≡◌, ℕ, zero, suc, ◌+◌, ◌<◌, ◌≤◌, Bool, true, false, cond, not, ◌||◌, nat_lt, min, if◌then◌else◌, Option, None, Some, is_some, option_map, List, [], ◌∷◌, length, slice_get, slice_index, refl, sym, ap, ◌∙◌, subst, arith}
use Rattle.std.specs.List.{count_by, list_any, position_or_len}
use Rattle.std.proofs.lemmas.Bool.{false≢true}
use Rattle.std.proofs.lemmas.Bool.Decides.{nat_tests}
use Rattle.std.proofs.lemmas.List.Sums.{sum_by-cons}
use Rattle.std.proofs.lemmas.Option.{slice_get-get_or}
use Rattle.vol_types.specs.declared.pointers.Pointer.{Pointer}
use Rattle.bucket_pool.specs.declared.bucket.Bucket.{Bucket}
use Rattle.bucket_pool.specs.Buckets.{has_room, is_current_of, is_free, let_go, opened_for}
use Rattle.bucket_pool.specs.Places.{changed, each_from, picked_from, with_pick}
use Rattle.bucket_pool.specs.Space.{Space, can_give, first_free, free_count, givers, has_open_room, marked, pointer_to, readied, reopened, reserved, reserved_at, reserved_on, spot}

-- a first member that passes is there, where one passes
any_by : (b any : Bool) (first size : ℕ) → (any ≡ true → first < size) → (b || any) ≡ true → cond (not b) (1 + first) 0 < suc size
any_by true any first size rest is = omega arith
any_by false any first size rest is = let lt = rest is in omega (arith, lt)

pub first_there : {X : Type 0} (p : X → Bool) (xs : List X) → list_any p xs ≡ true → position_or_len p xs < length xs
first_there p [] is = absurd (false≢true is)
first_there p (x ∷ xs) is = any_by (p x) (list_any p xs) (position_or_len p xs) (length xs) (first_there p xs) is

none_counted : {X : Type 0} (p : X → Bool) (xs : List X) → list_any p xs ≡ false → count_by p xs ≡ 0
none_counted p [] is = refl
none_counted p (x ∷ xs) is = sum_by-cons (λ y. cond (p y) 1 0) x xs ∙ none_by (p x) (list_any p xs) (count_by p xs) (none_counted p xs) is
  where
    none_by : (b any : Bool) (rest : ℕ) → (any ≡ false → rest ≡ 0) → (b || any) ≡ false → cond {A = ℕ} b 1 0 + rest ≡ 0
    none_by true any rest none no_one = absurd (false≢true (sym no_one))
    none_by false any rest none no_one = let zero_one = none no_one in omega (arith, zero_one)

pub length-changed : {X : Type 0} (f : X → X) (at : ℕ) (xs : List X) → length (changed f at xs) ≡ length xs
length-changed f at [] = refl
length-changed f zero (x ∷ xs) = refl
length-changed f (suc at) (x ∷ xs) = ap suc (length-changed f at xs)

-- the pointer to what is reserved in a bucket, and the buckets then
abbrev made : ℕ → ℕ → ℕ → List Bucket → Bucket → Pointer × List Bucket
made count dev place ready bucket = (pointer_to count dev place bucket, changed (marked count) place ready)

-- a device that can give blocks does
gives : (count actor : ℕ) (held : List ℕ) (dev : ℕ) (buckets : List Bucket) → is_some (reserved_on count actor held dev buckets) ≡ can_give count actor (slice_index held dev) buckets
gives count actor held dev buckets = choose (can_give count actor (slice_index held dev) buckets) refl
  where
    there : (place : ℕ) (ready : List Bucket) → place < length ready → is_some (reserved_at count dev place ready) ≡ true
    there place ready lt = within ready lt
      where
        within : (list : List Bucket) → place < length list → is_some (option_map (made count dev place ready) (slice_get list place)) ≡ true
        within [] less = absurd (omega (arith, less))
        within (b ∷ bs) less = ap (λ (o : Option Bucket). is_some (option_map (made count dev place ready) o)) (slice_get-get_or (b ∷ bs) place b less)

    placed : (room : Bool) → has_open_room count actor buckets ≡ room → can_give count actor (slice_index held dev) buckets ≡ true
        → is_some (reserved_at count dev (if room then position_or_len (has_room count actor) buckets else first_free buckets) (if room then buckets else reopened actor buckets)) ≡ true
    placed true room can = there (position_or_len (has_room count actor) buckets) buckets (first_there (has_room count actor) buckets room)
    placed false room can =
        there (first_free buckets) (reopened actor buckets)
        (subst (λ (n : ℕ). first_free buckets < n)
        (sym (length-changed (opened_for actor) (first_free buckets) (changed let_go (position_or_len (is_current_of actor) buckets) buckets) ∙ length-changed let_go (position_or_len (is_current_of actor) buckets) buckets))
        (first_there is_free buckets (one_free (list_any is_free buckets) refl)))
      where
        more : nat_lt (slice_index held dev) (free_count buckets) ≡ true
        more = ap (λ b. b || nat_lt (slice_index held dev) (free_count buckets)) (sym room) ∙ can

        none_less : (m n : ℕ) → nat_lt m n ≡ true → n ≡ 0 → false ≡ true
        none_less m n less zero_one = grind (arith, nat_tests)

        one_free : (b : Bool) → list_any is_free buckets ≡ b → b ≡ true
        one_free true any = refl
        one_free false any = none_less (slice_index held dev) (free_count buckets) more (none_counted is_free buckets any)

    choose : (b : Bool) → can_give count actor (slice_index held dev) buckets ≡ b → is_some (if b then reserved_at count dev (spot count actor buckets) (readied count actor buckets) else None) ≡ b
    choose true can = placed (has_open_room count actor buckets) refl can
    choose false can = refl

-- as many are picked as are wanted, or as can give
picked_count : {G X : Type 0} (pick : ℕ → X → Option (G × X)) (can : ℕ → X → Bool) (first count : ℕ) (xs : List X) → ((place : ℕ) (x : X) → is_some (pick place x) ≡ can place x)
    → length (picked_from pick first count xs).given ≡ min count (count_by (λ b. b) (each_from can first xs))
picked_count pick can first count [] same = omega arith
picked_count pick can first zero (x ∷ xs) same = omega arith
picked_count {G = G} {X = X} pick can first (suc count) (x ∷ xs) same =
    choose (pick first x) (can first x) (same first x) (picked_count pick can (suc first) (suc count) xs same) (picked_count pick can (suc first) count xs same)
    ∙ ap (min (suc count)) (sym (sum_by-cons (λ b. cond b 1 0) (can first x) (each_from can (suc first) xs)))
  where
    rest : ℕ
    rest = count_by (λ b. b) (each_from can (suc first) xs)

    choose : (o : Option (G × X)) (b : Bool) → is_some o ≡ b → length (picked_from pick (suc first) (suc count) xs).given ≡ min (suc count) rest → length (picked_from pick (suc first) count xs).given ≡ min count rest
        → length (with_pick o x (picked_from pick (suc first) (suc count) xs) (picked_from pick (suc first) count xs)).given ≡ min (suc count) (cond {A = ℕ} b 1 0 + rest)
    choose None true is one other = absurd (false≢true is)
    choose None false is one other = one ∙ ap (min (suc count)) (let same_rest : rest ≡ 0 + rest = omega arith in same_rest)
    choose (Some pair) true is one other = ap suc other ∙ (let same_min : suc (min count rest) ≡ min (suc count) (1 + rest) = omega arith in same_min)
    choose (Some pair) false is one other = absurd (false≢true (sym is))

pub reserved_whole : (count actor replicas : ℕ) (held : List ℕ) (space : Space) → replicas ≤ givers count actor held space → length (reserved count actor replicas held space).given ≡ replicas
reserved_whole count actor replicas held space can =
    picked_count (reserved_on count actor held) (λ dev. can_give count actor (slice_index held dev)) 0 replicas space (gives count actor held) ∙ (let least : min replicas (givers count actor held space) ≡ replicas = omega (arith, can) in least)
