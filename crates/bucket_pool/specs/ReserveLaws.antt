-- What a reservation gives lay on blocks that were unused.
use Rattle.std.proofs.Common.{◌≡◌, ℕ, zero, suc, ◌+◌, ◌-◌, ◌≤◌, ◌⊎◌, ⊎_elim, inl, inr, Bool, true, false, ◌&&◌, nat_le, if◌then◌else◌, Option, None, Some, is_some, unwrap_or, List, [], ◌∷◌, take, drop, replicate, slice_get, slice_index, refl, sym, ap, ◌∙◌, subst, arith}
use Rattle.std.specs.List.{All, list_all, position_or_len}
use Rattle.std.proofs.lemmas.Bool.{and_parts, false≢true}
use Rattle.std.proofs.lemmas.Bool.Decides.{nat_tests}
use Rattle.std.proofs.lemmas.List.{take-replicate}
use Rattle.std.proofs.lemmas.List.Elements.{All-cons, All-nil}
use Rattle.std.proofs.lemmas.List.Sums.{passes_at_first}
use Rattle.std.proofs.lemmas.Option.{get_or_from_slice_get, none-some as none_some, same_Some, slice_get_within}
use Rattle.vol_types.specs.declared.pointers.Pointer.{Pointer}
use Rattle.bucket_pool.specs.declared.bucket.Bucket.{Bucket}
use Rattle.bucket_pool.specs.declared.bucket.Slot.{Slot}
use Rattle.bucket_pool.specs.declared.bucket.Slot.TheVariants.{Empty}
use Rattle.bucket_pool.specs.declared.bucket.State.TheVariants.{Free}
use Rattle.bucket_pool.specs.Buckets.{begins_empty, first_run, first_run_from, has_room, in_state, is_current_of, is_empty, is_free, let_go, opened_for, slots_of}
use Rattle.bucket_pool.specs.Given.{LiesUnused}
use Rattle.bucket_pool.specs.Places.{changed, picked_from, with_pick}
use Rattle.bucket_pool.specs.Space.{Space, can_give, first_free, has_open_room, marked, pointer_to, readied, reopened, reserved, reserved_at, reserved_on, run_of, spot}
use Rattle.bucket_pool.specs.StayLaws.{chosen, first_is_free, given_by, on_device}

-- what holds of all that is picked
all_picked : {G X : Type 0} (P : G → Type 0) (pick : ℕ → X → Option (G × X)) (first count : ℕ) (xs : List X)
    → ((place k : ℕ) (x : X) (given : G) (member : X) → place ≡ first + k → slice_get xs k ≡ Some x → pick place x ≡ Some (given, member) → P given) → All P (picked_from pick first count xs).given
all_picked P pick first count [] each = All-nil P
all_picked P pick first zero (x ∷ xs) each = All-nil P
all_picked {G = G} {X = X} P pick first (suc count) (x ∷ xs) each =
    choose (pick first x) refl (all_picked P pick (suc first) (suc count) xs later) (all_picked P pick (suc first) count xs later)
  where
    later : (place k : ℕ) (y : X) (given : G) (member : X) → place ≡ suc first + k → slice_get xs k ≡ Some y → pick place y ≡ Some (given, member) → P given
    later place k y given member is got asked = each place (suc k) y given member (omega (arith, is)) got asked

    choose : (o : Option (G × X)) → pick first x ≡ o → All P (picked_from pick (suc first) (suc count) xs).given → All P (picked_from pick (suc first) count xs).given
        → All P (with_pick o x (picked_from pick (suc first) (suc count) xs) (picked_from pick (suc first) count xs)).given
    choose None asked one other = one
    choose (Some pair) asked one other = All-cons P pair.0 (picked_from pick (suc first) count xs).given (each first 0 x pair.0 pair.1 (omega arith) refl asked) other

-- where the first run of blocks is found, it begins with so many that may be reserved
run_begins : (at count : ℕ) (slots : List Slot) (first : ℕ) → first_run_from at count slots ≡ Some first → (at ≤ first) × (begins_empty count (drop (first - at) slots) ≡ true)
run_begins at count [] first is = absurd (none_some first is)
run_begins at count (slot ∷ slots) first is = choose (begins_empty count (slot ∷ slots)) refl is (run_begins (at + 1) count slots first)
  where
    choose : (b : Bool) → begins_empty count (slot ∷ slots) ≡ b → (if b then Some at else first_run_from (at + 1) count slots) ≡ Some first
        → (first_run_from (at + 1) count slots ≡ Some first → (at + 1 ≤ first) × (begins_empty count (drop (first - (at + 1)) slots) ≡ true)) → (at ≤ first) × (begins_empty count (drop (first - at) (slot ∷ slots)) ≡ true)
    choose true here found rest =
        let same : at ≡ first = same_Some at first found in
        (omega (arith, same), ap (λ n. begins_empty count (drop n (slot ∷ slots))) (let none : first - at ≡ 0 = omega (arith, same) in none) ∙ here)
    choose false here found rest =
        let more = rest found in
        let above = more.0 in
        (omega (arith, above), ap (λ n. begins_empty count (drop n (slot ∷ slots))) (let next : first - at ≡ suc (first - (at + 1)) = omega (arith, above) in next) ∙ more.1)

some_first : (o : Option ℕ) → is_some o ≡ true → o ≡ Some (unwrap_or o 0)
some_first None is = absurd (false≢true is)
some_first (Some first) is = refl

-- a bucket with room has so many blocks in a row where they are reserved
room_unused : (count actor : ℕ) (bucket : Bucket) → has_room count actor bucket ≡ true → (is_current_of actor bucket ≡ true) × (begins_empty count (drop (run_of count bucket) (slots_of bucket.state)) ≡ true)
room_unused count actor bucket is =
    let test = and_parts (is_current_of actor bucket) (is_some (first_run count (slots_of bucket.state))) is in
    let run = run_begins 0 count (slots_of bucket.state) (run_of count bucket) (some_first (first_run count (slots_of bucket.state)) test.1) in
    (test.0, ap (λ n. begins_empty count (drop n (slots_of bucket.state))) (let same : run_of count bucket ≡ run_of count bucket - 0 = omega arith in same) ∙ run.1)

all_empty : (n : ℕ) → list_all is_empty (replicate n Empty) ≡ true
all_empty zero = refl
all_empty (suc n) = all_empty n

fits_in : (m n : ℕ) → m ≤ n → nat_le m n ≡ true
fits_in m n le = grind (arith, nat_tests)

-- the first blocks of a fresh bucket are reserved
fresh_run : (count actor : ℕ) (bucket : Bucket) → count ≤ 16 → run_of count (opened_for actor bucket) ≡ 0
fresh_run count actor bucket le = ap (λ (b : Bool). unwrap_or (if b then Some 0 else first_run_from 1 count (replicate 15 Empty)) 0) begins
  where
    begins : begins_empty count (replicate 16 Empty) ≡ true
    begins = ap (λ b. b && list_all is_empty (take count (replicate 16 Empty))) (fits_in count 16 le) ∙ ap (list_all is_empty) (take-replicate count 16 Empty le) ∙ all_empty count

-- what stood where a member was changed
changed_from : {X : Type 0} (f : X → X) (at k : ℕ) (xs : List X) (y : X) → slice_get (changed f at xs) k ≡ Some y → (x : X) × (slice_get xs k ≡ Some x) × ((y ≡ x) ⊎ (y ≡ f x))
changed_from f at k [] y got = absurd (none_some y got)
changed_from f zero zero (x ∷ xs) y got = (x, refl, inr (sym (same_Some (f x) y got)))
changed_from f zero (suc k) (x ∷ xs) y got = (y, got, inl refl)
changed_from f (suc at) zero (x ∷ xs) y got = (x, refl, inl (sym (same_Some x y got)))
changed_from f (suc at) (suc k) (x ∷ xs) y got = changed_from f at k xs y got

-- what stands where a member was changed
changed_here : {X : Type 0} (f : X → X) (at : ℕ) (xs : List X) (y : X) → slice_get (changed f at xs) at ≡ Some y → (x : X) × (slice_get xs at ≡ Some x) × (y ≡ f x)
changed_here f at [] y got = absurd (none_some y got)
changed_here f zero (x ∷ xs) y got = (x, refl, sym (same_Some (f x) y got))
changed_here f (suc at) (x ∷ xs) y got = changed_here f at xs y got

-- the bucket that is opened for an actor is the first free one, with its generation
reopened_from : (actor : ℕ) (buckets : List Bucket) (bucket : Bucket) → slice_get (reopened actor buckets) (first_free buckets) ≡ Some bucket
    → (old : Bucket) × (slice_get buckets (first_free buckets) ≡ Some old) × (is_free old ≡ true) × (bucket ≡ opened_for actor (in_state bucket Free)) × (bucket.generation ≡ old.generation)
reopened_from actor buckets bucket got =
    let current = position_or_len (is_current_of actor) buckets in
    let mid = changed_here (opened_for actor) (first_free buckets) (changed let_go current buckets) bucket got in
    let old = changed_from let_go current (first_free buckets) buckets mid.0 mid.1 in (
      old.0,
      old.1,
      first_is_free buckets (first_free buckets) old.0 old.1 refl,
      mid.2 ∙ ap (λ (n : ℕ). opened_for actor (record { generation = n; state = Free })) (ap (λ (b : Bucket). b.generation) (sym mid.2)),
      ap (λ (b : Bucket). b.generation) mid.2 ∙ ⊎_elim (λ same. ap (λ (b : Bucket). b.generation) same) (λ went. ap (λ (b : Bucket). b.generation) went) old.2,
    )

room_there : (p : Bucket → Bool) (buckets : List Bucket) (bucket : Bucket) → slice_get buckets (position_or_len p buckets) ≡ Some bucket → p bucket ≡ true
room_there p buckets bucket got =
    ap p (sym (get_or_from_slice_get buckets (position_or_len p buckets) bucket bucket got)) ∙ passes_at_first p buckets bucket (slice_get_within buckets (position_or_len p buckets) bucket got)

-- what is reserved on a device lay on unused blocks
lies_on : (count actor : ℕ) (space : Space) (dev : ℕ) (buckets : List Bucket) (pointer : Pointer) (after : List Bucket) → count ≤ 16 → slice_get space dev ≡ Some buckets
    → reserved_at count dev (spot count actor buckets) (readied count actor buckets) ≡ Some (pointer, after) → LiesUnused count actor space pointer
lies_on count actor space dev buckets pointer after le device is = choose (has_open_room count actor buckets) is
  where
    -- the pointer that is given for a bucket
    At : ℕ → List Bucket → Type 0
    At place ready = reserved_at count dev place ready ≡ Some (pointer, after)

    found : (place : ℕ) (ready : List Bucket) → At place ready → (bucket : Bucket) × (slice_get ready place ≡ Some bucket) × (pointer_to count dev place bucket ≡ pointer)
    found place ready reserved_it =
        let made = given_by (λ b. (pointer_to count dev place b, changed (marked count) place ready)) (slice_get ready place) (pointer, after) reserved_it in
        (made.0, made.1, ap (λ (p : Pointer × List Bucket). p.0) made.2)

    choose : (b : Bool) → At (if b then position_or_len (has_room count actor) buckets else first_free buckets) (if b then buckets else reopened actor buckets) → LiesUnused count actor space pointer
    choose true reserved_it =
        let place = position_or_len (has_room count actor) buckets in
        let one = found place buckets reserved_it in
        subst (λ (p : Pointer). LiesUnused count actor space p) one.2 (record {
          at = place;
          first = run_of count one.0;
          bucket = one.0;
          there = on_device space dev place buckets one.0 device one.1;
          place = refl;
          generation = refl;
          unused = inr (room_unused count actor one.0 (room_there (has_room count actor) buckets one.0 one.1));
        })
    choose false reserved_it =
        let place = first_free buckets in
        let one = found place (reopened actor buckets) reserved_it in
        let from = reopened_from actor buckets one.0 one.1 in
        let start : run_of count one.0 ≡ 0 = ap (run_of count) from.3 ∙ fresh_run count actor (in_state one.0 Free) le in
        subst (λ (p : Pointer). LiesUnused count actor space p) one.2 (record {
          at = place;
          first = run_of count one.0;
          bucket = from.0;
          there = on_device space dev place buckets from.0 device from.1;
          place = refl;
          generation = from.4;
          unused = inl (from.2, omega (arith, start, le));
        })

pub reserved_unused : (count actor replicas : ℕ) (held : List ℕ) (space : Space) → count ≤ 16 → All (LiesUnused count actor space) (reserved count actor replicas held space).given
reserved_unused count actor replicas held space le = all_picked (LiesUnused count actor space) (reserved_on count actor held) 0 replicas space (λ dev k buckets pointer after is device asked.
    let both_of = chosen (can_give count actor (slice_index held dev) buckets) (reserved_at count dev (spot count actor buckets) (readied count actor buckets)) (pointer, after) asked in
    lies_on count actor space dev buckets pointer after le (ap (slice_get space) (let same : dev ≡ k = omega (arith, is) in same) ∙ device) both_of.1)
