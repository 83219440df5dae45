-- The pointers of a reservation lie on rising devices.
use Rattle.std.proofs.Common.{◌≡◌, ℕ, zero, suc, ◌<◌, Option, None, Some, List, [], ◌∷◌, map, refl, sym, ap, subst, arith}
use Rattle.std.specs.Cmp.{nat_cmp_is}
use Rattle.std.specs.Ordering.{nat_cmp}
use Rattle.std.specs.declared.cmp.Ordering.TheVariants.{Less}
use Rattle.std.proofs.Common.{slice_get, slice_index}
use Rattle.vol_types.specs.Ranges.{IsAbove, Rise, RiseFrom}
use Rattle.vol_types.specs.declared.pointers.Pointer.{Pointer}
use Rattle.bucket_pool.specs.declared.bucket.Bucket.{Bucket}
use Rattle.bucket_pool.specs.Places.{changed, picked_from, with_pick}
use Rattle.bucket_pool.specs.Space.{Space, can_give, marked, pointer_to, readied, reserved, reserved_at, reserved_on, spot}
use Rattle.bucket_pool.specs.StayLaws.{chosen, given_by}

-- what was before, if anything was, is below a number
abbrev IsBelow : Option ℕ → ℕ → Type 0
IsBelow None n = Unit {0}
IsBelow (Some m) n = m < n

below_more : (before : Option ℕ) (n : ℕ) → IsBelow before n → IsBelow before (suc n)
below_more None n is = tt
below_more (Some m) n is = omega (arith, is)

above : (before : Option ℕ) (n : ℕ) → IsBelow before n → IsAbove nat_cmp before n
above None n is = tt
above (Some m) n is = sym (nat_cmp_is m n Less is)

picked_rise : {G X : Type 0} (pick : ℕ → X → Option (G × X)) (place_of : G → ℕ) (first count : ℕ) (xs : List X) (before : Option ℕ) → IsBelow before first
    → ((place : ℕ) (x : X) (given : G) (member : X) → pick place x ≡ Some (given, member) → place_of given ≡ place) → RiseFrom nat_cmp before (map place_of (picked_from pick first count xs).given)
picked_rise pick place_of first count [] before below lies = tt
picked_rise pick place_of first zero (x ∷ xs) before below lies = tt
picked_rise {G = G} {X = X} pick place_of first (suc count) (x ∷ xs) before below lies =
    choose (pick first x) refl (picked_rise pick place_of (suc first) (suc count) xs before (below_more before first below) lies)
    (λ given lies_there. picked_rise pick place_of (suc first) count xs (Some (place_of given)) (let lt : place_of given < suc first = omega (arith, lies_there) in lt) lies)
  where
    choose : (o : Option (G × X)) → pick first x ≡ o → RiseFrom nat_cmp before (map place_of (picked_from pick (suc first) (suc count) xs).given)
        → ((given : G) → place_of given ≡ first → RiseFrom nat_cmp (Some (place_of given)) (map place_of (picked_from pick (suc first) count xs).given))
        → RiseFrom nat_cmp before (map place_of (with_pick o x (picked_from pick (suc first) (suc count) xs) (picked_from pick (suc first) count xs)).given)
    choose None asked one other = one
    choose (Some pair) asked one other =
        let there = lies first x pair.0 pair.1 asked in
        (subst (λ (n : ℕ). IsAbove nat_cmp before n) (sym there) (above before first below), other pair.0 there)

-- what is reserved on a device lies there
lies_there : (count actor : ℕ) (held : List ℕ) (dev : ℕ) (buckets : List Bucket) (pointer : Pointer) (after : List Bucket) → reserved_on count actor held dev buckets ≡ Some (pointer, after) → pointer.place.dev ≡ dev
lies_there count actor held dev buckets pointer after is =
    let place = spot count actor buckets in
    let ready = readied count actor buckets in
    let both = chosen (can_give count actor (slice_index held dev) buckets) (reserved_at count dev place ready) (pointer, after) is in
    let made = given_by (λ b. (pointer_to count dev place b, changed (marked count) place ready)) (slice_get ready place) (pointer, after) both.1 in
    ap (λ (p : Pointer × List Bucket). p.0.place.dev) (sym made.2)

pub reserved_rise : (count actor replicas : ℕ) (held : List ℕ) (space : Space) → Rise nat_cmp (map (λ pointer. pointer.place.dev) (reserved count actor replicas held space).given)
reserved_rise count actor replicas held space = picked_rise (reserved_on count actor held) (λ (p : Pointer). p.place.dev) 0 replicas space None tt (lies_there count actor held)
