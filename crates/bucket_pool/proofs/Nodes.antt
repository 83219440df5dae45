-- Buckets that are taken for nodes, device by device.
use Rattle.std.proofs.Common.{◌≡◌, ℕ, zero, suc, ◌+◌, ◌<◌, ◌≤◌, Bool, true, false, ◌&&◌, nat_lt, if◌then◌else◌, List, [], ◌∷◌, ◌++◌, length, take, get_or, refl, sym, ap, ◌∙◌, arith}
use Rattle.std.specs.List.{list_all, list_any}
use Rattle.std.proofs.lemmas.Bool.{false≢true}
use Rattle.std.proofs.lemmas.Bool.Decides.{nat_tests}
use Rattle.vol_types.specs.declared.pointers.Place.{Place}
use Rattle.bucket_pool.specs.declared.bucket.Bucket.{Bucket}
use Rattle.bucket_pool.specs.Buckets.{is_free}
use Rattle.bucket_pool.specs.Places.{each_from, each_place, partly, partly_from}
use Rattle.bucket_pool.specs.Space.{have_free, node_place, noded, with_node}
use Rattle.bucket_pool.proofs.EachPlace.{partly_from_get}

-- the members of a list up to a place, each changed by its place, and one more
each_from_more : {X Y : Type 0} (f : ℕ → X → Y) (first at place : ℕ) (xs : List X) (d : X) → place ≡ first + at → at < length xs
    → each_from f first (take (suc at) xs) ≡ each_from f first (take at xs) ++ f place (get_or xs at d) ∷ []
each_from_more f first at place [] d is lt = absurd (omega (arith, lt))
each_from_more f first zero place (x ∷ xs) d is lt = ap (λ (n : ℕ). f n x ∷ []) (let same : first ≡ place = omega (arith, is) in same)
each_from_more f first (suc at) place (x ∷ xs) d is lt =
    ap (λ rest. f first x ∷ rest) (each_from_more f (suc first) at place xs d (let same : place ≡ suc first + at = omega (arith, is) in same) (let less : at < length xs = omega (arith, lt) in less))

pub each_place_more : {X Y : Type 0} (f : ℕ → X → Y) (at : ℕ) (xs : List X) (d : X) → at < length xs → each_place f (take at xs) ++ f at (get_or xs at d) ∷ [] ≡ each_place f (take (at + 1) xs)
each_place_more f at xs d lt =
    sym (each_from_more f 0 at at xs d (let same : at ≡ 0 + at = omega arith in same) lt) ∙ ap (λ n. each_place f (take n xs)) (let same : suc at ≡ at + 1 = omega arith in same)

-- the first so many members changed, as each one by its place
first_changed : {X : Type 0} (f : X → X) (first count bound : ℕ) (xs : List X) → bound ≡ first + count → partly_from (λ _. f) first count xs ≡ each_from (λ at x. if nat_lt at bound then f x else x) first xs
first_changed f first zero bound [] is = refl
first_changed {X = X} f first zero bound (x ∷ xs) is =
    ap (λ rest. x ∷ rest) (first_changed_none (suc first) xs (let le : bound ≤ suc first = omega (arith, is) in le))
    ∙ ap (λ b. (if b then f x else x) ∷ each_from (λ at y. if nat_lt at bound then f y else y) (suc first) xs) (sym (not_below first (let le : bound ≤ first = omega (arith, is) in le)))
  where
    not_below : (n : ℕ) → bound ≤ n → nat_lt n bound ≡ false
    not_below n le = grind (arith, nat_tests)

    first_changed_none : (at : ℕ) (ys : List X) → bound ≤ at → ys ≡ each_from (λ n y. if nat_lt n bound then f y else y) at ys
    first_changed_none at [] le = refl
    first_changed_none at (y ∷ ys) le =
        ap (λ rest. y ∷ rest) (first_changed_none (suc at) ys (let more : bound ≤ suc at = omega (arith, le) in more))
        ∙ ap (λ b. (if b then f y else y) ∷ each_from (λ n z. if nat_lt n bound then f z else z) (suc at) ys) (sym (not_below at le))
first_changed f first (suc count) bound [] is = refl
first_changed f first (suc count) bound (x ∷ xs) is =
    ap (λ rest. f x ∷ rest) (first_changed f (suc first) count bound xs (let same : bound ≡ suc first + count = omega (arith, is) in same))
    ∙ ap (λ b. (if b then f x else x) ∷ each_from (λ at y. if nat_lt at bound then f y else y) (suc first) xs) (sym (below first (let lt : first < bound = omega (arith, is) in lt)))
  where
    below : (n : ℕ) → n < bound → nat_lt n bound ≡ true
    below n lt = grind (arith, nat_tests)

pub noded_is : (count : ℕ) (space : List (List Bucket)) → partly (λ _. with_node) count space ≡ noded count space
noded_is count space = first_changed with_node 0 count count space (let same : count ≡ 0 + count = omega arith in same)

-- a member of the first ones passes, where all of them do
all_at : {X : Type 0} (p : X → Bool) (count at : ℕ) (xs : List X) (d : X) → list_all p (take count xs) ≡ true → at < count → at < length xs → p (get_or xs at d) ≡ true
all_at p count at [] d all below lt = absurd (omega (arith, lt))
all_at p zero at (x ∷ xs) d all below lt = absurd (omega (arith, below))
all_at p (suc count) zero (x ∷ xs) d all below lt = first_of (p x) (list_all p (take count xs)) all
  where
    first_of : (a b : Bool) → (a && b) ≡ true → a ≡ true
    first_of true b is = refl
    first_of false b is = is
all_at p (suc count) (suc at) (x ∷ xs) d all below lt = all_at p count at xs d (rest_of (p x) (list_all p (take count xs)) all) (let less : at < count = omega (arith, below) in less) (let less : at < length xs = omega (arith, lt) in less)
  where
    rest_of : (a b : Bool) → (a && b) ≡ true → b ≡ true
    rest_of true b is = is
    rest_of false b is = absurd (false≢true is)

pub free_there : (count at : ℕ) (space : List (List Bucket)) (d : List Bucket) → have_free count space ≡ true → at < count → at < length space → list_any is_free (get_or space at d) ≡ true
free_there count at space d all below lt = all_at (list_any is_free) count at space d all below lt

-- the device that is asked next has what it had
pub same_buckets : (dev : ℕ) (initial now : List (List Bucket)) (d : List Bucket) → now ≡ partly (λ _. with_node) dev initial → get_or now dev d ≡ get_or initial dev d
same_buckets dev initial now d is = ap (λ list. get_or list dev d) is ∙ partly_from_get (λ _. with_node) 0 dev initial d

-- the places so far, and that of one device more
pub places_more : (dev : ℕ) (space : List (List Bucket)) (places after : List Place) (buckets : List Bucket) (place : Place) → dev < length space → buckets ≡ get_or space dev buckets
    → places ≡ each_place node_place (take dev space) → place ≡ node_place dev buckets → after ≡ places ++ place ∷ [] → after ≡ each_place node_place (take (dev + 1) space)
places_more dev space places after buckets place lt read so_far found pushed =
    pushed ∙ ap (λ list. list ++ place ∷ []) so_far ∙ ap (λ p. each_place node_place (take dev space) ++ p ∷ []) (found ∙ ap (node_place dev) read) ∙ each_place_more node_place dev space buckets lt
