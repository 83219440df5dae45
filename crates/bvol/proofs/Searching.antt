-- A search for the first argument that passes a test.
use Rattle.std.proofs.Common.{◌≡◌, ℕ, zero, suc, ◌+◌, ◌<◌, ◌≤◌, Bool, true, false, cond, List, [], ◌∷◌, length, take, drop, map, get_or, Some, None, ap, ◌∙◌, sym, arith}
use Rattle.std.specs.Prelude.{◌&&◌, nat_le}
use Rattle.std.specs.List.{position_from}
use Rattle.std.proofs.lemmas.Bool.Decides.{nat_tests}
use Rattle.std.proofs.lemmas.List.{drop-map, length-map, take-map}
use Rattle.bvol.specs.Arguments.{split_at}

-- the list from a place on begins with what stands there
from_place : {X Y : Type 0} (f : X → Y) (xs : List X) (i : ℕ) (x : X) → i < length xs → x ≡ get_or xs i x → drop i (map f xs) ≡ f x ∷ drop (suc i) (map f xs)
from_place f [] i x within is = absurd (omega (arith, within))
from_place f (y ∷ xs) zero x within is = ap (λ z. f z ∷ map f xs) (sym is)
from_place f (y ∷ xs) (suc i) x within is = from_place f xs i x (omega (arith, within)) is

from_here : {X Y : Type 0} (f : X → Y) (xs : List X) (i : ℕ) (x : X) → i < length xs → x ≡ get_or xs i x → drop i (map f xs) ≡ f x ∷ drop (i + 1) (map f xs)
from_here f xs i x within is = from_place f xs i x within is ∙ ap (λ n. f x ∷ drop n (map f xs)) (let e : suc i ≡ i + 1 = omega arith in e)

module _ {X Y : Type 0} (f : X → Y) (test : Y → Bool) (xs : List X) (i : ℕ) (x : X) (within : i < length xs) (is : x ≡ get_or xs i x) where
  -- what passes ends the search
  pub found_here : test (f x) ≡ true → position_from test i (drop i (map f xs)) ≡ Some i
  found_here passes = ap (position_from test i) (from_here f xs i x within is) ∙ ap (λ b. cond b (Some i) (position_from test (i + 1) (drop (i + 1) (map f xs)))) passes

  -- and what doesn't is passed over
  pub not_here : test (f x) ≡ false → position_from test i (drop i (map f xs)) ≡ position_from test (i + 1) (drop (i + 1) (map f xs))
  not_here fails = ap (position_from test i) (from_here f xs i x within is) ∙ ap (λ b. cond b (Some i) (position_from test (i + 1) (drop (i + 1) (map f xs)))) fails

-- one to eight files after a place
pub split_is : {X : Type 0} (f : X → List ℕ) (xs files : List X) (place : ℕ) → files ≡ drop (place + 1) xs → 1 ≤ length files → length files ≤ 8 → split_at (map f xs) place ≡ Some (map f (take place xs), map f files)
split_is f xs files place are some few =
    let later : drop (place + 1) (map f xs) ≡ map f files = drop-map f (place + 1) xs ∙ ap (map f) (sym are) in
    let size : length (drop (place + 1) (map f xs)) ≡ length files = ap length later ∙ length-map files f in
    let fits : nat_le 1 (length files) && nat_le (length files) 8 ≡ true = grind (arith, nat_tests) in
    let test : nat_le 1 (length (drop (place + 1) (map f xs))) && nat_le (length (drop (place + 1) (map f xs))) 8 ≡ true = ap (λ n. nat_le 1 n && nat_le n 8) size ∙ fits in
    ap (λ b. cond b (Some (take place (map f xs), drop (place + 1) (map f xs))) None) test
    ∙ ap (λ words. Some (words, drop (place + 1) (map f xs))) (take-map f place xs)
    ∙ ap (λ list. Some (map f (take place xs), list)) later
