-- How many pins a tree of so many levels has at least.
use Rattle.std.proofs.Common.{◌≡◌, ℕ, zero, suc, ◌+◌, ◌<◌, ◌≤◌, ◌^◌, ◌⊎◌, max, List, ◌∷◌, ◌++◌, length, length-append, ⊎_elim, ap, arith}
use Rattle.pin_list.specs.Trees.{fewest}

-- none where it has none
pub fewest_none : fewest 0 ≤ 0
unfolding fewest
fewest_none = omega arith

-- as many as it has levels
pub levels_few : (height : ℕ) → height ≤ fewest height
unfolding fewest
levels_few zero = omega arith
levels_few (suc zero) = omega arith
levels_few (suc (suc height)) = let more = levels_few (suc height) in omega (arith, more)

-- a level more has no fewer
rises : (height : ℕ) → fewest height ≤ fewest (suc height)
unfolding fewest
rises zero = omega arith
rises (suc height) = omega arith

twice : (height : ℕ) → fewest (suc height) ≤ fewest height + fewest height + 1
unfolding fewest
twice zero = omega arith
twice (suc height) = let up = rises height in omega (arith, up)

-- a tree of a pin and two sides
pub fewest_above : (left right : ℕ) → left ≤ right + 1 → right ≤ left + 1 → fewest (max left right + 1) ≤ fewest left + fewest right + 1
unfolding fewest
fewest_above left right near far = ⊎_elim (λ up. higher up) (λ other. ⊎_elim (λ same. even same) (λ down. lower down) other) (cases left right near far)
  where
    cases : (l r : ℕ) → l ≤ r + 1 → r ≤ l + 1 → (l ≡ suc r) ⊎ ((l ≡ r) ⊎ (r ≡ suc l))
    cases l r a b = grind arith

    higher : left ≡ suc right → fewest (max left right + 1) ≤ fewest left + fewest right + 1
    higher is =
        let top : max left right + 1 ≡ suc (suc right) = omega (arith, is) in
        let at : fewest (suc (suc right)) ≤ fewest (suc right) + fewest right + 1 = omega arith in
        let side : fewest left ≡ fewest (suc right) = ap fewest is in let whole : fewest (max left right + 1) ≡ fewest (suc (suc right)) = ap fewest top in omega (arith, at, side, whole)

    even : left ≡ right → fewest (max left right + 1) ≤ fewest left + fewest right + 1
    even is =
        let top : max left right + 1 ≡ suc right = omega (arith, is) in
        let at = twice right in let side : fewest left ≡ fewest right = ap fewest is in let whole : fewest (max left right + 1) ≡ fewest (suc right) = ap fewest top in omega (arith, at, side, whole)

    lower : right ≡ suc left → fewest (max left right + 1) ≤ fewest left + fewest right + 1
    lower is =
        let top : max left right + 1 ≡ suc (suc left) = omega (arith, is) in
        let at : fewest (suc (suc left)) ≤ fewest (suc left) + fewest left + 1 = omega arith in
        let side : fewest right ≡ fewest (suc left) = ap fewest is in let whole : fewest (max left right + 1) ≡ fewest (suc (suc left)) = ap fewest top in omega (arith, at, side, whole)

-- The levels of a tree of a pin and two sides can be counted, where its pins can.
pub room_above : {X : Type 0} (left right : ℕ) (l : List X) (e : X) (r : List X) → fewest left ≤ length l → fewest right ≤ length r → length (l ++ e ∷ r) < 2 ^ 64 → max left right + 1 < 2 ^ 64
room_above left right l e r few others fits =
    let is : length (l ++ e ∷ r) ≡ length l + suc (length r) = length-append l (e ∷ r) in
    let up = levels_few left in let far = levels_few right in omega (arith, is, up, far, few, others, fits)

-- It has as many pins as its height asks for.
pub low_above : {X : Type 0} (left right : ℕ) (l : List X) (e : X) (r : List X) → left ≤ right + 1 → right ≤ left + 1 → fewest left ≤ length l → fewest right ≤ length r → fewest (max left right + 1) ≤ length (l ++ e ∷ r)
low_above left right l e r near far few others =
    let is : length (l ++ e ∷ r) ≡ length l + suc (length r) = length-append l (e ∷ r) in
    let above = fewest_above left right near far in omega (arith, is, above, few, others)
