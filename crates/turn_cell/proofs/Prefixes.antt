-- The longer of two prefixes of one list.
use Rattle.std.proofs.Common.{◌≡◌, ◌≤◌, Bool, true, false, List, [], ◌∷◌, ◌++◌, length, sym, refl, ap, ◌∙◌, arith, length-append}
use Rattle.std.specs.Prelude.{nat_lt, if◌then◌else◌}
use Rattle.std.proofs.lemmas.Bool.{ltb-true, ltb-false}
use mathlib.Core.List.{IsPrefix, append-nil}
use Rattle.turn_cell.specs.Passes.{longer}

module _ {E : Type 0} where
  -- a prefix that is no shorter is the whole
  nothing_left : (xs rest ys : List E) → xs ++ rest ≡ ys → length ys ≤ length xs → xs ≡ ys
  nothing_left xs [] ys e h = sym (append-nil xs) ∙ e
  nothing_left xs (x ∷ rest) ys e h = absurd (omega (arith, length-append xs (x ∷ rest), ap length e))

  pub prefix_length : (xs ys : List E) → IsPrefix xs ys → length xs ≤ length ys
  prefix_length xs ys p = omega (arith, length-append xs p.0, ap length p.1)

  either_way : (P : List E → Type 0) (b : Bool) (xs ys : List E) → P xs → P ys → P (if b then ys else xs)
  either_way P true xs ys p q = q
  either_way P false xs ys p q = p

  pub longer_prefix : (xs ys t : List E) → IsPrefix xs t → IsPrefix ys t → IsPrefix (longer xs ys) t
  longer_prefix xs ys t p q = either_way (λ (z : List E). IsPrefix z t) (nat_lt (length xs) (length ys)) xs ys p q

  first_whole : (b : Bool) (xs ys t : List E) → nat_lt (length xs) (length ys) ≡ b → xs ≡ t → IsPrefix ys t → (if b then ys else xs) ≡ t
  first_whole true xs ys t e is p = let h = ltb-true (length xs) (length ys) e in absurd (omega (arith, prefix_length ys t p, ap length is))
  first_whole false xs ys t e is p = is

  -- the longer one is the whole where the first is
  pub longer_first : (xs ys t : List E) → xs ≡ t → IsPrefix ys t → longer xs ys ≡ t
  longer_first xs ys t is p = first_whole (nat_lt (length xs) (length ys)) xs ys t refl is p

  second_whole : (b : Bool) (xs ys t : List E) → nat_lt (length xs) (length ys) ≡ b → ys ≡ t → IsPrefix xs t → (if b then ys else xs) ≡ t
  second_whole true xs ys t e is p = is
  second_whole false xs ys t e is p = let h = ltb-false (length xs) (length ys) e in nothing_left xs p.0 t p.1 (omega (arith, ap length is))

  -- the same where the second is
  pub longer_second : (xs ys t : List E) → ys ≡ t → IsPrefix xs t → longer xs ys ≡ t
  longer_second xs ys t is p = second_whole (nat_lt (length xs) (length ys)) xs ys t refl is p
