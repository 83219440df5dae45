-- The place of a further subvolume among those of a slot.
use Rattle.std.proofs.Common.{◌≡◌, ℕ, suc, ◌+◌, ◌≤◌, Bool, true, false, cond, Some, None, List, [], ◌∷◌, refl, ap, ◌∙◌, arith, length}
use Rattle.std.specs.Prelude.{nat_lt, not, unwrap_or}
use Rattle.std.proofs.lemmas.Bool.{ltb-false}
use Rattle.std.proofs.lemmas.List.Sums.{prefix_len-le-length}
use Rattle.std.specs.List.{insert, position, position_or_len}
use Rattle.std.specs.Ordering.{is_lt}
use Rattle.id_steps.specs.SlotLists.{with_sub}
use Rattle.vol_types.specs.Ranges.{name_cmp}
use Rattle.vol_types.specs.declared.values.Sub.{Sub}

next : (n : ℕ) → 1 + n ≡ suc n
next n = omega arith

-- A subvolume that is put before the first one whose name is above its stands in their order.
pub inserted : (sub : Sub) (subs : List Sub) → insert subs (position_or_len (λ (other : Sub). is_lt (name_cmp sub.name other.name)) subs) sub ≡ with_sub sub subs
inserted sub [] = refl
inserted sub (other ∷ subs) = by (is_lt (name_cmp sub.name other.name)) (inserted sub subs)
  where
    place : ℕ
    place = position_or_len (λ (s : Sub). is_lt (name_cmp sub.name s.name)) subs

    by : (b : Bool) → insert subs place sub ≡ with_sub sub subs
        → insert (other ∷ subs) (cond (not b) (1 + place) 0) sub ≡ cond b (sub ∷ other ∷ subs) (other ∷ with_sub sub subs)
    by true later = refl
    by false later = ap (λ n. insert (other ∷ subs) n sub) (next place) ∙ ap (λ all. other ∷ all) later

-- The place of the first that passes, or the end.
pub place_or_end : {X : Type 0} (test : X → Bool) (xs : List X) → unwrap_or (position test xs) (length xs) ≡ position_or_len test xs
place_or_end test xs = by (nat_lt (position_or_len test xs) (length xs)) refl
  where
    by : (b : Bool) → nat_lt (position_or_len test xs) (length xs) ≡ b → unwrap_or (cond b (Some (position_or_len test xs)) None) (length xs) ≡ position_or_len test xs
    by true below = refl
    by false end = omega (arith, ltb-false (position_or_len test xs) (length xs) end, prefix_len-le-length (λ x. not (test x)) xs)

pub place_within : {X : Type 0} (test : X → Bool) (xs : List X) → position_or_len test xs ≤ length xs
place_within test xs = prefix_len-le-length (λ x. not (test x)) xs
