-- What the first devices give that can: how far it has come, its steps and its ends.
use Rattle.std.proofs.Common.{◌≡◌, ℕ, suc, ◌+◌, ◌<◌, ◌≤◌, Option, None, Some, List, [], ◌∷◌, ◌++◌, length, take, drop, get_or, set, refl, sym, ap, ◌∙◌, subst, arith, append_assoc, length-set}
use Rattle.std.proofs.lemmas.List.{append-nil, drop_all, drop_more, drop-set-lt, take_all, take_more_set, take_more, take-append-drop}
use Rattle.bucket_pool.specs.Places.{Picked, picked_from, with_pick}

-- The first so many members were asked: what they gave, and what the later ones give, are all that is given.
pub record Picking {G X : Type 0} (pick : ℕ → X → Option (G × X)) (count : ℕ) (initial : List X) (at left : ℕ) (given : List G) (now : List X) : Type 0 where
  pub gives : given ++ (picked_from pick at left (drop at initial)).given ≡ (picked_from pick 0 count initial).given
  pub leaves : take at now ++ (picked_from pick at left (drop at initial)).left ≡ (picked_from pick 0 count initial).left
  pub rest : drop at now ≡ drop at initial
  pub size : length now ≡ length initial

module _ {G X : Type 0} (pick : ℕ → X → Option (G × X)) (count : ℕ) (initial : List X) where
  pub picking_none : Picking pick count initial 0 count [] initial
  picking_none = record { gives = refl; leaves = refl; rest = refl; size = refl }

  -- the members from a place on, where there is one
  begins : (at : ℕ) (d : X) → at < length initial → drop at initial ≡ get_or initial at d ∷ drop (at + 1) initial
  begins at d lt = drop_more initial at d lt

  from_there : (at left : ℕ) (d : X) → at < length initial → picked_from pick at (suc left) (drop at initial)
      ≡ with_pick (pick at (get_or initial at d)) (get_or initial at d) (picked_from pick (at + 1) (suc left) (drop (at + 1) initial)) (picked_from pick (at + 1) left (drop (at + 1) initial))
  from_there at left d lt = ap (picked_from pick at (suc left)) (begins at d lt)
      ∙ ap (λ n. with_pick (pick at (get_or initial at d)) (get_or initial at d) (picked_from pick n (suc left) (drop (at + 1) initial)) (picked_from pick n left (drop (at + 1) initial))) (let same : suc at ≡ at + 1 = omega arith in same)

  -- what stands at the place that is asked next
  pub same_member : (at left : ℕ) (given : List G) (now : List X) (d : X) → at < length initial → Picking pick count initial at left given now → get_or now at d ≡ get_or initial at d
  same_member at left given now d lt so_far =
      heads _ _ _ _ (sym (drop_more now at d (subst (λ (n : ℕ). at < n) (sym so_far.size) lt)) ∙ so_far.rest ∙ begins at d lt)
    where
      heads : (x y : X) (xs ys : List X) → ◌≡◌ {A = List X} (x ∷ xs) (y ∷ ys) → x ≡ y
      heads x y xs ys is = cc

  tails : (at : ℕ) (now : List X) (d : X) → at < length now → at < length initial → drop at now ≡ drop at initial → drop (at + 1) now ≡ drop (at + 1) initial
  tails at now d lt here is = heads _ _ _ _ (sym (drop_more now at d lt) ∙ is ∙ begins at d here)
    where
      heads : (x y : X) (xs ys : List X) → ◌≡◌ {A = List X} (x ∷ xs) (y ∷ ys) → xs ≡ ys
      heads x y xs ys is = cc

  with_none : (o : Option (G × X)) (x : X) (none some : Picked G X) → o ≡ None → with_pick o x none some ≡ record { given = none.given; left = x ∷ none.left }
  with_none o x none some is = ap (λ (p : Option (G × X)). with_pick p x none some) is

  with_some : (o : Option (G × X)) (x : X) (none some : Picked G X) (pair : G × X) → o ≡ Some pair → with_pick o x none some ≡ record { given = pair.0 ∷ some.given; left = pair.1 ∷ some.left }
  with_some o x none some pair is = ap (λ (p : Option (G × X)). with_pick p x none some) is

  -- a member that gives nothing
  pub picking_skips : (at left : ℕ) (given : List G) (now : List X) (d : X) → at < length initial → Picking pick count initial at (suc left) given now → pick at (get_or initial at d) ≡ None
      → Picking pick count initial (at + 1) (suc left) given now
  picking_skips at left given now d lt so_far is =
      let later = picked_from pick (at + 1) (suc left) (drop (at + 1) initial) in
      let x = get_or initial at d in
      let here : picked_from pick at (suc left) (drop at initial) ≡ record { given = later.given; left = x ∷ later.left }
      = from_there at left d lt ∙ with_none (pick at x) x later (picked_from pick (at + 1) left (drop (at + 1) initial)) is in
      let there : at < length now = subst (λ (n : ℕ). at < n) (sym so_far.size) lt in
      record {
        gives = ap (λ (p : Picked G X). given ++ p.given) (sym here) ∙ so_far.gives;
        leaves = ap (λ list. list ++ later.left) (take_more now at d there) ∙ append_assoc (take at now) (get_or now at d ∷ []) later.left
            ∙ ap (λ y. take at now ++ (y ∷ later.left)) (same_member at (suc left) given now d lt so_far) ∙ ap (λ (p : Picked G X). take at now ++ p.left) (sym here) ∙ so_far.leaves;
        rest = tails at now d there lt so_far.rest;
        size = so_far.size;
      }

  -- a member that gives something
  pub picking_takes : (at left : ℕ) (given : List G) (now : List X) (d : X) (gift : G) (member : X) → at < length initial → Picking pick count initial at (suc left) given now → pick at (get_or initial at d) ≡ Some (gift, member)
      → Picking pick count initial (at + 1) left (given ++ gift ∷ []) (set now at member)
  picking_takes at left given now d gift member lt so_far is =
      let later = picked_from pick (at + 1) left (drop (at + 1) initial) in
      let x = get_or initial at d in
      let here : picked_from pick at (suc left) (drop at initial) ≡ record { given = gift ∷ later.given; left = member ∷ later.left }
      = from_there at left d lt ∙ with_some (pick at x) x (picked_from pick (at + 1) (suc left) (drop (at + 1) initial)) later (gift, member) is in
      let there : at < length now = subst (λ (n : ℕ). at < n) (sym so_far.size) lt in
      record {
        gives = append_assoc given (gift ∷ []) later.given ∙ ap (λ (p : Picked G X). given ++ p.given) (sym here) ∙ so_far.gives;
        leaves = ap (λ list. list ++ later.left) (take_more_set now at member there) ∙ append_assoc (take at now) (member ∷ []) later.left
            ∙ ap (λ (p : Picked G X). take at now ++ p.left) (sym here) ∙ so_far.leaves;
        rest = drop-set-lt (at + 1) now at member (let less : at < at + 1 = omega arith in less) ∙ tails at now d there lt so_far.rest;
        size = length-set now at member ∙ so_far.size;
      }

  none_more : (at : ℕ) (xs : List X) → picked_from pick at 0 xs ≡ record { given = []; left = xs }
  none_more at [] = refl
  none_more at (x ∷ xs) = refl

  -- nothing more is wanted
  pub picking_full : (at : ℕ) (given : List G) (now : List X) → Picking pick count initial at 0 given now → (given ≡ (picked_from pick 0 count initial).given) × (now ≡ (picked_from pick 0 count initial).left)
  picking_full at given now so_far = (
    sym (append-nil given) ∙ ap (λ (p : Picked G X). given ++ p.given) (sym (none_more at (drop at initial))) ∙ so_far.gives,
    sym (take-append-drop at now) ∙ ap (λ list. take at now ++ list) so_far.rest ∙ ap (λ (p : Picked G X). take at now ++ p.left) (sym (none_more at (drop at initial))) ∙ so_far.leaves,
  )

  -- all members were asked
  pub picking_all : (at left : ℕ) (given : List G) (now : List X) → length initial ≤ at → Picking pick count initial at left given now → (given ≡ (picked_from pick 0 count initial).given) × (now ≡ (picked_from pick 0 count initial).left)
  picking_all at left given now le so_far =
      let gone : drop at initial ≡ [] = drop_all at initial le in
      let here : picked_from pick at left (drop at initial) ≡ record { given = []; left = [] } = ap (picked_from pick at left) gone in (
        sym (append-nil given) ∙ ap (λ (p : Picked G X). given ++ p.given) (sym here) ∙ so_far.gives,
        sym (take_all at now (subst (λ (n : ℕ). n ≤ at) (sym so_far.size) le)) ∙ sym (append-nil (take at now)) ∙ ap (λ (p : Picked G X). take at now ++ p.left) (sym here) ∙ so_far.leaves,
      )
