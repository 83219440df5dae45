-- Lists of views after one of them has changed, and prefixes.
use Rattle.std.proofs.Common.{◌≡◌, ◌≢◌, ◌⊎◌, ℕ, zero, suc, ◌<◌, List, [], ◌∷◌, ◌++◌, length, set, sym, refl, ap, ◌∙◌, inl, inr, ⊎_elim, arith, Some}
use mathlib.Core.Option.{some, some-injective, some-ne-none}
use lib.ListN.{get_elem?}
use Rattle.atomic_table.proofs.Lists.{at_set}
use Rattle.turn_cell.specs.declared.view.View.{View}

module _ {A : Type 0} where
  pub at_below : (l : List A) (i : ℕ) (a : A) → get_elem? l i ≡ some a → i < length l
  at_below [] i a e = absurd (some-ne-none a (sym e))
  at_below (x ∷ xs) zero a e = omega arith
  at_below (x ∷ xs) (suc i) a e = let h = at_below xs i a e in omega arith

  -- what stands in a list with one member more
  pub at_end : (l : List A) (a : A) (j : ℕ) (b : A) → get_elem? (l ++ a ∷ []) j ≡ some b → (get_elem? l j ≡ some b) ⊎ ((j ≡ length l) × (a ≡ b))
  at_end [] a zero b e = inr (refl, some-injective a b e)
  at_end [] a (suc j) b e = absurd (some-ne-none b (sym e))
  at_end (x ∷ xs) a zero b e = inl e
  at_end (x ∷ xs) a (suc j) b e = ⊎_elim (λ (p : get_elem? xs j ≡ some b). inl p) (λ (p : (j ≡ length xs) × (a ≡ b)). inr (ap suc p.0, p.1)) (at_end xs a j b e)

  pub one_at : (l : List A) (i : ℕ) (a b : A) → get_elem? l i ≡ some a → get_elem? l i ≡ some b → a ≡ b
  one_at l i a b p q = some-injective a b (sym p ∙ q)

module _ {M E N : Type 0} where
  -- No two unspent views have one actor.
  abbrev pub Apart : List (View M E N) → Type 0
  Apart vs = (i j : ℕ) (v w : View M E N) (x y : N) → get_elem? vs i ≡ some v → get_elem? vs j ≡ some w → v.mine ≡ Some x → w.mine ≡ Some y → v.actor ≡ w.actor → i ≡ j

  -- Each unspent view had one with the same actor in its place.
  abbrev pub Back : List (View M E N) → List (View M E N) → Type 0
  Back vs ws = (i : ℕ) (v : View M E N) (x : N) → get_elem? ws i ≡ some v → v.mine ≡ Some x → (u : View M E N) × (y : N) × (get_elem? vs i ≡ some u) × (u.mine ≡ Some y) × (u.actor ≡ v.actor)

  pub apart_back : (vs ws : List (View M E N)) → Apart vs → Back vs ws → Apart ws
  apart_back vs ws apart back i j v w x y at_i at_j is_v is_w same =
      let p = back i v x at_i is_v in let q = back j w y at_j is_w in
      apart i j p.0 q.0 p.1 q.1 p.2 q.2 p.3 q.3 (p.4 ∙ (same ∙ sym q.4))

  pub back_set : (vs : List (View M E N)) (id : ℕ) (v w : View M E N) (x : N) → get_elem? vs id ≡ some v → v.mine ≡ Some x → w.actor ≡ v.actor → Back vs (set vs id w)
  back_set vs id v w x at is same i u y e is_u =
      ⊎_elim (λ (t : (i ≡ id) × (w ≡ u)). (v, x, ap (get_elem? vs) t.0 ∙ at, is, sym same ∙ ap (λ (z : View M E N). z.actor) t.1))
      (λ (t : (i ≢ id) × (get_elem? vs i ≡ some u)). (u, y, t.1, is_u, refl))
      (at_set vs id i w u e)

  -- a view more, of an actor that no other has
  pub apart_push : (vs : List (View M E N)) (w : View M E N) → Apart vs → ((i : ℕ) (u : View M E N) (z : N) → get_elem? vs i ≡ some u → u.mine ≡ Some z → u.actor ≢ w.actor) → Apart (vs ++ w ∷ [])
  apart_push vs w apart new i j a b x y at_i at_j is_a is_b same =
      ⊎_elim
      (λ (p : get_elem? vs i ≡ some a). ⊎_elim
      (λ (q : get_elem? vs j ≡ some b). apart i j a b x y p q is_a is_b same)
      (λ (q : (j ≡ length vs) × (w ≡ b)). absurd (new i a x p is_a (same ∙ ap (λ (z : View M E N). z.actor) (sym q.1))))
      (at_end vs w j b at_j))
      (λ (p : (i ≡ length vs) × (w ≡ a)). ⊎_elim
      (λ (q : get_elem? vs j ≡ some b). absurd (new j b y q is_b (sym same ∙ ap (λ (z : View M E N). z.actor) (sym p.1))))
      (λ (q : (j ≡ length vs) × (w ≡ b)). p.0 ∙ sym q.0)
      (at_end vs w j b at_j))
      (at_end vs w i a at_i)
