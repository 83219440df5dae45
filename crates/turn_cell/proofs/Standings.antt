-- Ledgers after one standing has changed.
use Rattle.std.proofs.Common.{◌≡◌, ◌≢◌, ℕ, zero, suc, ◌-◌, ◌<◌, List, [], ◌∷◌, length, get_or, replicate, sym, refl, subst, arith, get_or-set_other, get_or-set_same}
use mathlib.Core.Logic.{dite}
use native.Mathlib.Decide.{ℕ_discrete}
use Rattle.turn_cell.specs.declared.view.Ledger.{Ledger}
use Rattle.turn_cell.specs.declared.view.Standing.{Standing}
use Rattle.turn_cell.specs.declared.view.Standing.TheVariants.{Unused, InUse}
use Rattle.turn_cell.specs.Passes.{standing_in, with_standing, first_ledger, Stands, AllStand}

module _ {N : Type 0} where
  pub unused_in_use : (a : Standing N) → a ≡ Unused → a ≡ InUse → ⊥
  unused_in_use a p q = cc

  -- who has a standing other than Unused is in the ledger
  in_list : (xs : List (Standing N)) (i : ℕ) → get_or xs i Unused ≡ InUse → i < length xs
  in_list [] i e = absurd (unused_in_use Unused refl e)
  in_list (x ∷ xs) zero e = omega arith
  in_list (x ∷ xs) (suc i) e = let h = in_list xs i e in omega arith

  pub all_same : (x : Standing N) (n i : ℕ) → get_or (replicate n x) i x ≡ x
  all_same x zero i = refl
  all_same x (suc n) zero = refl
  all_same x (suc n) (suc i) = all_same x n i

module _ {M N : Type 0} where
  pub in_ledger : (l : Ledger M N) (actor : ℕ) → standing_in l actor ≡ InUse → actor < length l.standings
  in_ledger l actor e = in_list l.standings actor e

  pub standing_here : (l : Ledger M N) (actor : ℕ) (standing : Standing N) → actor < length l.standings → standing_in (with_standing actor standing l) actor ≡ standing
  standing_here l actor standing h = get_or-set_same l.standings actor standing Unused h

  pub standing_else : (l : Ledger M N) (actor other : ℕ) (standing : Standing N) → other ≢ actor → standing_in (with_standing actor standing l) other ≡ standing_in l other
  standing_else l actor other standing ne = get_or-set_other l.standings actor other standing Unused ne

module _ {M N : Type 0} (mine_of : M → ℕ → N) where
  -- one standing changes
  pub stand_with : (l : Ledger M N) (m : M) (actor : ℕ) (standing : Standing N) → actor < length l.standings → Stands mine_of l.opening m actor standing → AllStand mine_of m l → AllStand mine_of m (with_standing actor standing l)
  stand_with l m actor standing h here all a = dite (ℕ_discrete a actor)
      (λ e. subst (λ (b : ℕ). Stands mine_of l.opening m b (standing_in (with_standing actor standing l) b)) (sym e) (subst (Stands mine_of l.opening m actor) (sym (standing_here l actor standing h)) here))
      (λ ne. subst (Stands mine_of l.opening m a) (sym (standing_else l actor a standing ne)) (all a))

  -- at the opening
  pub stand_first : (m : M) (passes a : ℕ) → Stands mine_of m m a (standing_in (first_ledger m passes) a)
  stand_first m passes zero = tt
  stand_first m passes (suc a) = subst (Stands mine_of m m (suc a)) (sym (all_same Unused (passes - 1) a)) refl
