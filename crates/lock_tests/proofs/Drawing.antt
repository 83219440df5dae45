-- How the tests' first pass stands after it gave a pass and joined it again.
use Rattle.std.proofs.Common.{◌≡◌, ◌≢◌, ℕ, zero, suc, ◌+◌, ◌-◌, ◌<◌, ◌≤◌, length, sym, refl, ap, ◌∙◌, subst, arith, Some, IsSome, length-set}
use Rattle.std.specs.Prelude.{option_map}
use lib.ListN.{length-replicate}
use mathlib.Core.Logic.{dite}
use native.Mathlib.Decide.{ℕ_discrete}
use Rattle.turn_cell.specs.declared.view.View.{View}
use Rattle.turn_cell.specs.declared.view.Ledger.{Ledger}
use Rattle.turn_cell.specs.declared.view.Standing.{Standing}
use Rattle.turn_cell.specs.declared.view.Standing.TheVariants.{Unused, InUse, Joined}
use Rattle.turn_cell.specs.Passes.{standing_in, with_standing, gave, joined, ledger_joined, standing_joined, MayGive, IsAlone, first_ledger}
use Rattle.lock_tests.specs.Drawing.{IsReady, IsBack}
use Rattle.turn_cell.proofs.Standings.{standing_here, standing_else, in_ledger, all_same, unused_in_use}
use Rattle.turn_cell.proofs.Turns.{some_some, some_of}

joined_in_use : {N : Type 0} (kept : N) (s : Standing N) → s ≡ Joined kept → s ≡ InUse → ⊥
joined_in_use kept s p q = cc

module _ {M N : Type 0} where
  first_unused : (m : M) (actors a : ℕ) → 1 ≤ a → standing_in (first_ledger {N = N} m actors) a ≡ Unused
  first_unused m actors zero h = absurd (omega arith)
  first_unused m actors (suc a) h = all_same Unused (actors - 1) a

  first_in_use : (m : M) (actors a : ℕ) → standing_in (first_ledger {N = N} m actors) a ≡ InUse → a ≡ 0
  first_in_use m actors zero h = refl
  first_in_use m actors (suc a) h = absurd (unused_in_use (standing_in (first_ledger {N = N} m actors) (suc a)) (all_same Unused (actors - 1) a) h)

module _ {M E N : Type 0} where
  pub back_same : (next actors : ℕ) (v w : View M E N) → IsReady next actors v → w.ledger ≡ v.ledger → IsBack v w
  back_same next actors v w r same = record { old = r.ledger; new = r.ledger; was = r.is; is = same ∙ r.is; back = λ a h. h }

  pub may_give : (next actors : ℕ) (v : View M E N) → IsReady next actors v → next < actors → MayGive v next
  may_give next actors v r low = record { ledger = r.ledger; is = r.is; below = let e = r.all in omega arith; unused = let h : next ≤ next = omega arith in r.unused next h low }

  pub ready_next : (next actors : ℕ) (v w : View M E N) → IsReady next actors v → w ≡ gave next v → IsReady (next + 1) actors w
  ready_next next actors v w r is = record {
    ledger = with_standing next InUse r.ledger;
    is = ap (λ (z : View M E N). z.ledger) is ∙ ap (option_map (with_standing next InUse)) r.is;
    all = length-set r.ledger.standings next InUse ∙ r.all;
    unused = λ a low high. let ne : a ≢ next = λ e. omega arith in let h : next ≤ a = omega arith in standing_else r.ledger next a InUse ne ∙ r.unused a h high;
  }

  pub back_joined : (next actors : ℕ) (v first back w last : View M E N) → IsReady next actors v → first ≡ gave next v → IsBack first back → w.actor ≡ next → IsSome w.mine → last ≡ joined back w → IsBack v last
  back_joined next actors v first back w last r gave_is b named live joined_is =
      let mine = some_of w.mine live in
      let l : Ledger M N = ledger_joined w b.new in
      let given_ledger : first.ledger ≡ Some (with_standing next InUse r.ledger) = ap (λ (z : View M E N). z.ledger) gave_is ∙ ap (option_map (with_standing next InUse)) r.is in
      let old_is : b.old ≡ with_standing next InUse r.ledger = some_some b.old (with_standing next InUse r.ledger) first.ledger b.was given_ledger in
      record {
        old = r.ledger;
        new = l;
        was = r.is;
        is = ap (λ (z : View M E N). z.ledger) joined_is ∙ ap (option_map (ledger_joined w)) b.is;
        back = λ a h. dite (ℕ_discrete a w.actor)
            (λ e. let below : w.actor < length b.new.standings = let long = in_ledger l a h in omega (arith, length-set b.new.standings w.actor (standing_joined w.mine)) in
            absurd (joined_in_use mine.0 (standing_in l a) (ap (standing_in l) e ∙ (standing_here b.new w.actor (standing_joined w.mine) below ∙ ap standing_joined mine.1)) h))
            (λ ne. let other : a ≢ next = λ e. ne (e ∙ sym named) in
            sym (standing_else r.ledger next a InUse other) ∙ (sym (ap (λ (z : Ledger M N). standing_in z a) old_is) ∙ b.back a (sym (standing_else b.new w.actor a (standing_joined w.mine) ne) ∙ h)));
      }

module _ {M E N : Type 0} where
  pub first_ready : (m : M) (actors : ℕ) (v : View M E N) → 1 ≤ actors → v.ledger ≡ Some (first_ledger m actors) → IsReady 1 actors v
  first_ready m actors v some_actor is = record {
    ledger = first_ledger m actors;
    is = is;
    all = let unused : Standing N = Unused in let e = length-replicate (actors - 1) unused in omega arith;
    unused = λ a low high. first_unused m actors a low;
  }

  pub first_alone : (m : M) (actors : ℕ) (v w : View M E N) → v.ledger ≡ Some (first_ledger m actors) → IsBack v w → w.actor ≡ 0 → IsAlone w
  first_alone m actors v w is b zero_actor =
      let old_is : b.old ≡ first_ledger m actors = some_some b.old (first_ledger m actors) v.ledger b.was is in record {
        ledger = b.new;
        is = b.is;
        alone = λ a h. first_in_use m actors a (subst (λ (l : Ledger M N). standing_in l a ≡ InUse) old_is (b.back a h)) ∙ sym zero_actor;
      }
