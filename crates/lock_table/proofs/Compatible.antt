-- Every call leaves compatible modes, where it finds them.
use Rattle.std.proofs.Common.{◌≡◌, ◌≢◌, ℕ, Bool, true, false, IsTrue, refl, sym, subst, inl, ⊎_elim, ◌∙◌}
use Rattle.six_lock.specs.Modes.{Mode, go_together}
use Rattle.six_lock.specs.Modes.Mode.{Shared, Intent, Exclusive}
use Rattle.lock_table.specs.Tables.{Table, HoldsAt, IsCompatible, IsInTheWay}
use Rattle.lock_table.specs.Calls.{mode_of, Gains, Asks, Upgrades}
use Rattle.lock_table.specs.Runs.{fresh}
use Rattle.lock_table.specs.declared.name.NodeName.{NodeName}
use Rattle.lock_table.specs.declared.table.Mode.{Mode as Wanted}
use Rattle.lock_table.specs.declared.table.Mode.TheVariants as wanted
use Rattle.lock_table.specs.declared.table.Ruling.{Ruling}
use Rattle.lock_table.specs.declared.table.Ruling.TheVariants.{Granted, Wait, Restart}

-- modes go together in either order
together_sym : (m n : Mode) → IsTrue (go_together m n) → IsTrue (go_together n m)
together_sym Shared Shared h = h
together_sym Shared Intent h = h
together_sym Shared Exclusive h = h
together_sym Intent Shared h = h
together_sym Intent Intent h = h
together_sym Intent Exclusive h = h
together_sym Exclusive Shared h = h
together_sym Exclusive Intent h = h
together_sym Exclusive Exclusive h = h

-- a test that isn't false is true
not_false : (b : Bool) → (b ≡ false → ⊥) → IsTrue b
not_false true differs = refl
not_false false differs = absurd (differs refl)

-- what another holds goes together with a mode that nobody was in the way to
beside : (table : Table) (actor birth holder : ℕ) (mode held : Mode) → ((h : ℕ) → IsInTheWay table actor birth mode h → ⊥) → holder ≢ actor → HoldsAt table birth holder held → IsTrue (go_together mode held)
beside table actor birth holder mode held free other holds = not_false (go_together mode held) (λ clash. free holder (record { other = other; held = held; holds = holds; clash = clash }))

-- where the actor gains a mode that nobody was in the way to, and has intent if it is exclusive
pub gained : (old new : Table) (birth actor : ℕ) (mode : Mode) → IsCompatible old → ((h : ℕ) → IsInTheWay old actor birth mode h → ⊥) → Gains old birth actor mode new
    → (mode ≡ Exclusive → HoldsAt old birth actor Intent) → IsCompatible new
gained old new birth actor mode compatible free gains intent = record {
  together = λ b x y m n other first second.
      ⊎_elim (λ first_old. ⊎_elim (λ second_old. compatible.together b x y m n other first_old second_old)
      (λ second_new. together_sym n m (subst (λ k. IsTrue (go_together k m)) (sym second_new.2)
      (beside old actor birth x mode m free (λ e. other (e ∙ sym second_new.1)) (subst (λ k. HoldsAt old k x m) second_new.0 first_old))))
      ((gains b y n).0 second))
      (λ first_new. ⊎_elim (λ second_old. subst (λ k. IsTrue (go_together k n)) (sym first_new.2)
      (beside old actor birth y mode n free (λ e. other (first_new.1 ∙ sym e)) (subst (λ k. HoldsAt old k y n) first_new.0 second_old)))
      (λ second_new. absurd (other (first_new.1 ∙ sym second_new.1)))
      ((gains b y n).0 second))
      ((gains b x m).0 first);
  has_intent = λ b x exclusive.
      (gains b x Intent).1 (⊎_elim (λ before. inl (compatible.has_intent b x before))
      (λ here. inl (subst (λ k. HoldsAt old k x Intent) (sym here.0) (subst (λ k. HoldsAt old birth k Intent) (sym here.1) (intent (sym here.2)))))
      ((gains b x Exclusive).0 exclusive));
}

-- where nobody gains anything, and nobody loses intent and keeps exclusive
pub lost : (old new : Table) → IsCompatible old → ((b a : ℕ) (m : Mode) → HoldsAt new b a m → HoldsAt old b a m) → ((b a : ℕ) → HoldsAt new b a Exclusive → HoldsAt new b a Intent) → IsCompatible new
lost old new compatible less intent = record {
  together = λ b x y m n other first second. compatible.together b x y m n other (less b x m first) (less b y n second);
  has_intent = intent;
}

pub wanted_not_exclusive : (mode : Wanted) → mode_of mode ≡ Exclusive → ⊥
wanted_not_exclusive wanted.Shared e = cc
wanted_not_exclusive wanted.Intent e = cc

pub ask : (old new : Table) (actor : ℕ) (name : NodeName) (mode : Wanted) (ruling : Ruling) → IsCompatible old → Asks old actor name (mode_of mode) ruling new → IsCompatible new
ask old new actor name mode Granted compatible asks = gained old new name.birth actor (mode_of mode) compatible asks.free asks.gains (λ e. absurd (wanted_not_exclusive mode e))
ask old new actor name mode (Wait node holder) compatible asks = subst IsCompatible (sym asks.1.left) (lost old _ compatible (λ b a m h. h) (λ b a h. compatible.has_intent b a h))
ask old new actor name mode (Restart node holder) compatible asks = subst IsCompatible (sym asks.1.left) (lost old _ compatible (λ b a m h. h) (λ b a h. compatible.has_intent b a h))

pub upgrade : (old new : Table) (actor birth : ℕ) (ruling : Ruling) → IsCompatible old → HoldsAt old birth actor Intent → Upgrades old actor birth ruling new → IsCompatible new
upgrade old new actor birth Granted compatible intent upgrades = gained old new birth actor Exclusive compatible upgrades.0 upgrades.1 (λ e. intent)
upgrade old new actor birth (Wait node holder) compatible intent upgrades = absurd upgrades
upgrade old new actor birth (Restart node holder) compatible intent upgrades = subst IsCompatible (sym upgrades.3) compatible

-- of a fresh table nobody holds anything
pub none_held : (count : ℕ) → IsCompatible (fresh count)
none_held count = record { together = λ b x y m n other first second. absurd first; has_intent = λ b a h. absurd h }
