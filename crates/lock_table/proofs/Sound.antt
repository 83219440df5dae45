-- Every call leaves a sound table, where it finds one.
use Rattle.std.proofs.Common.{◌≡◌, ◌≢◌, ℕ, zero, suc, ◌⊎◌, Bool, true, false, cond, List, [], ◌∷◌, Option, Some, None, slice_get, slice_set, replicate, refl, sym, subst, inl, inr, ⊎_elim, ◌∙◌, ap, arith}
use Rattle.std.specs.Prelude.{◌==◌}
use Rattle.std.specs.Option.{unwrap_or}
use Rattle.std.proofs.lemmas.Bool.{eqb-true}
use Rattle.std.proofs.lemmas.Option.{same_Some, none-some as none_some}
use Rattle.six_lock.specs.Modes.{Mode}
use Rattle.six_lock.specs.Modes.Mode.{Shared, Intent, Exclusive}
use Rattle.lock_table.specs.Tables.{Table, HoldsAt, IsCompatible, IsSound, StandsAbove, name_at}
use Rattle.lock_table.specs.Calls.{mode_of, Grants, Asks, Upgrades, Lowers, Drops}
use Rattle.lock_table.specs.Runs.{Call, May, Steps, Runs, fresh}
use Rattle.lock_table.specs.Runs.Call.{Ask, Upgrade, Lower, Drop_all}
use Rattle.lock_table.specs.declared.name.NodeName.{NodeName}
use Rattle.lock_table.specs.declared.wait.Waiting.{Waiting}
use Rattle.lock_table.specs.declared.table.Mode.{Mode as Wanted}
use Rattle.lock_table.specs.declared.table.Ruling.{Ruling}
use Rattle.lock_table.specs.declared.table.Ruling.TheVariants.{Granted, Wait, Restart}
use Rattle.lock_table.proofs.Compatible.{ask as compatible_ask, upgrade as compatible_upgrade, lost, none_held}
use Rattle.lock_table.proofs.Held.{not_held}

-- what stands at a place of a list after a place was set
pub placed : {X : Type 0} (xs : List X) (at place : ℕ) (x y : X) → slice_get (slice_set xs at x) place ≡ Some y → ((place ≡ at) × (x ≡ y)) ⊎ ((place ≢ at) × (slice_get xs place ≡ Some y))
placed [] at place x y is = absurd (none_some y is)
placed (z ∷ zs) zero zero x y is = inl (refl, same_Some x y is)
placed (z ∷ zs) zero (suc place) x y is = inr ((λ e. absurd (omega (arith, e))), is)
placed (z ∷ zs) (suc at) zero x y is = inr ((λ e. absurd (omega (arith, e))), is)
placed (z ∷ zs) (suc at) (suc place) x y is =
    ⊎_elim (λ here. inl (ap suc here.0, here.1)) (λ other. inr ((λ e. other.0 (omega (arith, e))), other.1)) (placed zs at place x y is)

-- an actor that waits after its answer was noted is another, or waits for what was noted
pub noted : (old new : Table) (actor : ℕ) (wait : Option Waiting) → new.waits ≡ slice_set old.waits actor wait → (a : ℕ) (w : Waiting) → slice_get new.waits a ≡ Some (Some w)
    → ((a ≡ actor) × (wait ≡ Some w)) ⊎ ((a ≢ actor) × (slice_get old.waits a ≡ Some (Some w)))
noted old new actor wait waits a w is = placed old.waits actor a wait (Some w) (ap (λ ws. slice_get ws a) (sym waits) ∙ is)

-- the name of a node after one was granted
pub granted_name : (old new : Table) (actor : ℕ) (asked : NodeName) (mode : Mode) → Grants old actor asked mode new → (b : ℕ) (name : NodeName) → name_at new b ≡ Some name
    → (name_at old b ≡ Some name) ⊎ ((name_at old b ≡ None) × (asked ≡ name) × (b ≡ asked.birth))
granted_name old new actor asked mode grants b name is = choose (b == asked.birth) (name_at old b) (eqb-true b asked.birth) (sym (grants.names b) ∙ is)
  where
    choose : (here : Bool) (was : Option NodeName) → (here ≡ true → b ≡ asked.birth) → cond here (Some (unwrap_or was asked)) was ≡ Some name
        → (was ≡ Some name) ⊎ ((was ≡ None) × (asked ≡ name) × (b ≡ asked.birth))
    choose true None means is_now = inr (refl, same_Some asked name is_now, means refl)
    choose true (Some n) means is_now = inl is_now
    choose false was means is_now = inl is_now

-- where an actor holds no node that it didn't, by the names that they had, what stood above all that it holds still does
still_above : (old new : Table) (actor : ℕ) (node : NodeName) → ((b : ℕ) (m : Mode) → HoldsAt new b actor m → (k : Mode) × HoldsAt old b actor k)
    → ((b : ℕ) (m : Mode) (name : NodeName) → HoldsAt new b actor m → name_at new b ≡ Some name → name_at old b ≡ Some name)
    → StandsAbove old actor node → StandsAbove new actor node
still_above old new actor node less names above b m held holds named = let before = less b m holds in above b before.0 held before.1 (names b m held holds named)

grant : (old new : Table) (actor : ℕ) (name : NodeName) (mode : Wanted) → IsSound old → Grants old actor name (mode_of mode) new → IsSound new
grant old new actor name mode sound grants = record {
  compatible = compatible_ask old new actor name mode Granted sound.compatible grants;
  held = λ b n is.
      ⊎_elim (λ before. let h = sound.held b n before in (h.0, (h.1.0, (grants.gains b h.0 h.1.0).1 (inl h.1.1))))
      (λ here. (actor, (mode_of mode, (grants.gains b actor (mode_of mode)).1 (inr (here.2, refl, refl)))))
      (granted_name old new actor name (mode_of mode) grants b n is);
  born = λ b n is.
      ⊎_elim (λ before. sound.born b n before) (λ here. sym (ap (λ k. k.birth) here.1) ∙ sym here.2)
      (granted_name old new actor name (mode_of mode) grants b n is);
  upward = λ a w is.
      ⊎_elim (λ own. absurd (none_some w own.1))
      (λ other. still_above old new a w.node (λ b m holds. (m, before a b m other.0 holds))
      (λ b m n holds named. ⊎_elim (λ was. was) (λ fresh_name. absurd (not_held old b a m fresh_name.0 (before a b m other.0 holds))) (granted_name old new actor name (mode_of mode) grants b n named))
      (sound.upward a w other.1))
      (noted old new actor None grants.waits a w is);
}
  where
    before : (a b : ℕ) (m : Mode) → a ≢ actor → HoldsAt new b a m → HoldsAt old b a m
    before a b m other holds = ⊎_elim (λ was. was) (λ gained. absurd (other gained.1)) ((grants.gains b a m).0 holds)

-- where nothing but the actor's wait changes
rewait : (old : Table) (actor : ℕ) (wait : Option Waiting) → IsSound old → ((w : Waiting) → wait ≡ Some w → StandsAbove old actor w.node)
    → IsSound (record old { waits = slice_set old.waits actor wait })
rewait old actor wait sound own = record {
  compatible = lost old _ sound.compatible (λ b a m h. h) (λ b a h. sound.compatible.has_intent b a h);
  held = sound.held;
  born = sound.born;
  upward = λ a w is.
      ⊎_elim (λ noted_now. subst (λ x. StandsAbove old x w.node) (sym noted_now.0) (own w noted_now.1))
      (λ other. sound.upward a w other.1)
      (placed old.waits actor a wait (Some w) is);
}

pub sound_asked : (old new : Table) (actor : ℕ) (name : NodeName) (mode : Wanted) (ruling : Ruling) → IsSound old → Asks old actor name (mode_of mode) ruling new → IsSound new
sound_asked old new actor name mode Granted sound asks = grant old new actor name mode sound asks
sound_asked old new actor name mode (Wait node holder) sound asks =
    subst IsSound (sym asks.1.left) (rewait old actor _ sound (λ w e. subst (λ (k : Waiting). StandsAbove old actor k.node) (same_Some _ w e) asks.1.above))
sound_asked old new actor name mode (Restart node holder) sound asks = subst IsSound (sym asks.1.left) (rewait old actor None sound (λ w e. absurd (none_some w e)))

-- where each node keeps its name and each actor its wait, and each holds of a node as much or as little as it did
keep : (old new : Table) → IsSound old → IsCompatible new → ((b : ℕ) → name_at new b ≡ name_at old b) → new.waits ≡ old.waits
    → ((a b : ℕ) (m : Mode) → HoldsAt new b a m → (k : Mode) × HoldsAt old b a k) → ((a b : ℕ) (m : Mode) → HoldsAt old b a m → (k : Mode) × HoldsAt new b a k) → IsSound new
keep old new sound compatible names waits less more = record {
  compatible = compatible;
  held = λ b n is. let h = sound.held b n (sym (names b) ∙ is) in (h.0, more h.0 b h.1.0 h.1.1);
  born = λ b n is. sound.born b n (sym (names b) ∙ is);
  upward = λ a w is.
      still_above old new a w.node (λ b m holds. less a b m holds) (λ b m n holds named. sym (names b) ∙ named)
      (sound.upward a w (ap (λ ws. slice_get ws a) (sym waits) ∙ is));
}

pub sound_upgraded : (old new : Table) (actor birth : ℕ) (ruling : Ruling) → IsSound old → HoldsAt old birth actor Intent → Upgrades old actor birth ruling new → IsSound new
sound_upgraded old new actor birth Granted sound intent upgrades =
    keep old new sound (compatible_upgrade old new actor birth Granted sound.compatible intent upgrades) upgrades.2.names upgrades.2.waits
    (λ a b m h. ⊎_elim (λ was. (m, was)) (λ gained. (Intent, subst (λ k. HoldsAt old k a Intent) (sym gained.0) (subst (λ k. HoldsAt old birth k Intent) (sym gained.1) intent))) ((upgrades.1 b a m).0 h))
    (λ a b m h. (m, (upgrades.1 b a m).1 (inl h)))
sound_upgraded old new actor birth (Wait node holder) sound intent upgrades = absurd upgrades
sound_upgraded old new actor birth (Restart node holder) sound intent upgrades = subst IsSound (sym upgrades.3) sound

pub sound_lowered : (old new : Table) (birth : ℕ) → IsSound old → Lowers old birth new → IsSound new
sound_lowered old new birth sound lowers = keep old new sound compatible lowers.rest.names lowers.rest.waits (λ a b m h. (m, ((lowers.holds b a m).0 h).0)) more
  where
    compatible : IsCompatible new
    compatible = lost old new sound.compatible (λ b a m h. ((lowers.holds b a m).0 h).0)
        (λ b a h. let before = (lowers.holds b a Exclusive).0 h in (lowers.holds b a Intent).1 (sound.compatible.has_intent b a before.0, λ here e. before.1 here refl))

    more : (a b : ℕ) (m : Mode) → HoldsAt old b a m → (k : Mode) × HoldsAt new b a k
    more a b Shared h = (Shared, (lowers.holds b a Shared).1 (h, λ here e. let f : Shared ≡ Exclusive = e in cc))
    more a b Intent h = (Intent, (lowers.holds b a Intent).1 (h, λ here e. let f : Intent ≡ Exclusive = e in cc))
    more a b Exclusive h = (Intent, (lowers.holds b a Intent).1 (sound.compatible.has_intent b a h, λ here e. let f : Intent ≡ Exclusive = e in cc))

pub sound_dropped : (old new : Table) (actor : ℕ) → IsSound old → Drops old actor new → IsSound new
sound_dropped old new actor sound drops = record {
  compatible =
      lost old new sound.compatible (λ b a m h. ((drops.holds b a m).0 h).0)
      (λ b a h. let before = (drops.holds b a Exclusive).0 h in (drops.holds b a Intent).1 (sound.compatible.has_intent b a before.0, before.1));
  held = λ b n is. ⊎_elim (λ held. held.0) (λ free. absurd (none_some n (sym free.1 ∙ is))) (drops.names b);
  born = λ b n is. sound.born b n (same b n is);
  upward = λ a w is.
      ⊎_elim (λ own. absurd (none_some w own.1))
      (λ other. still_above old new a w.node (λ b m holds. (m, ((drops.holds b a m).0 holds).0)) (λ b m n holds named. same b n named) (sound.upward a w other.1))
      (noted old new actor None drops.waits a w is);
}
  where
    same : (b : ℕ) (n : NodeName) → name_at new b ≡ Some n → name_at old b ≡ Some n
    same b n is = ⊎_elim (λ held. sym held.1 ∙ is) (λ free. absurd (none_some n (sym free.1 ∙ is))) (drops.names b)

-- every call
pub sound_step : (call : Call) (old new : Table) → IsSound old → May old call → Steps old call new → IsSound new
sound_step (Ask actor name mode) old new sound may steps = sound_asked old new actor name mode steps.0 sound steps.1
sound_step (Upgrade actor birth) old new sound may steps = sound_upgraded old new actor birth steps.0 sound may steps.1
sound_step (Lower actor birth) old new sound may steps = sound_lowered old new birth sound steps
sound_step (Drop_all actor) old new sound may steps = sound_dropped old new actor sound steps

-- every list of calls
sound_run : (calls : List Call) (old new : Table) → IsSound old → Runs old calls new → IsSound new
sound_run [] old new sound runs = subst IsSound (sym runs) sound
sound_run (call ∷ calls) old new sound runs = sound_run calls runs.1.0 new (sound_step call old runs.1.0 sound runs.0 runs.1.1) runs.1.2

pub nobody_waits : (count actor : ℕ) (wait : Waiting) → slice_get (replicate count None) actor ≡ Some (Some wait) → ⊥
nobody_waits zero actor wait is = none_some (Some wait) is
nobody_waits (suc count) zero wait is = none_some wait (same_Some None (Some wait) is)
nobody_waits (suc count) (suc actor) wait is = nobody_waits count actor wait is

-- a fresh table
pub sound_fresh : (count : ℕ) → IsSound (fresh count)
sound_fresh count = record {
  compatible = none_held count;
  held = λ b n is. absurd (none_some n is);
  born = λ b n is. absurd (none_some n is);
  upward = λ a w is. absurd (nobody_waits count a w is);
}

pub sound_after : (count : ℕ) (calls : List Call) (table : Table) → Runs (fresh count) calls table → IsSound table
sound_after count calls table runs = sound_run calls (fresh count) table (sound_fresh count) runs
