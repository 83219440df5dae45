-- Where each birth is asked for by one name, who is told to wait waits for the node that it asked for.
use Rattle.std.proofs.Common.{◌≡◌, ℕ, List, [], ◌∷◌, Option, Some, None, slice_get, refl, sym, subst, inl, inr, ⊎_elim, ◌∙◌, ap}
use Rattle.std.specs.Option.{unwrap_or}
use Rattle.std.proofs.lemmas.Option.{same_Some, none-some as none_some}
use Rattle.lock_table.specs.Tables.{Table, WaitsFor, name_at}
use Rattle.lock_table.specs.Calls.{mode_of, called, Asks, Upgrades}
use Rattle.lock_table.specs.Runs.{Call, Steps, Runs, IsAskedFor, HasOneName, WaitsByBirth, fresh}
use Rattle.lock_table.specs.Runs.Call.{Ask, Upgrade, Lower, Drop_all}
use Rattle.lock_table.specs.declared.name.NodeName.{NodeName}
use Rattle.lock_table.specs.declared.wait.Waiting.{Waiting}
use Rattle.lock_table.specs.declared.table.Mode.{Mode as Wanted}
use Rattle.lock_table.specs.declared.table.Ruling.{Ruling}
use Rattle.lock_table.specs.declared.table.Ruling.TheVariants.{Granted, Wait, Restart}
use Rattle.lock_table.proofs.Held.{held_name}
use Rattle.lock_table.proofs.Sound.{granted_name, noted, nobody_waits, placed, sound_after}

-- every node that is held or waited for goes by one of the names
record IsKnown (IsName : NodeName → Type 0) (table : Table) : Type 0 where
  held : (birth : ℕ) (name : NodeName) → name_at table birth ≡ Some name → IsName name
  awaited : (actor : ℕ) (wait : Waiting) → slice_get table.waits actor ≡ Some (Some wait) → IsName wait.node

module _ (IsName : NodeName → Type 0) where
  known_called : (table : Table) (name : NodeName) → IsName name → IsKnown IsName table → IsName (called table name)
  known_called table name asked known = choose (name_at table name.birth) (λ n is. known.held name.birth n is)
    where
      choose : (was : Option NodeName) → ((n : NodeName) → was ≡ Some n → IsName n) → IsName (unwrap_or was name)
      choose None means = asked
      choose (Some n) means = means n refl

  known_asked : (old new : Table) (actor : ℕ) (name : NodeName) (mode : Wanted) (ruling : Ruling) → IsName name → IsKnown IsName old → Asks old actor name (mode_of mode) ruling new → IsKnown IsName new
  known_asked old new actor name mode Granted asked known asks = record {
    held = λ b n is. ⊎_elim (λ before. known.held b n before) (λ here. subst IsName here.1 asked) (granted_name old new actor name (mode_of mode) asks b n is);
    awaited = λ a w is. ⊎_elim (λ own. absurd (none_some w own.1)) (λ other. known.awaited a w other.1) (noted old new actor None asks.waits a w is);
  }
  known_asked old new actor name mode (Wait node holder) asked known asks = subst (IsKnown IsName) (sym asks.1.left) (record {
    held = known.held;
    awaited = λ a w is.
        ⊎_elim (λ own. subst (λ (k : Waiting). IsName k.node) (same_Some _ w own.1) (known_called old name asked known)) (λ other. known.awaited a w other.1)
        (placed old.waits actor a (Some (record { node = called old name; holder = holder })) (Some w) is);
  })
  known_asked old new actor name mode (Restart node holder) asked known asks = subst (IsKnown IsName) (sym asks.1.left) (record {
    held = known.held;
    awaited = λ a w is. ⊎_elim (λ own. absurd (none_some w own.1)) (λ other. known.awaited a w other.1) (placed old.waits actor a None (Some w) is);
  })

  -- where nobody's name and nobody's wait changes
  known_kept : (old new : Table) → IsKnown IsName old → ((b : ℕ) → name_at new b ≡ name_at old b) → new.waits ≡ old.waits → IsKnown IsName new
  known_kept old new known names waits = record {
    held = λ b n is. known.held b n (sym (names b) ∙ is);
    awaited = λ a w is. known.awaited a w (ap (λ ws. slice_get ws a) (sym waits) ∙ is);
  }

  known_upgraded : (old new : Table) (actor birth : ℕ) (ruling : Ruling) → IsKnown IsName old → Upgrades old actor birth ruling new → IsKnown IsName new
  known_upgraded old new actor birth Granted known upgrades = known_kept old new known upgrades.2.names upgrades.2.waits
  known_upgraded old new actor birth (Wait node holder) known upgrades = absurd upgrades
  known_upgraded old new actor birth (Restart node holder) known upgrades = subst (IsKnown IsName) (sym upgrades.3) known

  -- The call asks for none but one of the names.
  abbrev AsksKnown : Call → Type 0
  AsksKnown (Ask actor name mode) = IsName name
  AsksKnown (Upgrade actor birth) = Unit {0}
  AsksKnown (Lower actor birth) = Unit {0}
  AsksKnown (Drop_all actor) = Unit {0}

  step : (call : Call) (old new : Table) → AsksKnown call → IsKnown IsName old → Steps old call new → IsKnown IsName new
  step (Ask actor name mode) old new asked known steps = known_asked old new actor name mode steps.0 asked known steps.1
  step (Upgrade actor birth) old new asked known steps = known_upgraded old new actor birth steps.0 known steps.1
  step (Lower actor birth) old new asked known steps = known_kept old new known steps.rest.names steps.rest.waits
  step (Drop_all actor) old new asked known steps = record {
    held = λ b n is. ⊎_elim (λ same. known.held b n (sym same.1 ∙ is)) (λ free. absurd (none_some n (sym free.1 ∙ is))) (steps.names b);
    awaited = λ a w is. ⊎_elim (λ own. absurd (none_some w own.1)) (λ other. known.awaited a w other.1) (noted old new actor None steps.waits a w is);
  }

  first_known : (call : Call) (calls : List Call) → ((n : NodeName) → IsAskedFor n (call ∷ calls) → IsName n) → AsksKnown call
  first_known (Ask actor name mode) calls known = known name (inl refl)
  first_known (Upgrade actor birth) calls known = tt
  first_known (Lower actor birth) calls known = tt
  first_known (Drop_all actor) calls known = tt

  later_known : (call : Call) (calls : List Call) → ((n : NodeName) → IsAskedFor n (call ∷ calls) → IsName n) → (n : NodeName) → IsAskedFor n calls → IsName n
  later_known (Ask actor name mode) calls known n asked = known n (inr asked)
  later_known (Upgrade actor birth) calls known n asked = known n asked
  later_known (Lower actor birth) calls known n asked = known n asked
  later_known (Drop_all actor) calls known n asked = known n asked

  run : (calls : List Call) (old new : Table) → ((n : NodeName) → IsAskedFor n calls → IsName n) → IsKnown IsName old → Runs old calls new → IsKnown IsName new
  run [] old new asked known runs = subst (IsKnown IsName) (sym runs) known
  run (call ∷ calls) old new asked known runs = run calls runs.1.0 new (later_known call calls asked) (step call old runs.1.0 (first_known call calls asked) known runs.1.1) runs.1.2

  known_after : (count : ℕ) (calls : List Call) (table : Table) → ((n : NodeName) → IsAskedFor n calls → IsName n) → Runs (fresh count) calls table → IsKnown IsName table
  known_after count calls table asked runs =
      run calls (fresh count) table asked (record { held = λ b n is. absurd (none_some n is); awaited = λ a w is. absurd (nobody_waits count a w is) }) runs

-- after every list of calls in which each birth is asked for by one name
pub one_name_awaited : (count : ℕ) (calls : List Call) (table : Table) (actor holder : ℕ) → Runs (fresh count) calls table → HasOneName calls → WaitsByBirth table actor holder → WaitsFor table actor holder
one_name_awaited count calls table actor holder runs one waits =
    let IsName : NodeName → Type 0 = λ n. IsAskedFor n calls in
    let known = known_after IsName count calls table (λ n asked. asked) runs in
    let sound = sound_after count calls table runs in
    let named = held_name table waits.node.birth holder waits.mode waits.holds in
    let same : named.0 ≡ waits.node = one named.0 waits.node (known.held waits.node.birth named.0 named.1) (known.awaited actor _ waits.asked) (sound.born waits.node.birth named.0 named.1) in
    record { node = waits.node; asked = waits.asked; mode = waits.mode; holds = waits.holds; named = named.1 ∙ ap Some same }
