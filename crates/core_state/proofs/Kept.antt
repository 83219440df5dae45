-- What is kept of a volume and its actors stays so where one actor changes.
use Rattle.std.proofs.Common.{◌≡◌, ℕ, ◌<◌, Bool, true, false, cond, not, Option, Some, None, List, [], ◌∷◌, length, refl, sym, ap, ◌∙◌, subst, arith, ⊎_elim}
use Rattle.std.specs.Prelude.{◌≢◌, ◌==◌, ◌||◌, IfSome, is_some, slice_index_or, slice_set}
use Rattle.std.proofs.lemmas.Bool.{cases_eq, eqb-true, true≢false}
use Rattle.std.proofs.lemmas.List.{get_or-set_same, get_or-set_other, get_or_default, length-set}
use Rattle.std.proofs.lemmas.List.Elements.{All-nil, All-push}
use Rattle.std.proofs.lemmas.Option.{same_Some, none-some as none_some}
use Rattle.btree_map.specs.Trees.{Trees, keys_in}
use Rattle.vol_types.specs.declared.layout.Layout.{Layout}
use Rattle.vol_types.specs.KeyMaps.{GivesLooks, IsLook, answer_of}
use Rattle.vol_types.specs.declared.keys.Update.{Update}
use Rattle.vol_types.specs.declared.queries.Query.{Query}
use Rattle.vol_types.specs.declared.queries.Look.{Look}
use Rattle.core_actors.specs.Actors.{begun, dropped, ended, holds, idle_actor, told_of, with_fault, with_ids, with_intent, with_look}
use Rattle.core_volume.specs.Commits.{AreIntended}
use Rattle.core_actors.specs.declared.answer.Answer.{Answer}
use Rattle.core_state.specs.Events.{IsTold, SealGives, noted_fault}
use Rattle.core_volume.specs.declared.commit.VolumeFault.{VolumeFault}
use Rattle.core_volume.specs.declared.commit.VolumeFault.TheVariants.{NoMemory, Refused}
use Rattle.journal_writer.specs.declared.stage.Stage.{Stage}
use Rattle.journal_writer.specs.declared.stage.Stage.TheVariants.{Seal}
use Rattle.core_volume.specs.Sealing.{IsOtherStage}
use Rattle.core_state.specs.States.{IsActor, IsState, State, actor_count, mine, other_holder}
use Rattle.core_volume.specs.Volumes.{IsVolume, Volume, first_halt, halted_at}
use Rattle.vol_types.specs.declared.failure.Halt.{Halt}
use Rattle.core_volume.proofs.Written.{halted-kept}
use Rattle.core_actors.specs.declared.actor.Actor.{Actor}

-- The turn is one actor's at most: whoever isn't the actor that changes still has the turn if it had it.
abbrev pub KeepsTurns : ℕ → Option ℕ → Option ℕ → Type 0
KeepsTurns actor before after = (number : ℕ) → number ≢ actor → before ≡ Some number → after ≡ Some number

module _ (old : State) (is : IsState old) (actor : ℕ) (there : actor < actor_count) (changed : Actor) (turn : Option ℕ) where
  -- One actor changes, and the turn with it.
  pub kept : IsActor old.volume turn actor changed → KeepsTurns actor old.turn turn → IfSome turn (λ holder. holder < actor_count)
      → IsState (record { volume = old.volume; actors = slice_set old.actors actor changed; turn = turn })
  kept own others holder = record {
    volume = is.volume;
    count = length-set old.actors actor changed ∙ is.count;
    holder = holder;
    each = λ number. ⊎_elim (λ same. here number same) (λ other. elsewhere number other) (cases_eq number actor);
  }
    where
      here : (number : ℕ) → number ≡ actor → IsActor old.volume turn number (mine (record { volume = old.volume; actors = slice_set old.actors actor changed; turn = turn }) number)
      here number same =
          subst (λ (n : ℕ). IsActor old.volume turn n (mine (record { volume = old.volume; actors = slice_set old.actors actor changed; turn = turn }) n)) (sym same)
          (subst (λ (a : Actor). IsActor old.volume turn actor a) (sym (get_or-set_same old.actors actor changed idle_actor (subst (λ (n : ℕ). actor < n) (sym is.count) there))) own)

      elsewhere : (number : ℕ) → number ≢ actor → IsActor old.volume turn number (mine (record { volume = old.volume; actors = slice_set old.actors actor changed; turn = turn }) number)
      elsewhere number other =
          subst (λ (a : Actor). IsActor old.volume turn number a) (sym (get_or-set_other old.actors actor number changed idle_actor other))
          (record {
            has_turn = λ held. others number other ((is.each number).has_turn held);
            looks = (is.each number).looks;
            intended = (is.each number).intended;
          })

-- A test whose opposite fails holds.
not-false : (b : Bool) → not b ≡ false → b ≡ true
not-false true is = refl
not-false false is = absurd (true≢false is)

-- Who takes the turn where no other actor has it, has it, and nobody loses it.
pub taking-keeps_turns : (actor : ℕ) (before : Option ℕ) → other_holder actor before ≡ None → KeepsTurns actor before (Some actor)
taking-keeps_turns actor None free number other is = absurd (none_some number is)
taking-keeps_turns actor (Some holder) free number other is =
    by (holder == actor) refl free
  where
    by : (b : Bool) → (holder == actor) ≡ b → cond b None (Some holder) ≡ None → Some actor ≡ Some number
    by true same none = absurd (other (sym (same_Some holder number is) ∙ eqb-true holder actor same))
    by false apart none = absurd (none_some holder (sym none))

-- Whoever gives the turn back, nobody else loses it.
pub giving-keeps_turns : (actor : ℕ) (before : Option ℕ) → KeepsTurns actor before (other_holder actor before)
giving-keeps_turns actor None number other is = is
giving-keeps_turns actor (Some holder) number other is =
    by (holder == actor) refl
  where
    by : (b : Bool) → (holder == actor) ≡ b → cond b None (Some holder) ≡ Some number
    by true same = absurd (other (sym (same_Some holder number is) ∙ eqb-true holder actor same))
    by false apart = is

-- The turn stays with an actor that is there.
pub holder-given_back : (actor : ℕ) (before : Option ℕ) → IfSome before (λ holder. holder < actor_count) → IfSome (other_holder actor before) (λ holder. holder < actor_count)
holder-given_back actor None there = there
holder-given_back actor (Some holder) there = by (holder == actor)
  where
    by : (b : Bool) → IfSome (cond b None (Some holder)) (λ h. h < actor_count)
    by true = tt
    by false = there

-- Who holds nothing has no looks.
pub free-no_looks : (actor : Actor) → holds actor ≡ false → actor.looks ≡ []
free-no_looks actor free = by actor.has_ids (is_some actor.intended) free
  where
    none : (looks : List Look) → not (length looks == 0) ≡ false → looks ≡ []
    none [] is = refl
    none (look ∷ looks) is = absurd (omega (arith, eqb-true (length (look ∷ looks)) 0 (not-false (length (look ∷ looks) == 0) is)))

    by : (ids intends : Bool) → (ids || intends || not (length actor.looks == 0)) ≡ false → actor.looks ≡ []
    by true intends is = absurd (true≢false is)
    by false true is = absurd (true≢false is)
    by false false is = none actor.looks is

-- No looks are given by all keys.
pub no_looks-given : (volume : Volume) (looks : List Look) → looks ≡ [] → GivesLooks (keys_in volume.trees) looks
no_looks-given volume looks none = subst (λ (ls : List Look). GivesLooks (keys_in volume.trees) ls) (sym none) (record { each = All-nil (IsLook (keys_in volume.trees)) })

-- What an actor keeps by its own events.
module _ (volume : Volume) (turn : Option ℕ) (number : ℕ) (actor : Actor) (is : IsActor volume turn number actor) where
  pub begun-kept : (first : Bool) (commits : ℕ) → IsActor volume turn number (begun first commits actor)
  begun-kept first commits = record { has_turn = is.has_turn; looks = is.looks; intended = is.intended }

  pub told-kept : (stage : Stage) (durable : Bool) → IsActor volume turn number (told_of stage durable actor)
  told-kept stage durable = record { has_turn = is.has_turn; looks = is.looks; intended = is.intended }

  pub noted-kept : (why : VolumeFault) → IsActor volume turn number (noted_fault why actor)
  noted-kept (Refused refusal) = record { has_turn = is.has_turn; looks = is.looks; intended = is.intended }
  noted-kept NoMemory = is

  pub fault-kept : (dev : ℕ) → IsActor volume turn number (with_fault dev actor)
  fault-kept dev = record { has_turn = is.has_turn; looks = is.looks; intended = is.intended }

  -- A look is answered by the keys.
  pub looked-kept : (query : Query) → IsActor volume (Some number) number (with_look query (answer_of query (keys_in volume.trees)) actor)
  looked-kept query = record {
    has_turn = λ held. refl;
    looks = record { each = All-push (IsLook (keys_in volume.trees)) actor.looks (record { query = query; answer = answer_of query (keys_in volume.trees) }) is.looks.each refl };
    intended = is.intended;
  }

  -- Who has looked at the trees of ids has the turn.
  pub ids-kept : IsActor volume (Some number) number (with_ids actor)
  ids-kept = record { has_turn = λ held. refl; looks = is.looks; intended = is.intended }

  pub intends-kept : (updates : List Update) → AreIntended volume.layout.metadata_replicas updates → IsActor volume (Some number) number (with_intent (Some updates) actor)
  intends-kept updates are = record { has_turn = λ held. refl; looks = is.looks; intended = are }

-- Who has no transaction needs no turn.
pub ended-kept : (volume : Volume) (turn : Option ℕ) (number : ℕ) (actor : Actor) → IsActor volume turn number (ended actor)
ended-kept volume turn number actor = record {
  has_turn = λ held. absurd (true≢false (sym held));
  looks = record { each = All-nil (IsLook (keys_in volume.trees)) };
  intended = tt;
}

-- So it is where the transaction alone is over.
pub dropped-kept : (volume : Volume) (turn : Option ℕ) (number : ℕ) (actor : Actor) → IsActor volume turn number (dropped actor)
dropped-kept volume turn number actor = record {
  has_turn = λ held. absurd (true≢false (sym held));
  looks = record { each = All-nil (IsLook (keys_in volume.trees)) };
  intended = tt;
}

-- An actor of a list of actors changes, and what it keeps is kept.
module _ (volume : Volume) (actors : List Actor) (turn : Option ℕ) (is : IsState (record { volume = volume; actors = actors; turn = turn })) (actor : ℕ) (there : actor < actor_count)
    (index : ℕ) (at : index ≡ actor) (mine_now : Actor) (value : mine_now ≡ slice_index_or actors index mine_now) (change : Actor → Actor) where
  -- the actor as it was
  was : mine (record { volume = volume; actors = actors; turn = turn }) actor ≡ mine_now
  was = get_or_default actors actor idle_actor mine_now (subst (λ (n : ℕ). actor < n) (sym is.count) there) ∙ ap (λ (n : ℕ). slice_index_or actors n mine_now) (sym at) ∙ sym value

  was_kept : IsActor volume turn actor mine_now
  was_kept = subst (λ (a : Actor). IsActor volume turn actor a) was (is.each actor)

  -- with the turn as it was
  pub changed-kept : (IsActor volume turn actor mine_now → IsActor volume turn actor (change mine_now)) → (after : Actor) → after ≡ change mine_now
      → IsState (record { volume = volume; actors = slice_set actors index after; turn = turn })
  changed-kept keeps after same =
      subst (λ (n : ℕ). IsState (record { volume = volume; actors = slice_set actors n after; turn = turn })) (sym at)
      (subst (λ (a : Actor). IsState (record { volume = volume; actors = slice_set actors actor a; turn = turn })) (sym same)
      (kept (record { volume = volume; actors = actors; turn = turn }) is actor there (change mine_now) turn (keeps was_kept) (λ number other before. before) is.holder))

  -- with the turn taken
  pub taken-kept : other_holder actor turn ≡ None → (IsActor volume turn actor mine_now → IsActor volume (Some actor) actor (change mine_now)) → (after : Actor) → after ≡ change mine_now
      → IsState (record { volume = volume; actors = slice_set actors index after; turn = Some actor })
  taken-kept free keeps after same =
      subst (λ (n : ℕ). IsState (record { volume = volume; actors = slice_set actors n after; turn = Some actor })) (sym at)
      (subst (λ (a : Actor). IsState (record { volume = volume; actors = slice_set actors actor a; turn = Some actor })) (sym same)
      (kept (record { volume = volume; actors = actors; turn = turn }) is actor there (change mine_now) (Some actor) (keeps was_kept) (taking-keeps_turns actor turn free) there))

  -- with the turn given back
  pub given_back-kept : ((t : Option ℕ) → IsActor volume t actor (change mine_now)) → (after : Actor) → after ≡ change mine_now → (left : Option ℕ) → left ≡ other_holder actor turn
      → IsState (record { volume = volume; actors = slice_set actors index after; turn = left })
  given_back-kept keeps after same left given =
      subst (λ (n : ℕ). IsState (record { volume = volume; actors = slice_set actors n after; turn = left })) (sym at)
      (subst (λ (a : Actor). IsState (record { volume = volume; actors = slice_set actors actor a; turn = left })) (sym same)
      (subst (λ (t : Option ℕ). IsState (record { volume = volume; actors = slice_set actors actor (change mine_now); turn = t })) (sym given)
      (kept (record { volume = volume; actors = actors; turn = turn }) is actor there (change mine_now) (other_holder actor turn) (keeps (other_holder actor turn)) (giving-keeps_turns actor turn) (holder-given_back actor turn is.holder))))

-- The entries that are written change, and no keys: what is kept of all actors stays.
pub journal-kept : (old : State) → IsState old → (volume : Volume) → IsVolume volume → volume.trees ≡ old.volume.trees → volume.layout ≡ old.volume.layout → IsState (record { volume = volume; actors = old.actors; turn = old.turn })
journal-kept old is volume sound trees layout = record {
  volume = sound;
  count = is.count;
  holder = is.holder;
  each = λ number. record {
    has_turn = (is.each number).has_turn;
    looks = subst (λ (t : Trees). GivesLooks (keys_in t) (mine old number).looks) (sym trees) (is.each number).looks;
    intended = subst (λ (l : Layout). IfSome (mine old number).intended (AreIntended l.metadata_replicas)) (sym layout) (is.each number).intended;
  };
}

-- So it does where the session stops writing.
pub stopped-kept : (old : State) → IsState old → (halt : Halt) (volume : Volume) → volume ≡ halted_at halt old.volume → IsState (record { volume = volume; actors = old.actors; turn = old.turn })
stopped-kept old is halt volume same =
    journal-kept old is volume (subst IsVolume (sym same) (halted-kept old.volume is.volume (first_halt halt old.volume.halted))) (ap (λ (v : Volume). v.trees) same) (ap (λ (v : Volume). v.layout) same)

-- What an actor is told where no entry is to be sealed.
pub seal-told : (old new : State) (actor : ℕ) (answer : Answer) → IsOtherStage Seal old.volume → IsTold old actor answer new → SealGives old actor answer new
seal-told old new actor answer other told = subst (λ (a : Answer). SealGives old actor a new) (sym told.0) (other, (refl, told.1))
