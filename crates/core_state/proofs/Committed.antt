-- What is kept of actors stays so where one of them commits.
use Rattle.std.proofs.Common.{◌≡◌, ℕ, ◌<◌, Bool, true, false, not, Option, Some, None, List, [], length, refl, sym, ap, ◌∙◌, subst, ⊎_elim}
use Rattle.std.specs.Prelude.{◌≢◌, ◌==◌, ◌||◌, IfSome, is_some, slice_index_or, slice_set, unwrap_or}
use Rattle.std.proofs.lemmas.Bool.{cases_eq, true≢false}
use Rattle.std.proofs.lemmas.List.{get_or-set_same, get_or-set_other, get_or_default, length-set, set-get_or}
use Rattle.std.proofs.lemmas.Option.{same_Some}
use Rattle.vol_types.specs.declared.keys.Update.{Update}
use Rattle.vol_types.specs.declared.layout.Layout.{Layout}
use Rattle.core_actors.specs.Actors.{committed, holds, idle_actor}
use Rattle.core_actors.specs.declared.answer.Answer.TheVariants.{Done}
use Rattle.core_volume.specs.Commits.{AreIntended, IsCommitted}
use Rattle.core_volume.specs.Rulings.{IsAllowed, IsRefused}
use Rattle.core_state.specs.States.{IsActor, IsState, State, actor_count, mine, other_holder, with_mine}
use Rattle.core_state.specs.Events.{CommitGives, intended_by}
use Rattle.core_volume.specs.Uncommitted.{IsCommitFault}
use Rattle.core_state.specs.Events.{answer_of_fault, noted_fault}
use Rattle.core_actors.specs.declared.answer.Answer.{Answer}
use Rattle.core_volume.specs.declared.commit.VolumeFault.{VolumeFault}
use Rattle.core_volume.specs.declared.commit.VolumeFault.TheVariants.{NoMemory, Refused}
use Rattle.core_volume.specs.Volumes.{IsVolume, Volume}
use Rattle.core_actors.specs.declared.actor.Actor.{Actor}
use Rattle.core_state.proofs.Kept.{free-no_looks, holder-given_back, kept, no_looks-given, noted-kept}

-- What an actor has under way that has no transaction goes with any keys.
free-actor : (volume : Volume) (turn : Option ℕ) (number : ℕ) (actor : Actor) → holds actor ≡ false → IfSome actor.intended (AreIntended volume.layout.metadata_replicas) → IsActor volume turn number actor
free-actor volume turn number actor free intended = record {
  has_turn = λ held. absurd (true≢false (sym held ∙ free));
  looks = no_looks-given volume actor.looks (free-no_looks actor free);
  intended = intended;
}

module _ (old : State) (is : IsState old) (actor : ℕ) (there : actor < actor_count) (held : holds (mine old actor) ≡ true) (volume : Volume) (layout : volume.layout ≡ old.volume.layout) where
  -- The others have no transaction under way, since the actor has the turn.
  others-free : (number : ℕ) → number ≢ actor → holds (mine old number) ≡ false
  others-free number other = by (holds (mine old number)) refl
    where
      by : (b : Bool) → holds (mine old number) ≡ b → b ≡ false
      by true holds_too = absurd (other (same_Some number actor (sym ((is.each number).has_turn holds_too) ∙ (is.each actor).has_turn held)))
      by false free = refl

  -- A commit of the actor that has the turn keeps what is kept of all actors.
  pub committed-state : IsVolume volume → (changed : Actor) → holds changed ≡ false → changed.intended ≡ None → (turn : Option ℕ) → IfSome turn (λ holder. holder < actor_count)
      → IsState (record { volume = volume; actors = slice_set old.actors actor changed; turn = turn })
  committed-state sound changed free none turn holder = record {
    volume = sound;
    count = length-set old.actors actor changed ∙ is.count;
    holder = holder;
    each = λ number. ⊎_elim (λ same. here number same) (λ other. elsewhere number other) (cases_eq number actor);
  }
    where
      after : ℕ → Actor
      after number = mine (record { volume = volume; actors = slice_set old.actors actor changed; turn = turn }) number

      here : (number : ℕ) → number ≡ actor → IsActor volume turn number (after number)
      here number same =
          subst (λ (n : ℕ). IsActor volume turn n (after n)) (sym same)
          (subst (λ (a : Actor). IsActor volume turn actor a) (sym (get_or-set_same old.actors actor changed idle_actor (subst (λ (n : ℕ). actor < n) (sym is.count) there)))
          (free-actor volume turn actor changed free (subst (λ (i : Option (List Update)). IfSome i (AreIntended volume.layout.metadata_replicas)) (sym none) tt)))

      elsewhere : (number : ℕ) → number ≢ actor → IsActor volume turn number (after number)
      elsewhere number other =
          subst (λ (a : Actor). IsActor volume turn number a) (sym (get_or-set_other old.actors actor number changed idle_actor other))
          (free-actor volume turn number (mine old number) (others-free number other)
          (subst (λ (l : Layout). IfSome (mine old number).intended (AreIntended l.metadata_replicas)) (sym layout) (is.each number).intended))

-- Who intends updates has a transaction under way.
intends-holds : (actor : Actor) (updates : List Update) → actor.intended ≡ Some updates → holds actor ≡ true
intends-holds actor updates intends =
    let with_them : holds actor ≡ (actor.has_ids || true || not (length actor.looks == 0)) = ap (λ (i : Option (List Update)). actor.has_ids || is_some i || not (length actor.looks == 0)) intends in
    with_them ∙ by actor.has_ids (not (length actor.looks == 0))
  where
    by : (ids looks : Bool) → (ids || true || looks) ≡ true
    by true true = refl
    by true false = refl
    by false true = refl
    by false false = refl

-- After a commit no transaction is under way.
committed-free : (counted : Bool) (actor : Actor) → (holds (committed counted actor) ≡ false) × ((committed counted actor).intended ≡ None)
committed-free true actor = (refl, refl)
committed-free false actor = (refl, refl)

module _ (volume : Volume) (actors : List Actor) (turn : Option ℕ) (is : IsState (record { volume = volume; actors = actors; turn = turn })) (actor : ℕ) (there : actor < actor_count)
    (index : ℕ) (at : index ≡ actor) (mine_now : Actor) (value : mine_now ≡ slice_index_or actors index mine_now) (updates : List Update) (intends : mine_now.intended ≡ Some updates) where
  held : holds (mine (record { volume = volume; actors = actors; turn = turn }) actor) ≡ true
  held =
      ap holds (get_or_default actors actor idle_actor mine_now (subst (λ (n : ℕ). actor < n) (sym is.count) there) ∙ ap (λ (n : ℕ). slice_index_or actors n mine_now) (sym at) ∙ sym value)
      ∙ intends-holds mine_now updates intends

  -- What is kept of a volume and its actors stays so where one of them committed.
  pub commit-kept : (new : Volume) → IsVolume new → new.layout ≡ volume.layout → (counted : Bool) (before after : Actor) → after ≡ committed counted before → (left : Option ℕ) → left ≡ other_holder actor turn
      → IsState (record { volume = new; actors = slice_set actors index after; turn = left })
  commit-kept new sound layout counted before after same left given =
      subst (λ (n : ℕ). IsState (record { volume = new; actors = slice_set actors n after; turn = left })) (sym at)
      (committed-state (record { volume = volume; actors = actors; turn = turn }) is actor there held new layout sound after
      (ap holds same ∙ (committed-free counted before).0) (ap (λ (a : Actor). a.intended) same ∙ (committed-free counted before).1) left
      (subst (λ (t : Option ℕ). IfSome t (λ holder. holder < actor_count)) (sym given) (holder-given_back actor turn is.holder)))

  mine_was : mine (record { volume = volume; actors = actors; turn = turn }) actor ≡ mine_now
  mine_was =
      get_or_default actors actor idle_actor mine_now (subst (λ (n : ℕ). actor < n) (sym is.count) there) ∙ ap (λ (n : ℕ). slice_index_or actors n mine_now) (sym at) ∙ sym value

  intended_is : intended_by (record { volume = volume; actors = actors; turn = turn }) actor ≡ updates
  intended_is = ap (λ (a : Actor). unwrap_or a.intended []) mine_was ∙ ap (λ (o : Option (List Update)). unwrap_or o []) intends

  -- Updates that were made are the actor's no longer, and its turn is given back.
  pub made-gives : (counted : Bool) (new : Volume) → IsAllowed volume updates counted → IsCommitted updates counted volume new
      → (rest : Option (List Update)) (after : Actor) → after ≡ committed counted (record mine_now { intended = rest }) → (left : Option ℕ) → left ≡ other_holder actor turn
      → CommitGives (record { volume = volume; actors = actors; turn = turn }) actor counted Done (record { volume = new; actors = slice_set actors index after; turn = left })
  made-gives counted new allowed made rest after same left given = record {
    allowed = subst (λ (us : List Update). IsAllowed volume us counted) (sym intended_is) allowed;
    made = subst (λ (us : List Update). IsCommitted us counted volume new) (sym intended_is) made;
    state = λ i. record { volume = new; actors = slice_set actors (at i) ((same ∙ by counted ∙ ap (committed counted) (sym mine_was)) i); turn = given i };
  }
    where
      by : (c : Bool) → committed c (record mine_now { intended = rest }) ≡ committed c mine_now
      by true = refl
      by false = refl

  -- What the actor intends may be intended.
  pub intended-are : AreIntended volume.layout.metadata_replicas updates
  intended-are = subst (λ (o : Option (List Update)). IfSome o (AreIntended volume.layout.metadata_replicas)) (ap (λ (a : Actor). a.intended) mine_was ∙ intends) (is.each actor).intended

  -- What is kept stays so where updates are given back, and why is noted.
  pub refused-state : (why : VolumeFault) (new : Volume) → new ≡ volume → (back : List Update) → back ≡ updates
      → (after : Actor) → after ≡ noted_fault why (record mine_now { intended = Some back }) → IsState (record { volume = new; actors = slice_set actors index after; turn = turn })
  refused-state why new same back kept_back after noted =
      let old : State = record { volume = volume; actors = actors; turn = turn } in
      let mine_back : record mine_now { intended = Some back } ≡ mine old actor =
      ap (λ (us : List Update). record mine_now { intended = Some us }) kept_back ∙ ap (λ (o : Option (List Update)). record mine_now { intended = o }) (sym intends) ∙ sym mine_was in
      let after_is : after ≡ noted_fault why (mine old actor) = noted ∙ ap (noted_fault why) mine_back in
      subst IsState (sym (λ i. record { volume = same i; actors = slice_set actors (at i) (after_is i); turn = turn }))
      (kept old is actor there (noted_fault why (mine old actor)) turn (noted-kept volume turn actor (mine old actor) (is.each actor) why) (λ number other has. has) is.holder)

  -- Updates that weren't committed are given back, and why is noted.
  pub refused-gives : (counted : Bool) (why : VolumeFault) → IsCommitFault volume updates counted why → (new : Volume) → new ≡ volume → (back : List Update) → back ≡ updates
      → (after : Actor) → after ≡ noted_fault why (record mine_now { intended = Some back }) → (answer : Answer) → answer ≡ answer_of_fault why
      → CommitGives (record { volume = volume; actors = actors; turn = turn }) actor counted answer (record { volume = new; actors = slice_set actors index after; turn = turn })
  refused-gives counted why cause new same back kept after noted answer answered =
      subst (λ (a : Answer). CommitGives (record { volume = volume; actors = actors; turn = turn }) actor counted a (record { volume = new; actors = slice_set actors index after; turn = turn })) (sym answered)
      (subst (λ (s : State). CommitGives (record { volume = volume; actors = actors; turn = turn }) actor counted (answer_of_fault why) s) (sym new_is) (by why cause))
    where
      mine_back : record mine_now { intended = Some back } ≡ mine (record { volume = volume; actors = actors; turn = turn }) actor
      mine_back =
          ap (λ (us : List Update). record mine_now { intended = Some us }) kept ∙ ap (λ (o : Option (List Update)). record mine_now { intended = o }) (sym intends) ∙ sym mine_was

      new_is : record { volume = new; actors = slice_set actors index after; turn = turn }
          ≡ with_mine actor (noted_fault why (mine (record { volume = volume; actors = actors; turn = turn }) actor)) (record { volume = volume; actors = actors; turn = turn })
      new_is = λ i. record { volume = same i; actors = slice_set actors (at i) ((noted ∙ ap (noted_fault why) mine_back) i); turn = turn }

      by : (w : VolumeFault) → IsCommitFault volume updates counted w
          → CommitGives (record { volume = volume; actors = actors; turn = turn }) actor counted (answer_of_fault w) (with_mine actor (noted_fault w (mine (record { volume = volume; actors = actors; turn = turn }) actor)) (record { volume = volume; actors = actors; turn = turn }))
      by (Refused refusal) why_is = (subst (λ (us : List Update). IsRefused volume us counted refusal) (sym intended_is) why_is, refl)
      by NoMemory why_is = λ i. record { volume = volume; actors = set-get_or actors actor idle_actor i; turn = turn }
