-- What is kept of the actors of a volume that was loaded.
use Rattle.std.proofs.Common.{◌≡◌, ℕ, ◌<◌, ◌≤◌, None, List, length, sym, ap, ◌∙◌, subst, ⊎_elim}
use Rattle.std.proofs.Math.ListN.{get_or-eq_default}
use Rattle.std.proofs.lemmas.Bool.{cases_lt, true≢false}
use Rattle.std.proofs.lemmas.List.{get_or-replicate, length-replicate}
use Rattle.std.proofs.lemmas.List.Elements.{All-nil}
use Rattle.std.specs.Prelude.{replicate, slice_index_or}
use Rattle.core_actors.specs.Actors.{idle_actor}
use Rattle.core_state.specs.States.{IsActor, IsState, actor_count, mine}
use Rattle.core_actors.specs.declared.actor.Actor.{Actor}
use Rattle.btree_map.specs.Trees.{keys_in}
use Rattle.vol_types.specs.KeyMaps.{IsLook}
use Rattle.core_volume.specs.Volumes.{IsVolume, Volume}

-- At first no actor has anything under way.
pub idle-kept : (volume : Volume) → IsVolume volume → (actors : List Actor) → actors ≡ replicate actor_count idle_actor → IsState (record { volume = volume; actors = actors; turn = None })
idle-kept volume sound actors idle = record {
  volume = sound;
  count = ap length idle ∙ length-replicate actor_count idle_actor;
  holder = tt;
  each = λ number. subst (λ (a : Actor). IsActor volume None number a) (sym (by number)) (record {
    has_turn = λ held. absurd (true≢false (sym held));
    looks = record { each = All-nil (IsLook (keys_in volume.trees)) };
    intended = tt;
  });
}
  where
    by : (number : ℕ) → mine (record { volume = volume; actors = actors; turn = None }) number ≡ idle_actor
    by number = ⊎_elim
        (λ (lt : number < actor_count). ap (λ (all : List Actor). slice_index_or all number idle_actor) idle ∙ get_or-replicate actor_count number idle_actor idle_actor lt)
        (λ (le : actor_count ≤ number). get_or-eq_default actors idle_actor (subst (λ (n : ℕ). n ≤ number) (sym (ap length idle ∙ length-replicate actor_count idle_actor)) le))
        (cases_lt number actor_count)
