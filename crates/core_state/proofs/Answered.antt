-- What an event is answered where the volume stays as it was: there was no memory, or the volume refuses it, which is noted.
use Rattle.std.proofs.Common.{◌≡◌, ℕ, ap, refl, sym, subst, ◌∙◌}
use Rattle.core_actors.specs.Actors.{noted as noted_by}
use Rattle.core_actors.specs.declared.answer.Answer.{Answer}
use Rattle.core_actors.specs.declared.answer.Answer.TheVariants as answers
use Rattle.core_actors.specs.declared.answer.Refusal.{Refusal}
use Rattle.core_state.specs.Events.{CommitNodesGives, IsNoted, IsTold, SealGives, WriteGives}
use Rattle.core_state.specs.States.{IsState, State, mine, with_mine}
use Rattle.core_volume.specs.Checkpoints.{IsUnplaced}
use Rattle.core_volume.specs.Sealing.{IsOtherStage}
use Rattle.core_volume.specs.Uncommitted.{IsSealFault}
use Rattle.core_volume.specs.Volumes.{Volume}
use Rattle.journal_writer.specs.declared.stage.Stage.TheVariants.{WriteEntry}
use Rattle.core_volume.specs.declared.commit.VolumeFault.{VolumeFault}
use Rattle.core_volume.specs.declared.commit.VolumeFault.TheVariants as volume_faults

module _ (old : State) (volume : Volume) (same : volume ≡ old.volume) where
  -- What is kept of the volume and its actors stays.
  pub same-kept : IsState old → IsState (record { volume = volume; actors = old.actors; turn = old.turn })
  same-kept is = subst (λ (v : Volume). IsState (record { volume = v; actors = old.actors; turn = old.turn })) (sym same) is

  -- Nothing has changed.
  pub unchanged : (seen : State) → old ≡ seen → record { volume = volume; actors = old.actors; turn = old.turn } ≡ seen
  unchanged seen is = ap (λ (v : Volume). record { volume = v; actors = old.actors; turn = old.turn }) same ∙ is

  module _ (seen : State) (is : old ≡ seen) (actor : ℕ) (why : VolumeFault) (refusal : Refusal) (refused : why ≡ volume_faults.Refused refusal) (answer : Answer) (answered : answer ≡ answers.Refused refusal) (new : State)
      (noted : IsNoted refusal (record { volume = volume; actors = old.actors; turn = old.turn }) actor new) where
    noted_here : IsNoted refusal old actor new
    noted_here = noted ∙ ap (λ (v : Volume). with_mine actor (noted_by refusal (mine old actor)) (record { volume = v; actors = old.actors; turn = old.turn })) same

    -- Why no entry was sealed is noted.
    pub seal-noted : IsSealFault old.volume why → SealGives seen actor answer new
    seal-noted fault =
        subst (λ (s : State). SealGives s actor answer new) is
        (subst (λ (a : Answer). SealGives old actor a new) (sym answered) (subst (IsSealFault old.volume) refused fault, noted_here))

    -- Why no nodes were put in place is noted.
    pub commit_nodes-noted : IsUnplaced old.volume why → CommitNodesGives seen actor answer new
    commit_nodes-noted fault =
        subst (λ (s : State). CommitNodesGives s actor answer new) is
        (subst (λ (a : Answer). CommitNodesGives old actor a new) (sym answered) (subst (IsUnplaced old.volume) refused fault, noted_here))

-- What an actor is told where no part of an entry is to be written.
pub write_entry-told : (tick : ℕ) (old new : State) (actor : ℕ) (answer : Answer) → IsOtherStage WriteEntry old.volume → IsTold old actor answer new → WriteGives tick old actor answer new
write_entry-told tick old new actor answer other told = subst (λ (a : Answer). WriteGives tick old actor a new) (sym told.0) (other, (refl, told.1))
