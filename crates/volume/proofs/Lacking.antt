-- Why a change lacks space or a number, said of the updates that a client intends for it, or that its plan has.
use Rattle.std.proofs.Common.{◌≡◌, ℕ, Bool, true, false, not, inl, inr, ⊎_elim, refl, ap, subst, sym, ◌∙◌}
use Rattle.std.proofs.lemmas.Bool.{not-false, true≢false}
use Rattle.core_volume.specs.Commits.{AreIntended}
use Rattle.core_state.specs.Events.{intended_by}
use Rattle.core_volume.specs.Rulings.{IsRefused}
use Rattle.core_state.specs.States.{State}
use Rattle.core_volume.specs.Volumes.{Volume}
use Rattle.core_actors.specs.declared.answer.NoSpace.{NoSpace}
use Rattle.core_actors.specs.declared.answer.Refusal.{Refusal}
use Rattle.core_actors.specs.declared.answer.Refusal.TheVariants as refusals
use Rattle.dirty_nodes.specs.declared.splits.NeedSplit.{NeedSplit}
use Rattle.forest_ops.specs.declared.operation.Op.{Op}
use Rattle.fs_plan.specs.declared.planned.Plan.{Plan}
use Rattle.journal_ring.specs.declared.ring.RingFull.{RingFull}
use Rattle.image_view.specs.Found.{Found}
use Rattle.vol_core.specs.Rested.{HasRoomAfterCheckpoint, IsRested, MayKeepRing}
use Rattle.vol_session.specs.Sessions.{IsPlanNow}
use Rattle.vol_types.specs.declared.space.Short.{Short}
use Rattle.volume.specs.Answers.{AreUpdatesOf, IsNumberSpent, LacksSpace, TellsRefusal, nothing_short}
use Rattle.volume.specs.Serving.{HasIntent, IsHelpless}

-- Both works rest where a checkpoint would help.
rests : (volume : Volume) → IsHelpless volume true → IsRested volume
rests volume helpless = ⊎_elim (λ (none : true ≡ false). absurd (true≢false none)) (λ (rested : IsRested volume). rested) helpless

-- How a volume at rest has room where the ring may be kept of what was found.
abbrev pub HasRoomAtRest : Found → Volume → Type 0
HasRoomAtRest begun volume = MayKeepRing begun → IsRested volume → HasRoomAfterCheckpoint volume

module _ (begun : Found) (memory : State) (client : ℕ) (op : Op) (has : HasIntent memory client op) where
  -- The updates that it intends are the operation's.
  of_op : AreUpdatesOf client op memory.volume (intended_by memory client)
  of_op = record { reply = has.reply; plan = has.intended.now }

  -- A leaf would be too large.
  pub leaf_is_full : (need : NeedSplit) (short : Short) → short ≡ nothing_short → IsRefused memory.volume (intended_by memory client) true (refusals.NeedSplit need) → LacksSpace begun client op short memory.volume
  leaf_is_full need short told refused = inl (record { updates = intended_by memory client; of_op = of_op; need = need; splits = refused.1; told = told })

  -- The commit is refused as both works rest, where the ring may not be kept.
  at_rest : (short : Short) (refusal : Refusal) → ¬ MayKeepRing begun → IsRested memory.volume → IsRefused memory.volume (intended_by memory client) true refusal → TellsRefusal short refusal → LacksSpace begun client op short memory.volume
  at_rest short refusal unkept rested refused told = inr (inr (inr (inl (record { unkept = unkept; updates = intended_by memory client; of_op = of_op; refusal = refusal; rested = rested; refused = refused; told = told }))))

  -- The ring has no room, where a checkpoint doesn't help.
  pub ring_is_full : HasRoomAtRest begun memory.volume → (full : RingFull) (short : Short) → short ≡ nothing_short → IsHelpless memory.volume true → IsRefused memory.volume (intended_by memory client) true (refusals.RingFull full)
      → LacksSpace begun client op short memory.volume
  ring_is_full room full short told helpless refused =
      let rested : IsRested memory.volume = rests memory.volume helpless in
      at_rest short (refusals.RingFull full) (λ may. (room may rested).room (intended_by memory client) has.intended.fit refused.1) rested refused told

  -- A checkpoint would free some bucket only where the ring may not be kept.
  unkept_short : HasRoomAtRest begun memory.volume → (none : NoSpace) → IsRested memory.volume → IsRefused memory.volume (intended_by memory client) true (refusals.NoSpace none) → none.idle ≡ false → ¬ MayKeepRing begun
  unkept_short room none rested refused some may = true≢false (sym (ap (λ (n : NoSpace). n.idle) refused.2 ∙ (room may rested).idle) ∙ some)

  -- There are too few free buckets, and a checkpoint would free none, or both works rest.
  pub buckets_are_full : HasRoomAtRest begun memory.volume → (none : NoSpace) → IsHelpless memory.volume (not none.idle) → IsRefused memory.volume (intended_by memory client) true (refusals.NoSpace none) → LacksSpace begun client op none.short memory.volume
  buckets_are_full room none helpless refused = by none.idle refl
    where
      exhausted : none.idle ≡ true → LacksSpace begun client op none.short memory.volume
      exhausted idle = inr (inr (inl (record { updates = intended_by memory client; of_op = of_op; none = none; refused = refused; idle = idle; told = refl })))

      by : (idle : Bool) → none.idle ≡ idle → LacksSpace begun client op none.short memory.volume
      by true idle = exhausted idle
      by false some = ⊎_elim
          (λ (no : not none.idle ≡ false). exhausted (not-false none.idle no))
          (λ (rested : IsRested memory.volume). at_rest none.short (refusals.NoSpace none) (unkept_short room none rested refused some) rested refused refl)
          helpless

  -- No number is left.
  pub commit_is_spent : IsRefused memory.volume (intended_by memory client) true refusals.Spent → IsNumberSpent client op memory.volume
  commit_is_spent refused = inl (record { updates = intended_by memory client; of_op = of_op; fit = has.intended.fit; spent = refused.1 })

-- The updates of a plan may not be intended.
pub entry_is_full : (begun : Found) (client : ℕ) (plan : Plan) (old new : State) (short : Short) → new.volume ≡ old.volume → plan.commits ≡ true → IsPlanNow old client plan → short ≡ nothing_short
    → ¬ AreIntended new.volume.layout.metadata_replicas plan.updates → LacksSpace begun client plan.op short new.volume
entry_is_full begun client plan old new short same commits now told unfit =
    inr (inl (record {
      updates = plan.updates;
      of_op = subst (λ (volume : Volume). AreUpdatesOf client plan.op volume plan.updates) (sym same) (record {
        reply = plan.reply;
        plan = subst (λ (c : Bool). IsPlanNow old client (record { op = plan.op; updates = plan.updates; reply = plan.reply; commits = c })) commits now;
      });
      unfit = unfit;
      told = told;
    }))
