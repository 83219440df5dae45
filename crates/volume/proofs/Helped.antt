-- What is left to be done about commits that were refused for want of room, after each part of a call.
use Rattle.std.proofs.Common.{◌≡◌, ℕ, Bool, false, Result, Ok, Err, refl, sym, ap, ◌∙◌, subst}
use Rattle.std.specs.Prelude.{◌||◌, IfOk, OnErr}
use Rattle.std.specs.declared.alloc.AllocError.{AllocError}
use Rattle.forest_ops.specs.declared.operation.Op.{Op}
use Rattle.forest_ops.specs.declared.operation.Reply.{Reply}
use Rattle.vol_session.specs.Sessions.{SessionState}
use Rattle.vol_session.specs.Shortages.{IsHelped, ShortageState, after_checkpoint, after_commit, met_at_rest}
use Rattle.volume.specs.Serving.{IsEntered, IsHelpedStill, IsStepped}

-- ---- what makes no commit

module _ {D : Type 0} (old new : SessionState D) where
  -- What a client has under way leaves it,
  pub step_keeps : IsStepped old new → new.shortages ≡ old.shortages
  step_keeps stepped = ap (λ (s : SessionState D). s.shortages) stepped.rest

  -- and so does an entry.
  pub entry_keeps : (client : ℕ) (op : Op) (reply : Reply) → IsEntered client op reply old new → new.shortages ≡ old.shortages
  entry_keeps client op reply entered = ap (λ (s : SessionState D). s.shortages) entered.entry

  -- A part that fails ends in one of these, by whether there was memory to tell it,
  pub failure_keeps : (client : ℕ) (op : Op) (result : Result Reply AllocError) → IfOk result (λ reply. IsEntered client op reply old new) → OnErr result (IsStepped old new) → new.shortages ≡ old.shortages
  failure_keeps client op (Ok reply) entered stepped = entry_keeps client op reply entered
  failure_keeps client op (Err error) entered stepped = step_keeps stepped

  -- or nothing has changed.
  pub stop_keeps : (client : ℕ) (op : Op) (result : Result Reply AllocError) → IfOk result (λ reply. IsEntered client op reply old new) → OnErr result (new ≡ old) → new.shortages ≡ old.shortages
  stop_keeps client op (Ok reply) entered same = entry_keeps client op reply entered
  stop_keeps client op (Err error) entered same = ap (λ (s : SessionState D). s.shortages) same

  -- Where only that has changed, it is what it is then.
  pub rest_is : (met : ShortageState) → new ≡ record old { shortages = met } → new ≡ record old { shortages = new.shortages }
  rest_is met same = same ∙ ap (λ (s : SessionState D). record old { shortages = s.shortages }) (sym same)

  -- Where it is as before, nothing is left to be done still.
  pub same_helped : new.shortages ≡ old.shortages → IsHelpedStill old new
  same_helped same helped = subst IsHelped (sym same) helped

-- ---- commits and checkpoints

-- A commit that wasn't refused for want of room leaves nothing to be done,
pub tried_helped : (lacked : Bool) (old new : ShortageState) → lacked ≡ false → new ≡ after_commit lacked old → old.unmet ≡ false → IsHelped new
tried_helped lacked old new none after met =
    let unmet : (old.unmet || lacked) ≡ false = ap (λ (u : Bool). u || lacked) met ∙ none in
    subst IsHelped (sym after) (record { met = unmet; tried = refl })

-- nor does one that was refused where both works rest,
pub rest_helped : (lacked : Bool) (old mid new : ShortageState) → mid ≡ after_commit lacked old → new ≡ met_at_rest mid → IsHelped new
rest_helped lacked old mid new after met = subst IsHelped (sym met) (record { met = refl; tried = ap (λ (s : ShortageState). s.untried) after })

-- nor a checkpoint that ended early.
pub stopped_helped : (old new : ShortageState) → new ≡ after_checkpoint false old → IsHelped new
stopped_helped old new after = subst IsHelped (sym after) (record { met = refl; tried = refl })
