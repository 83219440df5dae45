-- What is kept between operations is kept by a call.
use Rattle.std.proofs.Common.{◌≡◌, ◌∙◌, ℕ, ◌≤◌, ◌<◌, ◌^◌, length, Result, Ok, Err, sym, ap, subst}
use Rattle.std.specs.Prelude.{IfOk, OnErr}
use Rattle.std.specs.declared.alloc.AllocError.{AllocError}
use Rattle.dev_model.specs.Devices.{AreFaultCounts, DevicesState}
use Rattle.dev_model.specs.Frames.{GoOn}
use Rattle.forest_ops.specs.History.{History}
use Rattle.forest_ops.specs.declared.operation.Op.{Op}
use Rattle.forest_ops.specs.declared.operation.Reply.{Reply}
use Rattle.image_view.specs.Found.{Found}
use Rattle.vol_core.specs.Room.{HasRoomForNext, LeavesRoom, MayKeepRoom}
use Rattle.vol_session.specs.Sessions.{SessionState}
use Rattle.vol_session.specs.Shortages.{IsHelped, ShortageState}
use Rattle.vol_session.specs.Survivors.{BeginsWell}
use Rattle.volume.specs.Serving.{IsHelpedStill, IsServed, IsUnserved}
use Rattle.volume.specs.States.{AreUnspent, IsBetween, KeepsFailures, VolumeState}
use Rattle.volume.proofs.Unspent.{unspent_later, unspent_served}
use Rattle.vol_session.specs.Numbers.{HasNumbersLeft, IsFarFromSpent}
use Rattle.volume.proofs.Failing.{failures_later, failures_served}
use Rattle.volume.proofs.Replying.{faults_caused}

module _ {D : Type 0} (tells : Type 0) (begun : Found) (start : DevicesState) (state : D → DevicesState) where
  -- It is kept of a session.
  abbrev Keeps : SessionState D → Type 0
  Keeps session = IsBetween tells begun start (state session.core.devices) session.core.memory session.trace session.shortages

  -- Its devices went on, and count their failures.
  pub record AreCounting (devices : D) : Type 0 where
    pub goes_on : GoOn start (state devices)
    pub counts : AreFaultCounts (state devices).faults
    pub few : length (state devices).sizes ≤ 8

  -- The numbers are left that may be drawn next, where it is far from their ends.
  abbrev pub IsLeft : SessionState D → Type 0
  IsLeft session = IsFarFromSpent begun start (state session.core.devices) → length session.trace < 2 ^ 31 → HasNumbersLeft session.core.memory.volume

  -- The next entry finds room, where that may be kept of what was found.
  abbrev pub FindsRoom : SessionState D → Type 0
  FindsRoom session = MayKeepRoom begun → HasRoomForNext session.core.memory.volume

  -- It may where the session began well with a volume that left some.
  abbrev pub MayFindRoom : Type 0
  MayFindRoom = tells → BeginsWell begun start → LeavesRoom begun → MayKeepRoom begun

  module _ (old new : SessionState D) (left : IsLeft new) (may : MayFindRoom) (room : FindsRoom new) (counting : AreCounting old.core.devices) (helped : IsHelpedStill old new) (keeps : Keeps old) where
    -- by an operation that was answered
    keeps_served : (client : ℕ) (op : Op) (reply : Reply) → IsServed begun state client op reply old new → Keeps new
    keeps_served client op reply served = record {
      rest = served.rest;
      failures = subst (λ (trace : History). KeepsFailures begun start (state new.core.devices) new.core.memory.volume.halted trace) (sym served.answered.trace)
          (failures_served begun start (state old.core.devices) (state new.core.devices) old.trace served.goes_on counting.goes_on counting.counts counting.few old.core.memory.volume.halted new.core.memory.volume.halted client op reply
          (faults_caused begun client op reply new.core.memory.volume (state old.core.devices).faults (state new.core.devices).faults served.cause) served.halts served.writes keeps.failures);
      unspent = subst (λ (trace : History). AreUnspent tells begun start (state new.core.devices) trace) (sym served.answered.trace)
          (unspent_served tells begun start (state old.core.devices) (state new.core.devices) old.trace client op reply new.core.memory.volume (state old.core.devices).faults (state new.core.devices).faults served.goes_on served.cause
          (subst (λ (trace : History). IsFarFromSpent begun start (state new.core.devices) → length trace < 2 ^ 31 → HasNumbersLeft new.core.memory.volume) served.answered.trace left) may room keeps.unspent);
      helped = helped keeps.helped;
    }

    -- and where there was no memory for it
    keeps_unserved : IsUnserved state old new → Keeps new
    keeps_unserved unserved = record {
      rest = unserved.rest;
      failures = subst (λ (trace : History). KeepsFailures begun start (state new.core.devices) new.core.memory.volume.halted trace) (sym (ap (λ (s : SessionState D). s.trace) unserved.same))
          (failures_later begun start (state old.core.devices) (state new.core.devices) old.trace unserved.goes_on old.core.memory.volume.halted new.core.memory.volume.halted unserved.halted unserved.unfailed keeps.failures);
      unspent = subst (λ (trace : History). AreUnspent tells begun start (state new.core.devices) trace) (sym (ap (λ (s : SessionState D). s.trace) unserved.same))
          (unspent_later tells begun start (state old.core.devices) (state new.core.devices) old.trace unserved.goes_on keeps.unspent);
      helped = helped keeps.helped;
    }

    keeps_result : (result : Result Reply AllocError) (client : ℕ) (op : Op) → IfOk result (λ reply. IsServed begun state client op reply old new) → OnErr result (IsUnserved state old new) → Keeps new
    keeps_result (Ok reply) client op served unserved = keeps_served client op reply served
    keeps_result (Err error) client op served unserved = keeps_unserved unserved

  -- Room was made first.
  pub keeps_call : (result : Result Reply AllocError) (client : ℕ) (op : Op) (old mid new : SessionState D) → mid ≡ record old { spare = mid.spare } → IsLeft new → MayFindRoom → FindsRoom new → AreCounting old.core.devices → IsHelpedStill mid new → Keeps old
      → IfOk result (λ reply. IsServed begun state client op reply mid new) → OnErr result (IsUnserved state mid new) → Keeps new
  keeps_call result client op old mid new same left may room counting helped keeps served unserved =
      keeps_result mid new left may room (subst (λ (s : SessionState D). AreCounting s.core.devices) (sym same) counting) helped (subst Keeps (sym same) keeps) result client op served unserved

-- Where nothing is left to be done about commits that were refused, it is the same twice.
helped_alike : (one other : ShortageState) → IsHelped one → IsHelped other → one ≡ other
helped_alike one other first second = λ i. record { unmet = (first.met ∙ sym second.met) i; untried = (first.tried ∙ sym second.tried) i }

-- the volume of a session that was called so often
abbrev pub volume_of : {D : Type 0} → ℕ → SessionState D → VolumeState D
volume_of calls session = record { core = session.core; trace = session.trace; acks = session.acks; commits = session.commits; spare = session.spare; shortages = session.shortages; calls = calls }

module _ {D : Type 0} (state : D → DevicesState) (result : Result Reply AllocError) (client : ℕ) (op : Op) (begun : Found) (old mid new : SessionState D) (same : mid ≡ record old { spare = mid.spare }) where
  -- A call that wasn't served leaves the session but for what is in memory,
  pub unserved_call : (calls : ℕ) → IsHelped old.shortages → IsHelpedStill mid new → OnErr result (IsUnserved state mid new)
      → OnErr result (volume_of calls new ≡ record (volume_of calls old) { core = new.core; spare = new.spare })
  unserved_call calls before helped unserved = by result unserved
    where
      after : IsHelped new.shortages
      after = helped (subst (λ (s : SessionState D). IsHelped s.shortages) (sym same) before)

      left : IsUnserved state mid new → new ≡ record old { core = new.core; spare = new.spare }
      left is =
          is.same ∙ ap (λ (s : SessionState D). record s { core = new.core; spare = new.spare; shortages = new.shortages }) same
          ∙ ap (λ (s : ShortageState). record old { core = new.core; spare = new.spare; shortages = s }) (helped_alike new.shortages old.shortages after before)

      by : (r : Result Reply AllocError) → OnErr r (IsUnserved state mid new)
          → OnErr r (volume_of calls new ≡ record (volume_of calls old) { core = new.core; spare = new.spare })
      by (Ok reply) is = tt
      by (Err error) is = ap (λ (s : SessionState D). volume_of calls s) (left is)

  -- and no call of a device failed.
  pub unserved_faults : OnErr result (IsUnserved state mid new) → OnErr result ((state new.core.devices).faults ≡ (state old.core.devices).faults)
  unserved_faults unserved = by result unserved
    where
      by : (r : Result Reply AllocError) → OnErr r (IsUnserved state mid new) → OnErr r ((state new.core.devices).faults ≡ (state old.core.devices).faults)
      by (Ok reply) is = tt
      by (Err error) is = is.unfailed ∙ ap (λ (s : SessionState D). (state s.core.devices).faults) same

  -- The devices go on in any case.
  pub call_goes_on : IfOk result (λ reply. IsServed begun state client op reply mid new) → OnErr result (IsUnserved state mid new) → GoOn (state old.core.devices) (state new.core.devices)
  call_goes_on served unserved = subst (λ (s : SessionState D). GoOn (state s.core.devices) (state new.core.devices)) same (by result served unserved)
    where
      by : (r : Result Reply AllocError) → IfOk r (λ reply. IsServed begun state client op reply mid new) → OnErr r (IsUnserved state mid new) → GoOn (state mid.core.devices) (state new.core.devices)
      by (Ok reply) served unserved = served.goes_on
      by (Err error) served unserved = unserved.goes_on
