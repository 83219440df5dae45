-- What works leave composes: a part of a work that ended well, and the one after it.
use Rattle.std.proofs.Common.{◌≡◌, ◌<◌, ◌≤◌, ℕ, List, Result, Ok, Err, length, refl, sym, ap, ◌∙◌, subst, arith}
use Rattle.std.specs.Prelude.{IfSome}
use Rattle.core_state.specs.States.{State}
use Rattle.core_volume.specs.Volumes.{Volume}
use Rattle.dev_model.specs.Devices.{DevicesState, FaultCounts}
use Rattle.dev_model.specs.FrameLaws.{go_on_here, go_on_then}
use Rattle.dev_model.specs.Frames.{after_writes}
use Rattle.vol_session.specs.Sessions.{SessionState}
use Rattle.vol_session.specs.Rounds.{Goes, GoesWell}
use Rattle.vol_session.specs.Writeback.{IsWorked, KeepsKeys, StopsWith, stopped_by}
use Rattle.vol_session.specs.declared.writeback_end.WritebackEnd.{WritebackEnd}
use Rattle.vol_session.specs.declared.writeback_end.WritebackEnd.TheVariants as stops

keeps_here : (client : ℕ) (memory : State) → KeepsKeys client memory memory
keeps_here client memory = record { keys = refl; commits = refl; layout = refl; turn = refl; others = λ other apart. refl; actor = record { operation = refl; looks = refl; has_ids = refl; intended = refl } }

keeps_then : (client : ℕ) (old mid new : State) → KeepsKeys client old mid → KeepsKeys client mid new → KeepsKeys client old new
keeps_then client old mid new first second = record {
  keys = second.keys ∙ first.keys;
  commits = second.commits ∙ first.commits;
  layout = second.layout ∙ first.layout;
  turn = second.turn ∙ first.turn;
  others = λ other apart. second.others other apart ∙ first.others other apart;
  actor = record {
    operation = second.actor.operation ∙ first.actor.operation;
    looks = second.actor.looks ∙ first.actor.looks;
    has_ids = second.actor.has_ids ∙ first.actor.has_ids;
    intended = second.actor.intended ∙ first.actor.intended;
  };
}

worked_here : {D : Type 0} (client : ℕ) (session : SessionState D) → IsWorked client session session
worked_here client session = record { memory = keeps_here client session.core.memory; rest = refl }

worked_then : {D : Type 0} (client : ℕ) (old mid new : SessionState D) → IsWorked client old mid → IsWorked client mid new → IsWorked client old new
worked_then {D} client old mid new first second = record {
  memory = keeps_then client old.core.memory mid.core.memory new.core.memory first.memory second.memory;
  rest = second.rest ∙ ap (λ (s : SessionState D). record s { core = new.core; shortages = new.shortages }) first.rest;
}

stops_then : {U : Type 0} (result : Result U WritebackEnd) (first before after : ℕ) (old mid new : Volume) → first ≤ before → mid.halted ≡ old.halted → StopsWith result before after mid new → StopsWith result first after old new
stops_then (Ok done) first before after old mid new later same is = is ∙ same
stops_then (Err (stops.DeviceFault dev)) first before after old mid new later same is = let from = is.3 in (sym same ∙ is.0, is.1, is.2, omega (arith, later, from), is.4)
stops_then (Err (stops.Halted halt)) first before after old mid new later same is = (is.0 ∙ same, is.1)
stops_then (Err stops.Spent) first before after old mid new later same is = (is.0 ∙ same, is.1)
stops_then (Err (stops.NoSpace none)) first before after old mid new later same is = (is.0 ∙ same, is.1)
stops_then (Err (stops.Foreign refusal)) first before after old mid new later same is = (is.0 ∙ same, is.1)
stops_then (Err stops.NoMemory) first before after old mid new later same is = is ∙ same

module _ {D : Type 0} (client : ℕ) (state : D → DevicesState) where
  -- Nothing was done.
  pub goes_here : (session : SessionState D) → GoesWell client state session session
  goes_here session = record { worked = worked_here client session; shortages = refl; stops = refl; cause = refl; device = tt; goes_on = go_on_here (state session.core.devices) }

  -- One part was done after another one.
  pub goes_then : {U : Type 0} (result : Result U WritebackEnd) (old mid new : SessionState D) → GoesWell client state old mid → Goes client state result mid new → Goes client state result old new
  goes_then result old mid new first second = record {
    worked = worked_then client old mid new first.worked second.worked;
    shortages = second.shortages ∙ first.shortages;
    stops = stops_then result (state old.core.devices).moment (state mid.core.devices).moment (state new.core.devices).moment old.core.memory.volume mid.core.memory.volume new.core.memory.volume first.goes_on.later first.stops second.stops;
    cause = second.cause ∙ ap (λ (faults : FaultCounts). after_writes (stopped_by result) faults) first.cause;
    device = subst (λ (sizes : List ℕ). IfSome (stopped_by result) (λ dev. dev < length sizes)) first.goes_on.sizes second.device;
    goes_on = go_on_then (state old.core.devices) (state mid.core.devices) (state new.core.devices) first.goes_on second.goes_on;
  }
