-- What the parts of a call leave of a session, put together.
use Rattle.std.proofs.Common.{◌≡◌, ℕ, ◌<◌, ◌≤◌, true, List, [], ◌∷◌, ◌++◌, length, Option, Some, None, Result, Ok, Err, refl, sym, ap, ◌∙◌, subst, arith, inl, inr}
use Rattle.std.specs.Prelude.{IfOk, IfSome, OnErr}
use Rattle.std.specs.declared.alloc.AllocError.{AllocError}
use Rattle.std.proofs.lemmas.Option.{none-some as none_some}
use Rattle.btree_map.specs.Trees.{keys_in}
use Rattle.core_state.specs.Events.{IsMade}
use Rattle.core_state.specs.States.{IsState, State}
use Rattle.core_volume.specs.Volumes.{Volume}
use Rattle.core_actors.specs.declared.answer.Answer.{Answer}
use Rattle.vol_types.specs.declared.failure.Halt.{Halt}
use Rattle.core_actors.specs.declared.answer.Refusal.{Refusal}
use Rattle.core_actors.specs.declared.answer.Refusal.TheVariants as refusals
use Rattle.dev_model.specs.Devices.{DevicesState, FaultCounts}
use Rattle.dev_model.specs.FrameLaws.{go_on_here, go_on_then}
use Rattle.dev_model.specs.Frames.{GoOn, after_writes}
use Rattle.forest_ops.specs.declared.operation.Op.{Op}
use Rattle.forest_ops.specs.Classes.{class_of}
use Rattle.forest_ops.specs.History.{is_done}
use Rattle.forest_ops.specs.declared.operation.Class.TheVariants.{Syncs}
use Rattle.forest_ops.specs.declared.operation.Reply.{Reply}
use Rattle.forest_ops.specs.declared.operation.Reply.TheVariants as replies
use Rattle.forest_ops.specs.Acknowledged.{synced_count}
use Rattle.forest_ops.specs.declared.acks.Ack.{Ack}
use Rattle.vol_core.specs.Cores.{CoreState}
use Rattle.vol_session.specs.Sessions.{IsUncommitted, SessionState}
use Rattle.vol_types.specs.declared.space.Short.{Short}
use Rattle.vol_session.specs.Writeback.{IsForeign, MayStopSync, IsWorked, StopsWith, stopped_by}
use Rattle.vol_session.specs.declared.writeback_end.WritebackEnd.{WritebackEnd}
use Rattle.vol_session.specs.declared.writeback_end.WritebackEnd.TheVariants as stops
use Rattle.image_view.specs.Found.{Found}
use Rattle.volume.specs.Answers.{AcknowledgesAll, HasCause, IsNumberSpent, LacksSpace, acks_after}
use Rattle.volume.specs.Planning.{Standing, standing_in}
use Rattle.volume.specs.Serving.{HaltsAs, IsEntered, IsIntended, IsMoved, IsServed, IsStepped, IsUnmade, IsUnserved, IsWriting, TellsStop, TellsSync, halt_told}
use Rattle.volume.specs.States.{IsAtRest}
use Rattle.volume.proofs.Acting.{has_committed, intended_still, refused_still, works_rest}
use Rattle.volume.proofs.Failing.{entry_of}
use Rattle.volume.proofs.Replying.{IsQuiet, change_is_done, done_is_quiet, undone_writes, untold_writes}

-- A reply that says nothing of commits being durable leaves the acknowledgements.
acks_still : (reply : Reply) (moment : ℕ) (acks : List Ack) → synced_count reply ≡ None → acks ≡ acks_after reply moment acks
acks_still (replies.Synced count) moment acks unsynced = absurd (none_some count (sym unsynced))
acks_still other moment acks unsynced = refl

-- What a reply shows of the halt it shows from an earlier moment on.
halts_from : (reply : Reply) (earlier before after : ℕ) (sizes : List ℕ) (old new : Option Halt) → earlier ≤ before → HaltsAs reply before after sizes old new → HaltsAs reply earlier after sizes old new
halts_from (replies.DeviceFault dev) earlier before after sizes old new le is = (is.0, is.1, is.2, let e : earlier ≤ is.1 = omega (arith, le, is.3) in e, is.4, is.5)
halts_from other earlier before after sizes old new le is = is

module _ {D : Type 0} (begun : Found) (state : D → DevicesState) (client : ℕ) where
  -- What stays with the volume and the devices.
  same_moves : (old new : SessionState D) → new ≡ record old { core = new.core; shortages = new.shortages } → new.core.memory.volume ≡ old.core.memory.volume → new.core.devices ≡ old.core.devices → IsMoved state old new
  same_moves old new rest same devices_same = record {
    rest = rest;
    keys = ap (λ (volume : Volume). keys_in volume.trees) same;
    halted = ap (λ (volume : Volume). volume.halted) same;
    unfailed = ap (λ (devices : D). (state devices).faults) devices_same;
    goes_on = subst (λ (devices : D). GoOn (state old.core.devices) (state devices)) (sym devices_same) (go_on_here (state old.core.devices));
  }

  -- What only a client has under way may change.
  pub stepped_moves : (old new : SessionState D) → IsStepped old new → IsMoved state old new
  stepped_moves old new is = same_moves old new (ap (λ (s : SessionState D). record s { core = new.core; shortages = new.shortages }) is.rest) is.volume is.devices

  -- So it does where both works rest, and a commit that was refused is met.
  pub met_moves : (old new : SessionState D) → new ≡ record old { shortages = new.shortages } → IsMoved state old new
  met_moves old new met =
      same_moves old new (ap (λ (s : SessionState D). record s { core = new.core; shortages = new.shortages }) met) (ap (λ (s : SessionState D). s.core.memory.volume) met) (ap (λ (s : SessionState D). s.core.devices) met)

  -- Where all that stays is the same, the session was moved.
  pub standing_moves : (old new : SessionState D) → standing_in state new ≡ standing_in state old → IsMoved state old new
  standing_moves old new same = record {
    rest = cc_rest;
    keys = ap (λ (s : Standing). s.keys) same;
    halted = ap (λ (s : Standing). s.halted) same;
    unfailed = ap (λ (s : Standing). s.devices.faults) same;
    goes_on = subst (λ (shown : DevicesState). GoOn (state old.core.devices) shown) (sym (ap (λ (s : Standing). s.devices) same)) (go_on_here (state old.core.devices));
  }
    where
      cc_rest : new ≡ record old { core = new.core; shortages = new.shortages }
      cc_rest = λ i. record { core = new.core; trace = (same i).trace; acks = (same i).acks; commits = (same i).commits; spare = (same i).spare; shortages = new.shortages }

  pub stepped_then : (old mid new : SessionState D) → IsStepped old mid → IsStepped mid new → IsStepped old new
  stepped_then old mid new first second = record {
    rest = second.rest ∙ ap (λ (s : SessionState D). record s { core = new.core }) first.rest;
    volume = second.volume ∙ first.volume;
    devices = second.devices ∙ first.devices;
  }

  pub moved_then : (old mid new : SessionState D) → IsMoved state old mid → IsMoved state mid new → IsMoved state old new
  moved_then old mid new first second = record {
    rest = second.rest ∙ ap (λ (s : SessionState D). record s { core = new.core; shortages = new.shortages }) first.rest;
    keys = second.keys ∙ first.keys;
    halted = second.halted ∙ first.halted;
    unfailed = second.unfailed ∙ first.unfailed;
    goes_on = go_on_then (state old.core.devices) (state mid.core.devices) (state new.core.devices) first.goes_on second.goes_on;
  }

  -- A session that was moved takes as many entries without memory.
  pub spare_still : (old new : SessionState D) → IsMoved state old new → 0 < old.spare → 0 < new.spare
  spare_still old new moved spare = subst (λ (s : SessionState D). 0 < s.spare) (sym moved.rest) spare

  -- An operation that was answered after a session was moved was answered.
  pub served_after : (op : Op) (reply : Reply) (old mid new : SessionState D) → IsMoved state old mid → IsServed begun state client op reply mid new → IsServed begun state client op reply old new
  served_after op reply old mid new moved served = record {
    answered = record {
      trace = served.answered.trace ∙ ap (λ (s : SessionState D). s.trace ++ entry_of client op reply ∷ []) moved.rest;
      acks = served.answered.acks ∙ ap (λ (s : SessionState D). acks_after reply (state new.core.devices).moment s.acks) moved.rest;
      synced = λ count is. let both = served.answered.synced count is in (both.0, both.1 ∙ ap (λ (s : SessionState D). s.commits) moved.rest);
    };
    cause = subst (λ (faults : FaultCounts). HasCause begun client op reply new.core.memory.volume faults (state new.core.devices).faults) moved.unfailed served.cause;
    halts = halts_from reply (state old.core.devices).moment (state mid.core.devices).moment (state new.core.devices).moment (state old.core.devices).sizes old.core.memory.volume.halted new.core.memory.volume.halted moved.goes_on.later
        (subst (λ (sizes : List ℕ). HaltsAs reply (state mid.core.devices).moment (state new.core.devices).moment sizes old.core.memory.volume.halted new.core.memory.volume.halted) moved.goes_on.sizes
        (subst (λ (halted : Option Halt). HaltsAs reply (state mid.core.devices).moment (state new.core.devices).moment (state mid.core.devices).sizes halted new.core.memory.volume.halted) moved.halted served.halts));
    writes = subst (λ (halted : Option Halt). IsWriting op reply halted) moved.halted served.writes;
    rest = served.rest;
    goes_on = go_on_then (state old.core.devices) (state mid.core.devices) (state new.core.devices) moved.goes_on served.goes_on;
  }

  pub unserved_after : (old mid new : SessionState D) → IsMoved state old mid → IsUnserved state mid new → IsUnserved state old new
  unserved_after old mid new moved unserved = record {
    same = unserved.same ∙ ap (λ (s : SessionState D). record s { core = new.core; spare = new.spare; shortages = new.shortages }) moved.rest;
    halted = unserved.halted ∙ moved.halted;
    unfailed = unserved.unfailed ∙ moved.unfailed;
    rest = unserved.rest;
    goes_on = go_on_then (state old.core.devices) (state mid.core.devices) (state new.core.devices) moved.goes_on unserved.goes_on;
  }

  -- A session that was moved, and has nothing under way, wasn't served.
  pub moved_unserved : (old new : SessionState D) → IsMoved state old new → IsAtRest new.core.memory → IsUnserved state old new
  moved_unserved old new moved rest = record {
    same = ap (λ (s : SessionState D). record s { core = new.core; spare = new.spare; shortages = new.shortages }) moved.rest;
    halted = moved.halted;
    unfailed = moved.unfailed;
    rest = rest;
    goes_on = moved.goes_on;
  }

  -- An entry that joined the history after a step joined it.
  pub entered_after : (op : Op) (reply : Reply) (old mid new : SessionState D) → IsStepped old mid → IsEntered client op reply mid new → IsEntered client op reply old new
  entered_after op reply old mid new stepped entered = record {
    entry = entered.entry ∙ ap (λ (s : SessionState D). record s { core = new.core; trace = s.trace ++ entry_of client op reply ∷ []; spare = new.spare }) stepped.rest;
    volume = entered.volume ∙ stepped.volume;
    devices = entered.devices ∙ stepped.devices;
    rest = entered.rest;
  }

  -- An entry that was told, and whose operation was ended then, joined the history.
  pub entered_before : (op : Op) (reply : Reply) (old mid new : SessionState D) → mid ≡ record old { trace = old.trace ++ entry_of client op reply ∷ []; spare = mid.spare } → IsStepped mid new → IsAtRest new.core.memory → IsEntered client op reply old new
  entered_before op reply old mid new told stepped rest =
      let spare : new.spare ≡ mid.spare = ap (λ (s : SessionState D). s.spare) stepped.rest in
      let core : mid.core ≡ old.core = ap (λ (s : SessionState D). s.core) told in
      record {
        entry = stepped.rest ∙ ap (λ (s : SessionState D). record s { core = new.core }) told ∙ ap (λ (n : ℕ). record old { core = new.core; trace = old.trace ++ entry_of client op reply ∷ []; spare = n }) (sym spare);
        volume = stepped.volume ∙ ap (λ (c : CoreState D). c.memory.volume) core;
        devices = stepped.devices ∙ ap (λ (c : CoreState D). c.devices) core;
        rest = rest;
      }

  -- An entry that was told with nothing under way joined the history.
  pub told_entered : (op : Op) (reply : Reply) (old new : SessionState D) → IsAtRest old.core.memory → new ≡ record old { trace = old.trace ++ entry_of client op reply ∷ []; spare = new.spare } → IsEntered client op reply old new
  told_entered op reply old new rest told =
      let core : new.core ≡ old.core = ap (λ (s : SessionState D). s.core) told in
      record {
        entry = told ∙ ap (λ (c : CoreState D). record old { core = c; trace = old.trace ++ entry_of client op reply ∷ []; spare = new.spare }) (sym core);
        volume = ap (λ (c : CoreState D). c.memory.volume) core;
        devices = ap (λ (c : CoreState D). c.devices) core;
        rest = subst (λ (c : CoreState D). IsAtRest c.memory) (sym core) rest;
      }

  -- An entry that shows no failure of a device answers an operation, where its cause and its halt are the volume's.
  pub entered_served : (op : Op) (reply : Reply) (old new : SessionState D) → IsEntered client op reply old new → synced_count reply ≡ None
      → HasCause begun client op reply old.core.memory.volume (state old.core.devices).faults (state old.core.devices).faults
      → HaltsAs reply (state old.core.devices).moment (state old.core.devices).moment (state old.core.devices).sizes old.core.memory.volume.halted old.core.memory.volume.halted
      → IsWriting op reply old.core.memory.volume.halted → IsServed begun state client op reply old new
  entered_served op reply old new entered unsynced cause halts writes = record {
    answered = record {
      trace = ap (λ (s : SessionState D). s.trace) entered.entry;
      acks = ap (λ (s : SessionState D). s.acks) entered.entry ∙ acks_still reply (state new.core.devices).moment old.acks unsynced;
      synced = λ count is. absurd (none_some count (sym unsynced ∙ ap synced_count is));
    };
    cause = subst (λ (volume : Volume). HasCause begun client op reply volume (state old.core.devices).faults (state new.core.devices).faults) (sym entered.volume)
        (subst (λ (devices : D). HasCause begun client op reply old.core.memory.volume (state old.core.devices).faults (state devices).faults) (sym entered.devices) cause);
    halts = subst (λ (volume : Volume). HaltsAs reply (state old.core.devices).moment (state new.core.devices).moment (state old.core.devices).sizes old.core.memory.volume.halted volume.halted) (sym entered.volume)
        (subst (λ (devices : D). HaltsAs reply (state old.core.devices).moment (state devices).moment (state old.core.devices).sizes old.core.memory.volume.halted old.core.memory.volume.halted) (sym entered.devices) halts);
    writes = writes;
    rest = entered.rest;
    goes_on = subst (λ (devices : D). GoOn (state old.core.devices) (state devices)) (sym entered.devices) (go_on_here (state old.core.devices));
  }

  -- So does the forest's reply where it changes nothing,
  pub quiet_served : (op : Op) (reply : Reply) (old new : SessionState D) → IsEntered client op reply old new → IsQuiet reply → halt_told op reply old.core.memory.volume.halted ≡ None → IsServed begun state client op reply old new
  quiet_served op reply old new entered quiet none =
      entered_served op reply old new entered quiet.unsynced (quiet.cause begun client op old.core.memory.volume _ _ refl) (quiet.halts _ _ _ _ _ refl) (untold_writes op reply old.core.memory.volume.halted none)

  -- a failure for want of space,
  pub lack_served : (op : Op) (reply : Reply) (short : Short) (old new : SessionState D) → reply ≡ replies.NoSpace short → LacksSpace begun client op short old.core.memory.volume → IsEntered client op reply old new → IsServed begun state client op reply old new
  lack_served op reply short old new is lacks entered =
      entered_served op reply old new entered (ap synced_count is)
      (subst (λ (r : Reply). HasCause begun client op r old.core.memory.volume (state old.core.devices).faults (state old.core.devices).faults) (sym is) (refl, lacks))
      (subst (λ (r : Reply). HaltsAs r (state old.core.devices).moment (state old.core.devices).moment (state old.core.devices).sizes old.core.memory.volume.halted old.core.memory.volume.halted) (sym is) refl)
      (undone_writes op reply old.core.memory.volume.halted (ap is_done is))

  -- for want of a number,
  pub spent_served : (op : Op) (reply : Reply) (old new : SessionState D) → reply ≡ replies.Spent → IsNumberSpent client op old.core.memory.volume → IsEntered client op reply old new → IsServed begun state client op reply old new
  spent_served op reply old new is spent entered =
      entered_served op reply old new entered (ap synced_count is)
      (subst (λ (r : Reply). HasCause begun client op r old.core.memory.volume (state old.core.devices).faults (state old.core.devices).faults) (sym is) (refl, spent))
      (subst (λ (r : Reply). HaltsAs r (state old.core.devices).moment (state old.core.devices).moment (state old.core.devices).sizes old.core.memory.volume.halted old.core.memory.volume.halted) (sym is) refl)
      (undone_writes op reply old.core.memory.volume.halted (ap is_done is))

  -- and one in a session that has stopped writing.
  pub halted_served : (op : Op) (reply : Reply) (halt : Halt) (old new : SessionState D) → reply ≡ replies.Halted halt.dev halt.tick → old.core.memory.volume.halted ≡ Some halt → IsEntered client op reply old new → IsServed begun state client op reply old new
  halted_served op reply halt old new is halted entered =
      entered_served op reply old new entered (ap synced_count is)
      (subst (λ (r : Reply). HasCause begun client op r old.core.memory.volume (state old.core.devices).faults (state old.core.devices).faults) (sym is) (refl, halted))
      (subst (λ (r : Reply). HaltsAs r (state old.core.devices).moment (state old.core.devices).moment (state old.core.devices).sizes old.core.memory.volume.halted old.core.memory.volume.halted) (sym is) (refl, halted))
      (undone_writes op reply old.core.memory.volume.halted (ap is_done is))

  -- A change that was committed is answered.
  pub made_served : (op : Op) (reply : Reply) (old new : SessionState D) → IsState old.core.memory → IsIntended old.core.memory client op reply → IsMade old.core.memory client true new.core.memory
      → new.trace ≡ old.trace ++ entry_of client op reply ∷ [] → new.acks ≡ old.acks → new.core.devices ≡ old.core.devices → IsServed begun state client op reply old new
  made_served op reply old new is intended made trace acks devices =
      let committed = has_committed client old.core.memory new.core.memory is intended.under made in
      let quiet = done_is_quiet reply (change_is_done op reply intended.change) in
      record {
        answered = record { trace = trace; acks = acks ∙ acks_still reply (state new.core.devices).moment old.acks quiet.unsynced; synced = λ count same. absurd (none_some count (sym quiet.unsynced ∙ ap synced_count same)) };
        cause = quiet.cause begun client op new.core.memory.volume _ _ (ap (λ (d : D). (state d).faults) devices);
        halts = quiet.halts _ _ _ _ _ committed.writes;
        writes = λ changes done. committed.wrote;
        rest = committed.rest;
        goes_on = subst (λ (d : D). GoOn (state old.core.devices) (state d)) (sym devices) (go_on_here (state old.core.devices));
      }

  -- A commit that isn't made leaves what is intended, and moved the session.
  pub record HasNotMade (answer : Answer) (op : Op) (reply : Reply) (old new : SessionState D) : Type 0 where
    pub intended : IsIntended new.core.memory client op reply
    pub unmade : IsUnmade new.core.memory client answer
    pub moved : IsMoved state old new
    pub volume : new.core.memory.volume ≡ old.core.memory.volume

  pub not_made : (op other : Op) (reply others : Reply) (old new : SessionState D) (answer : Answer) (seen : State) → seen ≡ old.core.memory → IsState seen → IsUncommitted old.core.memory client answer new.core.memory → other ≡ op → others ≡ reply
      → new ≡ record old { core = new.core; shortages = new.shortages } → new.core.devices ≡ old.core.devices → IsIntended old.core.memory client op reply → HasNotMade answer other others old new
  not_made op other reply others old new answer seen same kept uncommitted is replied rest devices intended =
      let still = refused_still client intended.under.there old.core.memory new.core.memory (subst IsState same kept) answer uncommitted in
      record {
        intended = subst (λ (o : Op). IsIntended new.core.memory client o others) (sym is)
            (subst (λ (r : Reply). IsIntended new.core.memory client op r) (sym replied) (intended_still client op reply old.core.memory new.core.memory still.keeps intended));
        unmade = still.unmade;
        moved = same_moves old new rest still.volume devices;
        volume = still.volume;
      }

  -- So it is where both works rest, and it was met.
  pub met_not_made : (answer : Answer) (op : Op) (reply : Reply) (old mid new : SessionState D) → new ≡ record mid { shortages = new.shortages } → HasNotMade answer op reply old mid → HasNotMade answer op reply old new
  met_not_made answer op reply old mid new met not = record {
    intended = subst (λ (s : SessionState D). IsIntended s.core.memory client op reply) (sym met) not.intended;
    unmade = subst (λ (s : SessionState D). IsUnmade s.core.memory client answer) (sym met) not.unmade;
    moved = moved_then old mid new not.moved (met_moves mid new met);
    volume = ap (λ (s : SessionState D). s.core.memory.volume) met ∙ not.volume;
  }

  -- Works on what is durable that didn't fail moved the session.
  pub works_move : (old new : SessionState D) → IsWorked client old new → new.core.memory.volume.halted ≡ old.core.memory.volume.halted → (state new.core.devices).faults ≡ (state old.core.devices).faults
      → GoOn (state old.core.devices) (state new.core.devices) → IsMoved state old new
  works_move old new worked halted unfailed goes_on = record { rest = worked.rest; keys = worked.memory.keys; halted = halted; unfailed = unfailed; goes_on = goes_on }

  -- What a work says that ended early.
  pub record HasStopped (stop : WritebackEnd) (old new : SessionState D) : Type 0 where
    pub worked : IsWorked client old new
    pub stops : StopsWith {T = Unit {0}} (Err stop) (state old.core.devices).moment (state new.core.devices).moment old.core.memory.volume new.core.memory.volume
    pub cause : (state new.core.devices).faults ≡ after_writes (stopped_by {T = Unit {0}} (Err stop)) (state old.core.devices).faults
    pub device : IfSome (stopped_by {T = Unit {0}} (Err stop)) (λ dev. dev < length (state old.core.devices).sizes)
    pub goes_on : GoOn (state old.core.devices) (state new.core.devices)

  -- The failure of a device answers an operation.
  device_served : (op : Op) (dev : ℕ) (old mid new : SessionState D) → HasStopped (stops.DeviceFault dev) old mid → IsEntered client op (replies.DeviceFault dev) mid new → IsServed begun state client op (replies.DeviceFault dev) old new
  device_served op dev old mid new stopped entered = record {
    answered = record {
      trace = ap (λ (s : SessionState D). s.trace) entered.entry ∙ ap (λ (s : SessionState D). s.trace ++ entry_of client op (replies.DeviceFault dev) ∷ []) stopped.worked.rest;
      acks = ap (λ (s : SessionState D). s.acks) entered.entry ∙ ap (λ (s : SessionState D). s.acks) stopped.worked.rest;
      synced = λ count is. absurd (none_some count (ap synced_count is));
    };
    cause = ap (λ (d : D). (state d).faults) entered.devices ∙ stopped.cause;
    halts = (
      stopped.stops.0,
      stopped.stops.1,
      ap (λ (volume : Volume). volume.halted) entered.volume ∙ stopped.stops.2,
      stopped.stops.3,
      subst (λ (d : D). stopped.stops.1 ≤ (state d).moment) (sym entered.devices) stopped.stops.4,
      stopped.device,
    );
    writes = undone_writes op (replies.DeviceFault dev) old.core.memory.volume.halted refl;
    rest = entered.rest;
    goes_on = subst (λ (d : D). GoOn (state old.core.devices) (state d)) (sym entered.devices) stopped.goes_on;
  }

  -- A change that fails as a checkpoint ended early is answered,
  pub stopped_served : (op : Op) (reply : Reply) (stop : WritebackEnd) (old mid new : SessionState D) → HasStopped stop old mid → TellsStop stop reply → IsEntered client op reply mid new → IsServed begun state client op reply old new
  stopped_served op reply (stops.DeviceFault dev) old mid new stopped tells entered =
      subst (λ (r : Reply). IsServed begun state client op r old new) (sym tells) (device_served op dev old mid new stopped (subst (λ (r : Reply). IsEntered client op r mid new) tells entered))
  stopped_served op reply (stops.Halted halt) old mid new stopped tells entered =
      served_after op reply old mid new (works_move old mid stopped.worked stopped.stops.0 stopped.cause stopped.goes_on) (halted_served op reply halt mid new tells stopped.stops.1 entered)
  stopped_served op reply stops.Spent old mid new stopped tells entered =
      served_after op reply old mid new (works_move old mid stopped.worked stopped.stops.0 stopped.cause stopped.goes_on) (spent_served op reply mid new tells (inr (inl stopped.stops.1)) entered)
  stopped_served op reply (stops.NoSpace none) old mid new stopped tells entered =
      served_after op reply old mid new (works_move old mid stopped.worked stopped.stops.0 stopped.cause stopped.goes_on) (lack_served op reply none.short mid new tells (inr (inr (inr (inr (record { why = inl (none, stopped.stops.1, refl) }))))) entered)
  stopped_served op reply (stops.Foreign refusal) old mid new stopped tells entered =
      served_after op reply old mid new (works_move old mid stopped.worked stopped.stops.0 stopped.cause stopped.goes_on) (lack_served op reply _ mid new tells (inr (inr (inr (inr (record { why = inr (refusal, stopped.stops.1, refl) }))))) entered)
  stopped_served op reply stops.NoMemory old mid new stopped tells entered = absurd tells

  -- and leaves the session unserved where no device failed and memory has ended.
  pub stopped_moves : (stop : WritebackEnd) (old mid : SessionState D) → HasStopped stop old mid → stopped_by {T = Unit {0}} (Err stop) ≡ None → IsMoved state old mid
  stopped_moves (stops.DeviceFault dev) old mid stopped none = absurd (none_some dev (sym none))
  stopped_moves (stops.Halted halt) old mid stopped none = works_move old mid stopped.worked stopped.stops.0 stopped.cause stopped.goes_on
  stopped_moves stops.Spent old mid stopped none = works_move old mid stopped.worked stopped.stops.0 stopped.cause stopped.goes_on
  stopped_moves (stops.NoSpace short) old mid stopped none = works_move old mid stopped.worked stopped.stops.0 stopped.cause stopped.goes_on
  stopped_moves (stops.Foreign refusal) old mid stopped none = works_move old mid stopped.worked stopped.stops.0 stopped.cause stopped.goes_on
  stopped_moves stops.NoMemory old mid stopped none = works_move old mid stopped.worked stopped.stops stopped.cause stopped.goes_on

  -- The ring has no room for an entry of a sync.
  ring_spent : (op : Op) → class_of op ≡ Syncs → (refusal : Refusal) (volume : Volume) → MayStopSync (stops.Foreign refusal) → IsForeign volume refusal → IsNumberSpent client op volume
  ring_spent op syncs (refusals.RingFull full) volume journal foreign = inr (inr (record { syncs = syncs; refusal = refusals.RingFull full; of_ring = tt; foreign = foreign }))
  ring_spent op syncs (refusals.NeedSplit need) volume journal foreign = absurd journal
  ring_spent op syncs (refusals.Halted halt) volume journal foreign = absurd foreign
  ring_spent op syncs refusals.Spent volume journal foreign = absurd foreign
  ring_spent op syncs (refusals.NoSpace none) volume journal foreign = absurd foreign

  -- A sync that ended early is answered.
  pub sync_stopped : (op : Op) (reply : Reply) (stop : WritebackEnd) (old mid new : SessionState D) → class_of op ≡ Syncs → HasStopped stop old mid → MayStopSync stop → TellsSync stop reply → IsEntered client op reply mid new → IsServed begun state client op reply old new
  sync_stopped op reply (stops.DeviceFault dev) old mid new syncs stopped journal tells entered =
      subst (λ (r : Reply). IsServed begun state client op r old new) (sym tells) (device_served op dev old mid new stopped (subst (λ (r : Reply). IsEntered client op r mid new) tells entered))
  sync_stopped op reply (stops.Halted halt) old mid new syncs stopped journal tells entered =
      served_after op reply old mid new (works_move old mid stopped.worked stopped.stops.0 stopped.cause stopped.goes_on) (halted_served op reply halt mid new tells stopped.stops.1 entered)
  sync_stopped op reply stops.Spent old mid new syncs stopped journal tells entered =
      served_after op reply old mid new (works_move old mid stopped.worked stopped.stops.0 stopped.cause stopped.goes_on) (spent_served op reply mid new tells (inr (inl stopped.stops.1)) entered)
  sync_stopped op reply (stops.NoSpace none) old mid new syncs stopped journal tells entered = absurd tells
  sync_stopped op reply (stops.Foreign refusal) old mid new syncs stopped journal tells entered =
      served_after op reply old mid new (works_move old mid stopped.worked stopped.stops.0 stopped.cause stopped.goes_on)
      (spent_served op reply mid new tells (ring_spent op syncs refusal mid.core.memory.volume journal stopped.stops.1) entered)
  sync_stopped op reply stops.NoMemory old mid new syncs stopped journal tells entered = absurd tells

  -- So is one that made all commits durable.
  pub sync_served : client < 16 → (op : Op) → class_of op ≡ Syncs → (count : ℕ) (old mid new : SessionState D) → IsAtRest old.core.memory → IsWorked client old mid → mid.core.memory.volume.halted ≡ old.core.memory.volume.halted → (state mid.core.devices).faults ≡ (state old.core.devices).faults
      → GoOn (state old.core.devices) (state mid.core.devices) → count ≡ mid.commits
      → new ≡ record mid {
        trace = mid.trace ++ entry_of client op (replies.Synced mid.commits) ∷ [];
        acks = mid.acks ++ record { moment = (state mid.core.devices).moment; commits = mid.commits } ∷ [];
        spare = new.spare;
      }
      → IsServed begun state client op (replies.Synced count) old new
  sync_served few op syncs count old mid new rest worked halted unfailed goes_on counted entry =
      let core : new.core ≡ mid.core = ap (λ (s : SessionState D). s.core) entry in
      subst (λ (n : ℕ). IsServed begun state client op (replies.Synced n) old new) (sym counted) (record {
        answered = record {
          trace = ap (λ (s : SessionState D). s.trace) entry ∙ ap (λ (s : SessionState D). s.trace ++ entry_of client op (replies.Synced mid.commits) ∷ []) worked.rest;
          acks = ap (λ (s : SessionState D). s.acks) entry
              ∙ ap (λ (s : SessionState D). s.acks ++ record { moment = (state mid.core.devices).moment; commits = mid.commits } ∷ []) worked.rest
              ∙ ap (λ (c : CoreState D). old.acks ++ record { moment = (state c.devices).moment; commits = mid.commits } ∷ []) (sym core);
          synced = λ n is. (synced_same n is ∙ sym (ap (λ (s : SessionState D). s.commits) entry), ap (λ (s : SessionState D). s.commits) entry ∙ ap (λ (s : SessionState D). s.commits) worked.rest);
        };
        cause = ap (λ (c : CoreState D). (state c.devices).faults) core ∙ unfailed;
        halts = ap (λ (c : CoreState D). c.memory.volume.halted) core ∙ halted;
        writes = undone_writes op (replies.Synced mid.commits) old.core.memory.volume.halted refl;
        rest = subst (λ (c : CoreState D). IsAtRest c.memory) (sym core) (works_rest client old.core.memory mid.core.memory few worked.memory rest);
        goes_on = subst (λ (c : CoreState D). GoOn (state old.core.devices) (state c.devices)) (sym core) goes_on;
      })
    where
      synced_same : (n : ℕ) → replies.Synced mid.commits ≡ replies.Synced n → n ≡ mid.commits
      synced_same n is = cc

  -- ---- by the result of a part

  -- A change that lacks space is answered, where there was memory.
  pub lack_result : (result : Result Reply AllocError) (op : Op) (short : Short) (old new : SessionState D) → LacksSpace begun client op short old.core.memory.volume → IfOk result (λ reply. IsEntered client op reply old new) → IfOk result (λ reply. reply ≡ replies.NoSpace short)
      → IfOk result (λ reply. IsServed begun state client op reply old new)
  lack_result (Ok reply) op short old new lacks entered is = lack_served op reply short old new is lacks entered
  lack_result (Err error) op short old new lacks entered is = tt

  -- Where there was no memory to tell that, the session is unserved.
  pub unlacked_result : (result : Result Reply AllocError) (old new : SessionState D) → OnErr result (IsStepped old new) → OnErr result (IsAtRest new.core.memory) → OnErr result (IsUnserved state old new)
  unlacked_result (Ok reply) old new stepped rest = tt
  unlacked_result (Err error) old new stepped rest = moved_unserved old new (stepped_moves old new stepped) rest

  -- What was answered after the session was moved is answered,
  pub served_later : (result : Result Reply AllocError) (op other : Op) (old mid new : SessionState D) → IsMoved state old mid → other ≡ op → IfOk result (λ reply. IsServed begun state client other reply mid new) → IfOk result (λ reply. IsServed begun state client op reply old new)
  served_later (Ok reply) op other old mid new moved same served = served_after op reply old mid new moved (subst (λ (o : Op). IsServed begun state client o reply mid new) same served)
  served_later (Err error) op other old mid new moved same served = tt

  -- and what wasn't, isn't.
  pub unserved_later : (result : Result Reply AllocError) (old mid new : SessionState D) → IsMoved state old mid → OnErr result (IsUnserved state mid new) → OnErr result (IsUnserved state old new)
  unserved_later (Ok reply) old mid new moved unserved = tt
  unserved_later (Err error) old mid new moved unserved = unserved_after old mid new moved unserved

  -- A change that fails as a checkpoint ended early is answered, where there was memory,
  pub stopped_result : (result : Result Reply AllocError) (op : Op) (stop : WritebackEnd) (old mid new : SessionState D) → HasStopped stop old mid → IfOk result (TellsStop stop) → IfOk result (λ reply. IsEntered client op reply mid new)
      → IfOk result (λ reply. IsServed begun state client op reply old new)
  stopped_result (Ok reply) op stop old mid new stopped tells entered = stopped_served op reply stop old mid new stopped tells entered
  stopped_result (Err error) op stop old mid new stopped tells entered = tt

  -- and else the session is unserved.
  pub unstopped_result : (result : Result Reply AllocError) (stop : WritebackEnd) (old mid new : SessionState D) → HasStopped stop old mid → OnErr result (stopped_by {T = Unit {0}} (Err stop) ≡ None) → OnErr result (IsStepped mid new)
      → OnErr result (IsAtRest new.core.memory) → OnErr result (IsUnserved state old new)
  unstopped_result (Ok reply) stop old mid new stopped unfailed stepped rest = tt
  unstopped_result (Err error) stop old mid new stopped unfailed stepped rest =
      moved_unserved old new (moved_then old mid new (stopped_moves stop old mid stopped unfailed) (stepped_moves mid new stepped)) rest

  -- A sync that ended early is answered, where there was memory,
  pub sync_result : (result : Result Reply AllocError) (op : Op) (stop : WritebackEnd) (old mid new : SessionState D) → class_of op ≡ Syncs → HasStopped stop old mid → MayStopSync stop → IfOk result (TellsSync stop) → IfOk result (λ reply. IsEntered client op reply mid new)
      → IfOk result (λ reply. IsServed begun state client op reply old new)
  sync_result (Ok reply) op stop old mid new syncs stopped may tells entered = sync_stopped op reply stop old mid new syncs stopped may tells entered
  sync_result (Err error) op stop old mid new syncs stopped may tells entered = tt

  -- and else the session is unserved.
  pub unsynced_result : (result : Result Reply AllocError) (stop : WritebackEnd) (old mid new : SessionState D) → client < 16 → IsAtRest old.core.memory → HasStopped stop old mid → OnErr result (stop ≡ stops.NoMemory) → OnErr result (new ≡ mid) → OnErr result (IsUnserved state old new)
  unsynced_result (Ok reply) stop old mid new few rest stopped none same = tt
  unsynced_result (Err error) stop old mid new few rest stopped none same =
      subst (λ (s : SessionState D). IsUnserved state old s) (sym same)
      (moved_unserved old mid (stopped_moves stop old mid stopped (ap (λ (t : WritebackEnd). stopped_by {T = Unit {0}} (Err t)) none)) (works_rest client old.core.memory mid.core.memory few stopped.worked.memory rest))

  -- A sync acknowledges all commits that were made before room was made for it.
  pub synced_all : (reply : Reply) (op : Op) (commits : ℕ) (old mid new : SessionState D) → old.commits ≡ commits → mid ≡ record old { spare = mid.spare } → IsServed begun state client op reply mid new → AcknowledgesAll commits reply
  synced_all reply op commits old mid new counted same served = λ count is.
      let both = served.answered.synced count is in
      both.0 ∙ both.1 ∙ ap (λ (s : SessionState D). s.commits) same ∙ counted

-- What follows of each value follows of what a result holds.
pub of_ok : {T E : Type 0} {P Q : T → Type 0} (result : Result T E) → ((value : T) → P value → Q value) → IfOk result P → IfOk result Q
of_ok (Ok value) follows is = follows value is
of_ok (Err error) follows is = tt
