use Rattle.std.proofs.Common.{◌≡◌, ℕ, ◌≤◌, length, subst}
use Rattle.std.specs.Prelude.{IfOk, OnErr}
use Rattle.dev_model.specs.Frames.{GoOn}
use Rattle.forest_ops.specs.History.{commit_count}
use Rattle.vol_session.specs.Marks.{forest_found}
use Rattle.vol_session.specs.Sessions.{SessionState}
use Rattle.volume.specs.Answers.{AcknowledgesAll, HasCause, IsAnswered}
use Rattle.volume.specs.Serving.{IsWriting}
use Rattle.volume.specs.States.{VolumeState, session_in}
use Rattle.volume.proofs.Between.{AreCounting, call_goes_on, keeps_call, unserved_call, unserved_faults, volume_of}
use Rattle.volume.proofs.Served.{of_ok, synced_all}
use Rattle.volume.proofs.state.VolState.call.Goals as goal

pub returns-clause-synced : goal.returns-clause-synced
returns-clause-synced g c =
    let forest = forest_found g.O.Opening.found g.O.Opening.start in
    subst (λ (volume : VolumeState g.row.D.Denot). IfOk c.answer-result.result (AcknowledgesAll (commit_count forest volume.trace))) c.self.view_is
    (of_ok c.answer-result.result
    (λ reply served.
    synced_all g.O.Opening.found g.D.Devices.state c.args.client reply c.args.op (commit_count forest c.self.inside.session.trace) c.self.inside.session c.reserve.new.self c.answer-result.new.session c.see_history.ensures.counted.counted c.reserve.ensures.rest served)
    c.answer-result.ensures.served)

pub returns-clause-writes : goal.returns-clause-writes
returns-clause-writes g c =
    subst (λ (volume : VolumeState g.row.D.Denot). IfOk c.answer-result.result (λ reply. IsWriting c.args.op reply volume.core.memory.volume.halted)) c.self.view_is
    (of_ok c.answer-result.result
    (λ reply served. subst (λ (session : SessionState g.row.D.Denot). IsWriting c.args.op reply session.core.memory.volume.halted) c.reserve.ensures.rest served.writes)
    c.answer-result.ensures.served)

pub invariant_of-self-2 : goal.invariant_of-self-2
invariant_of-self-2 g c =
    let state = g.D.Devices.state in
    let counting : AreCounting g.D.Devices.tells g.O.Opening.found g.O.Opening.start state c.self.inside.session.core.devices = record {
      goes_on = c.see_history.ensures.counted.goes_on;
      counts = g.met.D.Devices.counted c.self.inside.session.core.devices;
      few = subst (λ (devices : g.row.D.Denot). length (state devices).sizes ≤ 8) c.devices.ensures (subst (λ (count : ℕ). count ≤ 8) c.count-count.ensures.count c.count-count.ensures.range.1);
    } in
    keeps_call g.D.Devices.tells g.O.Opening.found g.O.Opening.start state c.answer-result.result c.args.client c.args.op c.self.inside.session c.reserve.new.self c.answer-result.new.session c.reserve.ensures.rest c.see_numbers.ensures
    c.see_room.ensures.may c.see_room-2.ensures.room counting c.answer-result.ensures.helped c.self.invariant c.answer-result.ensures.served c.answer-result.ensures.unserved

pub returns-clause-err : goal.returns-clause-err
returns-clause-err g c =
    let new = c.answer-result.new.session in
    let calls = c.count_one.new.self in
    subst (λ (volume : VolumeState g.row.D.Denot). OnErr c.answer-result.result (volume_of calls new ≡ record volume { core = new.core; spare = new.spare; calls = calls })) c.self.view_is
    (unserved_call g.D.Devices.state c.answer-result.result c.args.client c.args.op g.O.Opening.found c.self.inside.session c.reserve.new.self new c.reserve.ensures.rest calls c.self.invariant.helped c.answer-result.ensures.helped c.answer-result.ensures.unserved)

pub returns-clause-unfailed : goal.returns-clause-unfailed
returns-clause-unfailed g c =
    let state = g.D.Devices.state in
    let new = c.answer-result.new.session in
    subst (λ (volume : VolumeState g.row.D.Denot). OnErr c.answer-result.result ((state new.core.devices).faults ≡ (state volume.core.devices).faults)) c.self.view_is
    (unserved_faults state c.answer-result.result c.args.client c.args.op g.O.Opening.found c.self.inside.session c.reserve.new.self new c.reserve.ensures.rest c.answer-result.ensures.unserved)

pub returns-clause-goes_on : goal.returns-clause-goes_on
returns-clause-goes_on g c =
    let state = g.D.Devices.state in
    let new = c.answer-result.new.session in
    subst (λ (volume : VolumeState g.row.D.Denot). GoOn (state volume.core.devices) (state new.core.devices)) c.self.view_is
    (call_goes_on state c.answer-result.result c.args.client c.args.op g.O.Opening.found c.self.inside.session c.reserve.new.self new c.reserve.ensures.rest c.answer-result.ensures.served c.answer-result.ensures.unserved)

pub returns-clause-answers : goal.returns-clause-answers
returns-clause-answers g c =
    let state = g.D.Devices.state in
    let client = c.args.client in
    let new = c.answer-result.new.session in
    subst (λ (volume : VolumeState g.row.D.Denot). IfOk c.answer-result.result (λ reply. IsAnswered state client c.args.op reply (session_in volume) new)) c.self.view_is
    (of_ok c.answer-result.result
    (λ reply served.
    let same = subst (λ (session : SessionState g.row.D.Denot). IsAnswered state client c.args.op reply session new) c.reserve.ensures.rest served.answered in
    record { trace = same.trace; acks = same.acks; synced = same.synced })
    c.answer-result.ensures.served)

pub returns-clause-cause : goal.returns-clause-cause
returns-clause-cause g c =
    let state = g.D.Devices.state in
    let found = g.O.Opening.found in
    let client = c.args.client in
    let new = c.answer-result.new.session.core in
    subst (λ (volume : VolumeState g.row.D.Denot). IfOk c.answer-result.result (λ reply. HasCause found client c.args.op reply new.memory.volume (state volume.core.devices).faults (state new.devices).faults)) c.self.view_is
    (of_ok c.answer-result.result
    (λ reply served. subst (λ (session : SessionState g.row.D.Denot). HasCause found client c.args.op reply new.memory.volume (state session.core.devices).faults (state new.devices).faults) c.reserve.ensures.rest served.cause)
    c.answer-result.ensures.served)
