use Rattle.std.proofs.Common.{ℕ, Ok, Err, refl, ap, ◌∙◌, sym, subst, arith}
use Rattle.vol_types.specs.declared.failure.Failed.{Failed}
use Rattle.text_io.specs.Memory.{SinkState, CountsCall, IsToFail}
use Rattle.text_io.specs.Streams.{AreGivenAt}
use Rattle.text_io.specs.StreamLaws.{none_given}
use Rattle.text_io.proofs.Results.{failed_alike, done_alike, failed_call_alike, counted_then}
use Rattle.text_io.proofs.memory.MemSinkSink.give.Goals as goal

pub returns-in_default-clause-failed : goal.returns-in_default-clause-failed
returns-in_default-clause-failed g c = ap (λ (s : SinkState). s.held) c.self.view_is

pub returns-in_default-clause-moment : goal.returns-in_default-clause-moment
returns-in_default-clause-moment g c =
    let held = c.self.inside.bytes.items in
    let at = c.self.inside.given_at.items in
    let now : _ = (g.D.Devices.state c.args.devices.now).moment in
    subst (λ (s : SinkState). AreGivenAt now s.held held s.given_at at) c.self.view_is (none_given now held at)

pub returns-in_default-clause-room : goal.returns-in_default-clause-room
returns-in_default-clause-room g c = omega (arith, ap (λ (s : SinkState). s.room) c.self.view_is)

pub returns-in_default-clause-call : goal.returns-in_default-clause-call
returns-in_default-clause-call g c = subst (λ (s : SinkState). CountsCall {T = ℕ} {E = Failed} (Err _) s.calls c.begin.new.self) c.self.view_is (failed_call_alike c.in_default.ensures.call)

pub returns-in_default-clause-cause : goal.returns-in_default-clause-cause
returns-in_default-clause-cause g c = (returns-in_default-clause-call g c).failed

pub returns-in_default-make_room-clause-failed : goal.returns-in_default-make_room-clause-failed
returns-in_default-make_room-clause-failed g c = ap (λ (s : SinkState). s.held) c.make_room.ensures.others ∙ ap (λ (s : SinkState). s.held) c.self.view_is

pub returns-in_default-make_room-clause-moment : goal.returns-in_default-make_room-clause-moment
returns-in_default-make_room-clause-moment g c =
    let held = c.self.inside.bytes.items in
    let at = c.self.inside.given_at.items in
    let now : _ = (g.D.Devices.state c.args.devices.now).moment in
    subst (λ (s : SinkState). AreGivenAt now s.held c.make_room.new.self.held s.given_at c.make_room.new.self.given_at) c.self.view_is (subst (λ (s : SinkState). AreGivenAt now held s.held at s.given_at) (sym c.make_room.ensures.others) (none_given now held at))

pub returns-in_default-make_room-clause-call : goal.returns-in_default-make_room-clause-call
returns-in_default-make_room-clause-call g c =
    subst (λ (s : SinkState). CountsCall {T = ℕ} {E = Failed} (Err _) s.calls c.make_room.new.self.calls) c.self.view_is (counted_then _ c.self.inside.calls c.begin.new.self c.make_room.new.self.calls c.in-Ok.ensures.call (ap (λ (s : SinkState). s.calls) c.make_room.ensures.others) (failed_alike c.in_default-make_room.ensures.cause))

pub returns-in_default-make_room-clause-cause : goal.returns-in_default-make_room-clause-cause
returns-in_default-make_room-clause-cause g c = (returns-in_default-make_room-clause-call g c).failed

pub invariant_of-self : goal.invariant_of-self
invariant_of-self g c = (omega (arith, c.in_default.ensures.call.most, c.self.invariant.0), c.self.invariant.1)

pub invariant_of-self-2 : goal.invariant_of-self-2
invariant_of-self-2 g c = (omega (arith, c.in-Ok.ensures.call.most, c.self.invariant.0), c.self.invariant.1)

pub returns-in_default-clause-unplanned : goal.returns-in_default-clause-unplanned
returns-in_default-clause-unplanned g c = λ unplanned. absurd (unplanned (subst (λ (s : SinkState). IsToFail s.calls) c.self.view_is (c.in_default.ensures.planned.0 refl)))

pub returns-clause-call : goal.returns-clause-call
returns-clause-call g c =
    subst (λ (s : SinkState). CountsCall {T = ℕ} {E = Failed} (Ok c.min-n.result) s.calls c.self-2.inside.calls) c.self.view_is (subst (λ (s : SinkState). CountsCall {T = ℕ} {E = Failed} (Ok c.min-n.result) c.self.inside.calls s.calls) (sym c.self-2.view_is) (counted_then (Ok c.min-n.result) c.self.inside.calls c.begin.new.self c.make_room.new.self.calls c.in-Ok.ensures.call (ap (λ (s : SinkState). s.calls) c.make_room.ensures.others) (done_alike c.in-Ok-make_room.ensures.cause)))

pub returns-clause-cause : goal.returns-clause-cause
returns-clause-cause g c = (returns-clause-call g c).failed
