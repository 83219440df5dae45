use Rattle.std.proofs.Common.{◌≡◌, List, subst, sym}
use Rattle.forest_ops.specs.History.{EachEntry, History, IsLegal}
use Rattle.dev_model.specs.Frames.{GoOn}
use Rattle.forest_ops.specs.Acknowledged.{AreAcks}
use Rattle.forest_ops.specs.Failures.{HaveCauses, NoCommitAfterHalt}
use Rattle.replay.specs.Mending.{KeepsPast}
use Rattle.volume.specs.States.{AreUnspent}
use Rattle.vol_session.specs.Marks.{forest_found}
use Rattle.forest_ops.specs.declared.acks.Ack.{Ack}
use Rattle.vol_session.specs.Sessions.{IsExact}
use Rattle.vol_session.specs.Survivors.{Survive}
use Rattle.volume.proofs.state.VolState.finish.Goals as goal

pub returns-clause-no_commit : goal.returns-clause-no_commit
returns-clause-no_commit g c =
    let same : c.into_parts-devices.result.1 ≡ c.self.inside.session.trace = c.into_parts-devices.ensures.trace in
    subst (λ (trace : History). NoCommitAfterHalt (forest_found g.O.Opening.found g.O.Opening.start) trace) (sym same) c.self.invariant.failures.no_commit

pub returns-clause-legal : goal.returns-clause-legal
returns-clause-legal g c = λ tells begins.
    let same : c.into_parts-devices.result.1 ≡ c.self.inside.session.trace = c.into_parts-devices.ensures.trace in
    subst (λ (trace : History). IsLegal (forest_found g.O.Opening.found g.O.Opening.start) trace) (sym same) (c.see_history.ensures.legal tells begins)

pub returns-clause-exact : goal.returns-clause-exact
returns-clause-exact g c = λ tells begins.
    let same : c.into_parts-devices.result.1 ≡ c.self.inside.session.trace = c.into_parts-devices.ensures.trace in
    subst (λ (trace : History). EachEntry (IsExact (forest_found g.O.Opening.found g.O.Opening.start)) trace) (sym same) (c.see_history.ensures.exact tells begins)

pub returns-clause-survives : goal.returns-clause-survives
returns-clause-survives g c = λ tells begins.
    let found = g.O.Opening.found in
    let start = g.O.Opening.start in
    let parts = c.into_parts-devices.result in
    let same = c.into_parts-devices.ensures in
    subst (λ (devices : g.row.D.Denot). Survive found start (g.D.Devices.state devices) parts.1 parts.2) (sym same.devices)
    (subst (λ (trace : History). Survive found start (g.D.Devices.state c.self.inside.session.core.devices) trace parts.2) (sym same.trace)
    (subst (λ (acks : List Ack). Survive found start (g.D.Devices.state c.self.inside.session.core.devices) c.self.inside.session.trace acks) (sym same.acks) (c.see_history.ensures.survive tells begins)))

pub returns-clause-causes : goal.returns-clause-causes
returns-clause-causes g c =
    let before = g.O.Opening.start.faults in
    let parts = c.into_parts-devices.result in
    let same = c.into_parts-devices.ensures in
    subst (λ (devices : g.row.D.Denot). HaveCauses before (g.D.Devices.state devices).faults parts.1) (sym same.devices)
    (subst (λ (trace : History). HaveCauses before (g.D.Devices.state c.self.inside.session.core.devices).faults trace) (sym same.trace) c.self.invariant.failures.causes)

pub returns-clause-unspent : goal.returns-clause-unspent
returns-clause-unspent g c =
    let tells = g.D.Devices.tells in
    let found = g.O.Opening.found in
    let start = g.O.Opening.start in
    let parts = c.into_parts-devices.result in
    let same = c.into_parts-devices.ensures in
    subst (λ (devices : g.row.D.Denot). AreUnspent tells found start (g.D.Devices.state devices) parts.1) (sym same.devices)
    (subst (λ (trace : History). AreUnspent tells found start (g.D.Devices.state c.self.inside.session.core.devices) trace) (sym same.trace) c.self.invariant.unspent)

pub returns-clause-acknowledged : goal.returns-clause-acknowledged
returns-clause-acknowledged g c =
    let from = g.O.Opening.start.moment in
    let parts = c.into_parts-devices.result in
    let same = c.into_parts-devices.ensures in
    subst (λ (devices : g.row.D.Denot). AreAcks from (g.D.Devices.state devices).moment parts.1 parts.2) (sym same.devices)
    (subst (λ (trace : History). AreAcks from (g.D.Devices.state c.self.inside.session.core.devices).moment trace parts.2) (sym same.trace)
    (subst (λ (acks : List Ack). AreAcks from (g.D.Devices.state c.self.inside.session.core.devices).moment c.self.inside.session.trace acks) (sym same.acks) c.see_history.ensures.counted.acks_are))

pub returns-clause-goes_on : goal.returns-clause-goes_on
returns-clause-goes_on g c =
    subst (λ (devices : g.row.D.Denot). GoOn g.O.Opening.start (g.D.Devices.state devices)) (sym c.into_parts-devices.ensures.devices) c.see_history.ensures.counted.goes_on

pub returns-clause-past : goal.returns-clause-past
returns-clause-past g c = λ tells.
    subst (λ (devices : g.row.D.Denot). KeepsPast g.O.Opening.start (g.D.Devices.state devices)) (sym c.into_parts-devices.ensures.devices) (c.see_history.ensures.past tells)
