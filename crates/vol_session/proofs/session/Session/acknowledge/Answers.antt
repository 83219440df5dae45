use Rattle.std.proofs.Common.{◌≡◌, [], ◌∷◌, ◌++◌, ◌∙◌, None, true, ap, sym, subst}
use Rattle.core_volume.specs.Volumes.{are_durable}
use Rattle.dev_model.specs.Devices.{now}
use Rattle.forest_ops.specs.declared.operation.Reply.TheVariants.{Synced}
use Rattle.vol_core.specs.Left.{KeepsLeft}
use Rattle.vol_core.specs.Safety.{MayBegin}
use Rattle.vol_session.proofs.SessionInvariant.{acknowledged_all}
use Rattle.vol_session.specs.Sessions.{IsSession, IsSyncedNow}
use Rattle.vol_session.proofs.session.Session.acknowledge.Goals as goal

pub invariant_of-self : goal.invariant_of-self
invariant_of-self g c =
    let state = g.D.Devices.state c.self.inside.core.devices in
    let moment_is : c.moment-moment.result ≡ state.moment = c.moment-moment.ensures.moment ∙ ap (λ devices. (g.D.Devices.state devices).moment) c.devices.ensures.devices in
    let left = subst (λ devices. g.D.Devices.tells → MayBegin g.O.Opening.found (now g.O.Opening.start) → KeepsLeft g.O.Opening.found g.O.Opening.start (g.D.Devices.state devices) (g.D.Devices.state devices) c.self.inside.core.memory.volume) c.devices.ensures.devices c.devices.ensures.left in
    let longer = c.self.inside.trace.members ++ record { client = c.args.client; op = c.args.op; reply = Synced c.self.inside.commits } ∷ [] in
    subst (λ trace. IsSession g.D.Devices.tells g.O.Opening.found g.O.Opening.start state c.self.inside.core.memory trace c.push.new.self.members c.self.inside.commits) (sym c.push-2.ensures.members)
    (subst (λ acks. IsSession g.D.Devices.tells g.O.Opening.found g.O.Opening.start state c.self.inside.core.memory longer acks c.self.inside.commits) (sym c.push.ensures.members)
    (subst (λ moment. IsSession g.D.Devices.tells g.O.Opening.found g.O.Opening.start state c.self.inside.core.memory longer (c.self.inside.acks.members ++ record { moment = moment; commits = c.self.inside.commits } ∷ []) c.self.inside.commits) (sym moment_is)
    (acknowledged_all (record { trees = c.found_btrees_are_a_key_map.ensures.trees; keys = c.found_btrees_are_a_key_map.ensures.keys }) g.D.Devices.tells g.O.Opening.found g.O.Opening.start state c.self.inside.core.memory c.self.inside.trace.members
    c.self.inside.acks.members c.self.inside.commits c.self.invariant c.args.client c.args.op c.requires.planned c.requires.class (subst (λ self. IsSyncedNow self.core.memory c.args.client c.args.op) (sym c.self.view_is) c.requires.synced) (subst (λ self. are_durable None self.core.memory.volume ≡ true) (sym c.self.view_is) c.requires.durable) left)))
