use Rattle.std.proofs.Common.{sym, subst}
use Rattle.vol_session.proofs.SessionInvariant.{told}
use Rattle.vol_session.specs.Sessions.{IsSession, IsToldNow}
use Rattle.vol_session.proofs.session.Session.tell.Goals as goal

pub invariant_of-self : goal.invariant_of-self
invariant_of-self g c =
    subst (λ trace. IsSession g.D.Devices.tells g.O.Opening.found g.O.Opening.start (g.D.Devices.state c.self.inside.core.devices) c.self.inside.core.memory trace c.self.inside.acks.members c.self.inside.commits) (sym c.push.ensures.members)
    (told g.D.Devices.tells g.O.Opening.found g.O.Opening.start (g.D.Devices.state c.self.inside.core.devices) c.self.inside.core.memory c.self.inside.trace.members c.self.inside.acks.members c.self.inside.commits c.self.invariant c.args.client c.args.op c.args.reply
    c.requires.planned c.requires.unsynced c.requires.no_commit (subst (λ self. IsToldNow self.core.memory c.args.client c.args.op c.args.reply) (sym c.self.view_is) c.requires.told))
