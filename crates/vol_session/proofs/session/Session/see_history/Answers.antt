use Rattle.std.proofs.Common.{subst}
use Rattle.forest_ops.specs.History.{EachEntry, IsLegal}
use Rattle.vol_session.specs.Marks.{forest_found}
use Rattle.vol_session.specs.Sessions.{IsExact}
use Rattle.vol_session.proofs.session.Session.see_history.Goals as goal

pub returns-clause-legal : goal.returns-clause-legal
returns-clause-legal g c = λ tells begins. subst (λ self. IsLegal (forest_found g.O.Opening.found g.O.Opening.start) self.trace) c.self.view_is (c.self.invariant.safe tells begins).legal

pub returns-clause-exact : goal.returns-clause-exact
returns-clause-exact g c = λ tells begins. subst (λ self. EachEntry (IsExact (forest_found g.O.Opening.found g.O.Opening.start)) self.trace) c.self.view_is (c.self.invariant.safe tells begins).exact
