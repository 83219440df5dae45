use Rattle.std.proofs.Common.{◌≡◌, [], ◌∷◌, ◌++◌, ◌+◌, ◌∙◌, min, true, refl, ap, sym, subst}
use Rattle.core_state.specs.Events.{IsMade, intended_by}
use Rattle.core_volume.specs.Volumes.{IsVolume, KeepParts}
use Rattle.vol_session.proofs.NextEntries.{commit_is_unsynced}
use Rattle.vol_session.proofs.SessionInvariant.{committed, stays, uncommitted}
use Rattle.vol_session.specs.Marks.{forest_found}
use Rattle.vol_session.specs.Sessions.{IsPlanNow, IsSession, IsUncommitted}
use Rattle.vol_session.specs.Shortages.{after_commit, may_be_helped}
use Rattle.vol_session.proofs.session.Session.commit.Goals as goal

pub invariant_of-self : goal.invariant_of-self
invariant_of-self g c =
    subst (λ trace. IsSession g.D.Devices.tells g.O.Opening.found g.O.Opening.start (g.D.Devices.state c.step-given.new.self.devices) c.step-given.new.self.memory trace c.self.inside.acks.members (c.self.inside.commits + 1)) (sym c.push.ensures.members)
    (subst (λ state. IsSession g.D.Devices.tells g.O.Opening.found g.O.Opening.start state c.step-given.new.self.memory (c.self.inside.trace.members ++ record { client = c.args.client; op = c.args.op; reply = c.args.reply } ∷ []) c.self.inside.acks.members (c.self.inside.commits + 1))
    (sym (ap g.D.Devices.state c.in-Done.ensures.gives.1))
    (committed g.D.Devices.tells g.O.Opening.found g.O.Opening.start (g.D.Devices.state c.self.inside.core.devices) c.self.inside.core.memory c.self.inside.trace.members c.self.inside.acks.members c.self.inside.commits c.self.invariant c.args.client c.args.op c.args.reply
    c.requires.planned (commit_is_unsynced c.args.op c.args.reply (forest_found g.O.Opening.found g.O.Opening.start) (c.requires.commits (forest_found g.O.Opening.found g.O.Opening.start))) c.waiting_changes_lead_from_durable_keys.ensures.joined c.step-given.new.self.memory (subst (λ memory. IsVolume memory.volume) c.memory.ensures.memory c.see_kept.ensures.kept.volume) (subst (λ memory. KeepParts memory.volume) c.memory.ensures.memory c.see_kept.ensures.parts) c.in-Done.ensures.gives.0 c.requires.commits
    (subst (λ self. IsPlanNow self.core.memory c.args.client (record { op = c.args.op; updates = intended_by self.core.memory c.args.client; reply = c.args.reply; commits = true })) (sym c.self.view_is) c.requires.plan)))

pub invariant_of-self-in_default : goal.invariant_of-self-in_default
invariant_of-self-in_default g c =
    subst (λ state. IsSession g.D.Devices.tells g.O.Opening.found g.O.Opening.start state c.step-given.new.self.memory c.self.inside.trace.members c.self.inside.acks.members c.self.inside.commits)
    (sym (ap g.D.Devices.state c.step-given.ensures.gives.1))
    (stays g.D.Devices.tells g.O.Opening.found g.O.Opening.start (g.D.Devices.state c.self.inside.core.devices) c.self.inside.core.memory c.step-given.new.self.memory c.self.inside.trace.members c.self.inside.acks.members c.self.inside.commits
    (uncommitted c.self.inside.core.memory c.step-given.new.self.memory c.args.client c.step-given.result c.in_default.not-Done c.step-given.ensures.gives.0).1 c.self.invariant)

pub returns-in_default : goal.returns-in_default
returns-in_default g c =
    let not_made = (uncommitted c.self.inside.core.memory c.step-given.new.self.memory c.args.client c.step-given.result c.in_default.not-Done c.step-given.ensures.gives.0).0 in
    record {
      made = tt;
      entry = tt;
      err = (subst (λ self. IsUncommitted self.core.memory c.args.client c.step-given.result c.step-given.new.self.memory) c.self.view_is not_made, refl, refl, λ i. record (c.self.view_is i) { core = c.step-given.new.self; shortages = c.count_commit-in_default.new.self });
      commit_counted = c.count_commit-in_default.ensures ∙ ap (λ lacked. after_commit lacked c.self.inside.shortages) c.may_be_helped.ensures ∙ (λ i. after_commit (may_be_helped c.step-given.result) (c.self.view_is i).shortages);
      devices = c.step-given.ensures.gives.1 ∙ (λ i. (c.self.view_is i).core.devices);
    }

pub returns-in-Done-clause-made : goal.returns-in-Done-clause-made
returns-in-Done-clause-made g c = subst (λ self. IsMade self.core.memory c.args.client true c.step-given.new.self.memory) c.self.view_is c.in-Done.ensures.gives.0

pub returns-in-Done-clause-entry : goal.returns-in-Done-clause-entry
returns-in-Done-clause-entry g c =
    let trace : c.push.new.self.members ≡ c.args.self.now.trace ++ record { client = c.args.client; op = c.args.op; reply = c.args.reply } ∷ [] =
    c.push.ensures.members ∙ (λ i. (c.self.view_is i).trace ++ record { client = c.args.client; op = c.args.op; reply = c.args.reply } ∷ []) in
    λ i. record {
      core = c.step-given.new.self;
      trace = trace i;
      acks = (c.self.view_is i).acks;
      commits = (c.self.view_is i).commits + 1;
      spare = min c.push.new.self.spare c.self.inside.acks.spare;
      shortages = c.count_commit.new.self;
    }

pub returns-in-Done-clause-devices : goal.returns-in-Done-clause-devices
returns-in-Done-clause-devices g c = c.in-Done.ensures.gives.1 ∙ (λ i. (c.self.view_is i).core.devices)
