use Rattle.std.proofs.Common.{◌<◌, ◌∙◌, length, subst}
use Rattle.std.specs.Prelude.{IfSome}
use Rattle.core_volume.specs.Volumes.{IsVolume, KeepParts}
use Rattle.dev_model.specs.Frames.{GoOn, after_writes}
use Rattle.journal_writer.specs.Queues.{IsQueue}
use Rattle.replay.specs.Mending.{KeepsPast}
use Rattle.vol_core.specs.Cores.{StepGives}
use Rattle.vol_core.specs.Left.{failed_by}
use Rattle.vol_session.proofs.SessionInvariant.{stepped}
use Rattle.vol_session.proofs.UncommittingEvents.{step_moves}
use Rattle.vol_session.proofs.NumbersStepped.{numbers-stepped}
use Rattle.vol_session.proofs.WriterKept.{writer-stepped}
use Rattle.vol_session.proofs.session.Session.step.Goals as goal

pub invariant_of-self : goal.invariant_of-self
invariant_of-self g c =
    stepped (record { trees = c.found_btrees_are_a_key_map.ensures.trees; keys = c.found_btrees_are_a_key_map.ensures.keys }) g.D.Devices.tells g.O.Opening.found g.O.Opening.start (g.D.Devices.state c.self.inside.core.devices) (g.D.Devices.state c.step.new.self.devices)
    c.self.inside.core.memory c.step.new.self.memory c.self.inside.trace.members c.self.inside.acks.members c.self.inside.commits
    (step_moves g.D.Devices.tells g.D.Devices.state c.self.inside.core c.step.new.self c.args.client c.args.event c.step.result c.requires.no_commit c.step.ensures.gives)
    (writer-stepped g.D.Devices.tells g.D.Devices.state c.self.inside.core c.step.new.self (subst (λ memory. IsVolume memory.volume) c.memory.ensures.memory c.see_kept.ensures.kept.volume) c.self.invariant.counted.writer c.args.client c.args.event c.step.result c.step.ensures.gives)
    (numbers-stepped c.leaves_are_put_in_place.ensures.exchanges g.D.Devices.tells g.D.Devices.state g.O.Opening.found c.self.inside.commits g.O.Opening.start c.self.inside.core c.step.new.self
    (subst (λ memory. IsVolume memory.volume) c.memory.ensures.memory c.see_kept.ensures.kept.volume) (subst (λ memory. KeepParts memory.volume) c.memory.ensures.memory c.see_kept.ensures.parts)
    c.self.invariant.counted.goes_on c.step.ensures.goes_on c.self.invariant.counted.numbers c.args.client c.args.event c.step.result c.requires.no_commit c.step.ensures.gives)
    (subst (λ memory. IsQueue memory.volume.queue) c.memory.ensures.memory c.see_kept.ensures.parts.queue)
    c.step.ensures.goes_on c.step.ensures.past c.step.ensures.left c.self.invariant

pub returns-clause-gives : goal.returns-clause-gives
returns-clause-gives g c = subst (λ self. StepGives g.D.Devices.tells g.D.Devices.state self.core c.args.client c.args.event c.step.result c.step.new.self) c.self.view_is c.step.ensures.gives

pub returns-clause-rest : goal.returns-clause-rest
returns-clause-rest g c = λ i. record (c.self.view_is i) { core = c.step.new.self }

pub returns-clause-goes_on : goal.returns-clause-goes_on
returns-clause-goes_on g c = subst (λ self. GoOn (g.D.Devices.state self.core.devices) (g.D.Devices.state c.step.new.self.devices)) c.self.view_is c.step.ensures.goes_on

pub returns-clause-past : goal.returns-clause-past
returns-clause-past g c = λ told. subst (λ self. KeepsPast (g.D.Devices.state self.core.devices) (g.D.Devices.state c.step.new.self.devices)) c.self.view_is (c.step.ensures.past told)

pub returns-clause-cause : goal.returns-clause-cause
returns-clause-cause g c = c.step.ensures.cause ∙ (λ i. after_writes (failed_by c.step.result) (g.D.Devices.state (c.self.view_is i).core.devices).faults)

pub returns-clause-device : goal.returns-clause-device
returns-clause-device g c = subst (λ self. IfSome (failed_by c.step.result) (λ dev. dev < length (g.D.Devices.state self.core.devices).sizes)) c.self.view_is c.step.ensures.device
