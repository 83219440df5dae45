use Rattle.std.proofs.Common.{◌≡◌, ◌∙◌, None, Some, ap, refl, subst, sym}
use Rattle.std.proofs.lemmas.Bool.{true≢false}
use Rattle.core_volume.specs.Volumes.{Volume, stage_of}
use Rattle.journal_writer.specs.Writes.{WritesPart}
use Rattle.core_state.specs.Devices.{WritesEntry}
use Rattle.core_state.proofs.Answered.{write_entry-told}
use Rattle.core_state.proofs.Kept.{journal-kept}
use Rattle.journal_writer.specs.declared.stage.Stage.TheVariants.{WriteEntry}
use Rattle.core_actors.specs.declared.answer.Answer.{Answer}
use Rattle.core_actors.specs.declared.answer.Answer.TheVariants.{Done}
use Rattle.core_state.specs.Events.{WriteGives}
use Rattle.core_state.specs.States.{State}
use Rattle.core_state.proofs.memory.Memory.write_entry.Goals as goal

pub returns-in-Ok-clause-gives : goal.returns-in-Ok-clause-gives
returns-in-Ok-clause-gives g c =
    let inside = c.self.inside in
    let stage : c.stage.result ≡ WriteEntry = c.is_stage.ensures.0 c.if-not-is_stage.false in
    let writes : inside.volume.halted ≡ None = sym c.halted.ensures ∙ c.in_default.is in
    subst (λ (s : State). WriteGives (g.D.Devices.state c.write_part.new.devices).moment s c.args.actor Done (record { volume = c.write_part.new.self; actors = inside.actors.items; turn = inside.turn })) c.self.view_is
    (record { writes = writes; stage_is = sym c.stage.ensures ∙ stage }, ap (λ (v : Volume). record { volume = v; actors = inside.actors.items; turn = inside.turn }) c.in-Ok.ensures.ok)

pub returns-in-Some-clause-gives : goal.returns-in-Some-clause-gives
returns-in-Some-clause-gives g c =
    let halted : c.args.self.now.volume.halted ≡ Some c.in-Some.halt = ap (λ (s : State). s.volume.halted) (sym c.self.view_is) ∙ sym c.halted.ensures ∙ c.in-Some.is in
    subst (λ (a : Answer). WriteGives (g.D.Devices.state c.args.devices.now).moment c.args.self.now c.args.actor a c.refused.new.self) (sym c.refused.ensures.answer) (halted, c.refused.ensures.noted)

pub returns-in-Some-clause-devices : goal.returns-in-Some-clause-devices
returns-in-Some-clause-devices g c =
    let state = g.D.Devices.state c.args.devices.now in
    subst (λ (a : Answer). WritesEntry g.D.Devices.tells c.args.self.now.volume.writer.ring a state state) (sym c.refused.ensures.answer) refl

pub returns-then-not-is_stage-clause-gives : goal.returns-then-not-is_stage-clause-gives
returns-then-not-is_stage-clause-gives g c =
    let writes : c.args.self.now.volume.halted ≡ None = ap (λ (s : State). s.volume.halted) (sym c.self.view_is) ∙ sym c.halted.ensures ∙ c.in_default.is in
    let is : c.stage.result ≡ stage_of c.args.self.now.volume = c.stage.ensures ∙ ap (λ (s : State). stage_of s.volume) c.self.view_is in
    write_entry-told (g.D.Devices.state c.args.devices.now).moment c.args.self.now c.tell.new.self c.args.actor c.tell.result (record { writes = writes; other = λ same. true≢false (sym (c.is_stage.ensures.1 (is ∙ same)) ∙ c.if-not-is_stage.true) }) c.tell.ensures.told

pub returns-then-not-is_stage-clause-devices : goal.returns-then-not-is_stage-clause-devices
returns-then-not-is_stage-clause-devices g c =
    let state = g.D.Devices.state c.args.devices.now in
    subst (λ (a : Answer). WritesEntry g.D.Devices.tells c.args.self.now.volume.writer.ring a state state) (sym c.tell.ensures.told.0) refl

pub returns-in-Ok-clause-devices : goal.returns-in-Ok-clause-devices
returns-in-Ok-clause-devices g c =
    subst (λ (s : State). WritesPart g.D.Devices.tells s.volume.writer.ring None (g.D.Devices.state c.args.devices.now) (g.D.Devices.state c.write_part.new.devices)) c.self.view_is c.in-Ok.ensures.writes

pub invariant_of-self : goal.invariant_of-self
invariant_of-self g c =
    journal-kept (record { volume = c.self.inside.volume; actors = c.self.inside.actors.items; turn = c.self.inside.turn }) c.self.invariant c.write_part.new.self c.in-Ok.ensures.sound
    (ap (λ (v : Volume). v.trees) c.in-Ok.ensures.ok) (ap (λ (v : Volume). v.layout) c.in-Ok.ensures.ok)

pub invariant_of-self-in-Err-DeviceFault : goal.invariant_of-self-in-Err-DeviceFault
invariant_of-self-in-Err-DeviceFault g c =
    journal-kept (record { volume = c.self.inside.volume; actors = c.self.inside.actors.items; turn = c.self.inside.turn }) c.self.invariant c.write_part.new.self c.in-Err-DeviceFault.ensures.sound
    (ap (λ (v : Volume). v.trees) c.in-Err-DeviceFault.ensures.err) (ap (λ (v : Volume). v.layout) c.in-Err-DeviceFault.ensures.err)
