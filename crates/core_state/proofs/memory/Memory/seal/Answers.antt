use Rattle.std.proofs.Common.{◌≡◌, ◌∙◌, None, Some, ap, refl, subst, sym}
use Rattle.std.proofs.lemmas.Bool.{true≢false}
use Rattle.core_actors.specs.declared.answer.Answer.{Answer}
use Rattle.core_actors.specs.declared.answer.Answer.TheVariants.{Done}
use Rattle.core_state.specs.Events.{SealGives}
use Rattle.core_state.specs.States.{State}
use Rattle.core_volume.specs.Volumes.{Volume, stage_of}
use Rattle.core_state.proofs.Answered.{same-kept, seal-noted, unchanged}
use Rattle.core_state.proofs.Kept.{journal-kept, seal-told}
use Rattle.core_state.proofs.memory.Memory.seal.Goals as goal

pub invariant_of-self : goal.invariant_of-self
invariant_of-self c =
    journal-kept (record { volume = c.self.inside.volume; actors = c.self.inside.actors.items; turn = c.self.inside.turn }) c.self.invariant c.seal.new.self c.in-Ok.ensures.sound
    (ap (λ (v : Volume). v.trees) c.in-Ok.ensures.flown.rest) (ap (λ (v : Volume). v.layout) c.in-Ok.ensures.flown.rest)

pub returns-in-Ok : goal.returns-in-Ok
returns-in-Ok c =
    subst (λ (s : State). SealGives s c.args.actor Done (record { volume = c.seal.new.self; actors = c.self.inside.actors.items; turn = c.self.inside.turn })) c.self.view_is
    (c.in-Ok.ensures.flown, refl)

pub returns-in-Some : goal.returns-in-Some
returns-in-Some c =
    let halted : c.args.self.now.volume.halted ≡ Some c.in-Some.halt = ap (λ (s : State). s.volume.halted) (sym c.self.view_is) ∙ sym c.halted.ensures ∙ c.in-Some.is in
    subst (λ (a : Answer). SealGives c.args.self.now c.args.actor a c.refused.new.self) (sym c.refused.ensures.answer) (halted, c.refused.ensures.noted)

pub returns-then-not-is_stage : goal.returns-then-not-is_stage
returns-then-not-is_stage c =
    let writes : c.args.self.now.volume.halted ≡ None = ap (λ (s : State). s.volume.halted) (sym c.self.view_is) ∙ sym c.halted.ensures ∙ c.in_default.is in
    let is : c.stage.result ≡ stage_of c.args.self.now.volume = c.stage.ensures ∙ ap (λ (s : State). stage_of s.volume) c.self.view_is in
    seal-told c.args.self.now c.tell.new.self c.args.actor c.tell.result (record { writes = writes; other = λ same. true≢false (sym (c.is_stage.ensures.1 (is ∙ same)) ∙ c.if-not-is_stage.true) }) c.tell.ensures.told

pub invariant_of-self-in-Err-NoMemory : goal.invariant_of-self-in-Err-NoMemory
invariant_of-self-in-Err-NoMemory c = same-kept (record { volume = c.self.inside.volume; actors = c.self.inside.actors.items; turn = c.self.inside.turn }) c.seal.new.self c.in-Err-NoMemory.ensures.err c.self.invariant

pub invariant_of-self-in-Err-Refused : goal.invariant_of-self-in-Err-Refused
invariant_of-self-in-Err-Refused c = same-kept (record { volume = c.self.inside.volume; actors = c.self.inside.actors.items; turn = c.self.inside.turn }) c.seal.new.self c.in-Err-Refused.ensures.err c.self.invariant

pub returns-in-Err-NoMemory : goal.returns-in-Err-NoMemory
returns-in-Err-NoMemory c = unchanged (record { volume = c.self.inside.volume; actors = c.self.inside.actors.items; turn = c.self.inside.turn }) c.seal.new.self c.in-Err-NoMemory.ensures.err c.args.self.now c.self.view_is

pub returns-in-Err-Refused : goal.returns-in-Err-Refused
returns-in-Err-Refused c =
    seal-noted (record { volume = c.self.inside.volume; actors = c.self.inside.actors.items; turn = c.self.inside.turn }) c.seal.new.self c.in-Err-Refused.ensures.err c.args.self.now c.self.view_is c.args.actor c.in-Err-Refused.field-0 c.in-Err-Refused.refusal c.in-Err-Refused.field-0-is
    c.refused-in-Err-Refused.result c.refused-in-Err-Refused.ensures.answer c.refused-in-Err-Refused.new.self c.refused-in-Err-Refused.ensures.noted c.in-Err-Refused.ensures.why
