-- Where a leaf is frozen, or the work on nodes has ended, what is kept of actors stays.
use Rattle.std.proofs.Common.{refl, ◌≡◌, ◌∙◌, None, Some, ap, subst, sym}
use Rattle.std.proofs.lemmas.Bool.{true≢false}
use Rattle.core_actors.specs.declared.answer.Answer.{Answer}
use Rattle.core_actors.specs.declared.answer.Answer.TheVariants.{Done}
use Rattle.btree_map.specs.Trees.{keys_in}
use Rattle.core_volume.specs.Checkpoints.{IsUnfrozen}
use Rattle.core_state.specs.Events.{FreezeGives}
use Rattle.core_state.specs.States.{State}
use Rattle.core_volume.specs.Volumes.{Volume, node_stage_of}
use Rattle.core_state.proofs.Answered.{unchanged}
use Rattle.core_state.proofs.NodeEvents.{freeze-noted, freeze-told, nodes-kept, refused-kept}
use Rattle.core_state.proofs.memory.Memory.freeze.Goals as goal

pub invariant_of-self : goal.invariant_of-self
invariant_of-self c =
    nodes-kept (record { volume = c.self.inside.volume; actors = c.self.inside.actors.items; turn = c.self.inside.turn }) c.self.invariant c.freeze.new.self c.in-Ok.ensures.sound
    (ap (λ (v : Volume). keys_in v.trees) c.in-Ok.ensures.frozen.rest) (ap (λ (v : Volume). v.layout) c.in-Ok.ensures.frozen.rest)

pub invariant_of-self-in-Err-Refused : goal.invariant_of-self-in-Err-Refused
invariant_of-self-in-Err-Refused c =
    refused-kept c.args.node (record { volume = c.self.inside.volume; actors = c.self.inside.actors.items; turn = c.self.inside.turn }) c.self.invariant c.freeze.new.self c.in-Err-Refused.ensures.sound
    c.in-Err-Refused.field-0 c.in-Err-Refused.refusal c.in-Err-Refused.field-0-is c.in-Err-Refused.ensures.why

pub returns-in-Err-Refused : goal.returns-in-Err-Refused
returns-in-Err-Refused c =
    freeze-noted c.args.node c.args.self.now (record { volume = c.self.inside.volume; actors = c.self.inside.actors.items; turn = c.self.inside.turn }) c.freeze.new.self c.args.actor c.in-Err-Refused.refusal c.refused-in-Err-Refused.result c.refused-in-Err-Refused.new.self c.self.view_is
    (subst (IsUnfrozen c.args.node c.self.inside.volume c.freeze.new.self) c.in-Err-Refused.field-0-is c.in-Err-Refused.ensures.why)
    c.refused-in-Err-Refused.ensures.answer c.refused-in-Err-Refused.ensures.noted

pub returns-in-Some : goal.returns-in-Some
returns-in-Some c =
    let halted : c.args.self.now.volume.halted ≡ Some c.in-Some.halt = ap (λ (s : State). s.volume.halted) (sym c.self.view_is) ∙ sym c.halted.ensures ∙ c.in-Some.is in
    subst (λ (a : Answer). FreezeGives c.args.node c.args.self.now c.args.actor a c.refused.new.self) (sym c.refused.ensures.answer) (halted, c.refused.ensures.noted)

pub returns-then-not-is_stage : goal.returns-then-not-is_stage
returns-then-not-is_stage c =
    let writes : c.args.self.now.volume.halted ≡ None = ap (λ (s : State). s.volume.halted) (sym c.self.view_is) ∙ sym c.halted.ensures ∙ c.in_default.is in
    let is : c.node_stage.result ≡ node_stage_of c.args.self.now.volume = c.node_stage.ensures ∙ ap (λ (s : State). node_stage_of s.volume) c.self.view_is in
    freeze-told c.args.node c.args.self.now c.tell_nodes.new.self c.args.actor c.tell_nodes.result (record { writes = writes; other = λ same. true≢false (sym (c.is_stage.ensures.1 (is ∙ same)) ∙ c.if-not-is_stage.true) }) c.tell_nodes.ensures.told

pub returns-in-Err-NoMemory : goal.returns-in-Err-NoMemory
returns-in-Err-NoMemory c = unchanged (record { volume = c.self.inside.volume; actors = c.self.inside.actors.items; turn = c.self.inside.turn }) c.freeze.new.self (subst (IsUnfrozen c.args.node c.self.inside.volume c.freeze.new.self) c.in-Err-NoMemory.field-0-is c.in-Err-NoMemory.ensures.why) c.args.self.now c.self.view_is

pub returns-in-Ok : goal.returns-in-Ok
returns-in-Ok c =
    subst (λ (s : State). FreezeGives c.args.node s c.args.actor Done (record { volume = c.freeze.new.self; actors = c.self.inside.actors.items; turn = c.self.inside.turn })) c.self.view_is
    (c.in-Ok.ensures.frozen, refl)
