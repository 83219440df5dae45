-- Where the next block of a frozen node is written, or a device fails, what is kept of actors stays.
use Rattle.std.proofs.Common.{◌≡◌, ◌∙◌, None, Some, ap, subst, sym}
use Rattle.std.proofs.lemmas.Bool.{true≢false}
use Rattle.std.specs.Prelude.{IfSome}
use Rattle.btree_map.specs.Trees.{keys_in}
use Rattle.journal_writer.specs.declared.stage.Stage.TheVariants.{WriteSet}
use Rattle.node_store.specs.Faults.{node_fault_device}
use Rattle.node_store.specs.declared.fault.NodeFault.{NodeFault}
use Rattle.node_writeback.specs.NodeWrites.{WritesNodePart}
use Rattle.core_state.specs.Devices.{WritesNode}
use Rattle.core_state.specs.Events.{WriteSetGives}
use Rattle.core_state.specs.States.{State}
use Rattle.core_volume.specs.Volumes.{Volume, node_stage_of}
use Rattle.core_actors.specs.declared.answer.Answer.{Answer}
use Rattle.core_actors.specs.declared.answer.Answer.TheVariants as answers
use Rattle.core_state.proofs.NodeEvents.{block-told, fault-told, no_bad_node, no_want_of_memory, nodes-kept, none-called-at, none-called-refused, some-left, write_set-told}
use Rattle.core_state.proofs.memory.Memory.write_set.Goals as goal

pub returns-then-not-is_stage-clause-gives : goal.returns-then-not-is_stage-clause-gives
returns-then-not-is_stage-clause-gives g c =
    let writes : c.args.self.now.volume.halted ≡ None = ap (λ (s : State). s.volume.halted) (sym c.self.view_is) ∙ sym c.halted.ensures ∙ c.in_default.is in
    let is : c.node_stage.result ≡ node_stage_of c.args.self.now.volume = c.node_stage.ensures ∙ ap (λ (s : State). node_stage_of s.volume) c.self.view_is in
    write_set-told c.args.node (g.D.Devices.state c.args.devices.now).moment c.args.self.now c.tell_nodes.new.self c.args.actor c.tell_nodes.result (record { writes = writes; other = λ same. true≢false (sym (c.is_stage.ensures.1 (is ∙ same)) ∙ c.if-not-is_stage.true) }) c.tell_nodes.ensures.told

pub returns-then-not-is_stage-clause-devices : goal.returns-then-not-is_stage-clause-devices
returns-then-not-is_stage-clause-devices g c =
    let state = g.D.Devices.state c.args.devices.now in
    subst (λ (a : Answer). WritesNode g.D.Devices.tells c.args.self.now.volume.work.unfinished a state state) (sym c.tell_nodes.ensures.told.0) (none-called-at g.D.Devices.tells c.args.self.now.volume.work.unfinished state _ _)

pub returns-in-Some-clause-devices : goal.returns-in-Some-clause-devices
returns-in-Some-clause-devices g c =
    let state = g.D.Devices.state c.args.devices.now in
    subst (λ (a : Answer). WritesNode g.D.Devices.tells c.args.self.now.volume.work.unfinished a state state) (sym c.refused.ensures.answer) (none-called-refused g.D.Devices.tells c.args.self.now.volume.work.unfinished state _)

pub write_node-requires-clause-some : goal.write_node-requires-clause-some
write_node-requires-clause-some g c =
    let stage : c.node_stage.result ≡ WriteSet c.args.node = c.is_stage.ensures.0 c.if-not-is_stage.false in
    some-left c.self.inside.volume c.args.node (sym c.node_stage.ensures ∙ stage)

pub invariant_of-self : goal.invariant_of-self
invariant_of-self g c =
    nodes-kept (record { volume = c.self.inside.volume; actors = c.self.inside.actors.items; turn = c.self.inside.turn }) c.self.invariant c.write_node.new.self c.in-Ok.ensures.sound
    (ap (λ (v : Volume). keys_in v.trees) c.in-Ok.ensures.ok) (ap (λ (v : Volume). v.layout) c.in-Ok.ensures.ok)

pub invariant_of-self-in-Err-DeviceFault : goal.invariant_of-self-in-Err-DeviceFault
invariant_of-self-in-Err-DeviceFault g c =
    nodes-kept (record { volume = c.self.inside.volume; actors = c.self.inside.actors.items; turn = c.self.inside.turn }) c.self.invariant c.write_node.new.self c.in-Err-DeviceFault.ensures.sound
    (ap (λ (v : Volume). keys_in v.trees) c.in-Err-DeviceFault.ensures.err) (ap (λ (v : Volume). v.layout) c.in-Err-DeviceFault.ensures.err)

pub returns-in-Ok-clause-devices : goal.returns-in-Ok-clause-devices
returns-in-Ok-clause-devices g c =
    let stage : c.node_stage.result ≡ WriteSet c.args.node = c.is_stage.ensures.0 c.if-not-is_stage.false in
    let some = some-left c.self.inside.volume c.args.node (sym c.node_stage.ensures ∙ stage) in
    subst (λ (s : State). WritesNode g.D.Devices.tells s.volume.work.unfinished answers.Done (g.D.Devices.state c.args.devices.now) (g.D.Devices.state c.write_node.new.devices)) c.self.view_is
    (block-told g.D.Devices.tells c.self.inside.volume.work.unfinished (g.D.Devices.state c.args.devices.now) (g.D.Devices.state c.write_node.new.devices) some c.in-Ok.ensures.writes)

pub returns-in-Err-DeviceFault-clause-devices : goal.returns-in-Err-DeviceFault-clause-devices
returns-in-Err-DeviceFault-clause-devices g c =
    let stage : c.node_stage.result ≡ WriteSet c.args.node = c.is_stage.ensures.0 c.if-not-is_stage.false in
    let some = some-left c.self.inside.volume c.args.node (sym c.node_stage.ensures ∙ stage) in
    let old = g.D.Devices.state c.args.devices.now in
    let new = g.D.Devices.state c.write_node.new.devices in
    let writes = subst (λ (f : NodeFault). IfSome c.self.inside.volume.work.unfinished (λ node. WritesNodePart g.D.Devices.tells node.node.blocked node.written (node_fault_device f) old new)) c.in-Err-DeviceFault.field-0-is c.in-Err-DeviceFault.ensures.writes in
    subst (λ (s : State). WritesNode g.D.Devices.tells s.volume.work.unfinished c.fail.result old new) c.self.view_is
    (fault-told g.D.Devices.tells c.self.inside.volume.work.unfinished old new c.in-Err-DeviceFault.dev c.fail.result some c.fail.ensures.answer writes)

pub unreachable-requires : goal.unreachable-requires
unreachable-requires g c =
    let stage : c.node_stage.result ≡ WriteSet c.args.node = c.is_stage.ensures.0 c.if-not-is_stage.false in
    let some = some-left c.self.inside.volume c.args.node (sym c.node_stage.ensures ∙ stage) in
    no_bad_node c.self.inside.volume.work.unfinished c.in-Err-BadNode.field-0 c.in-Err-BadNode.field-0-0 some c.in-Err-BadNode.ensures.named c.in-Err-BadNode.field-0-is

pub unreachable-requires-in-Err-NoMemory : goal.unreachable-requires-in-Err-NoMemory
unreachable-requires-in-Err-NoMemory g c =
    let stage : c.node_stage.result ≡ WriteSet c.args.node = c.is_stage.ensures.0 c.if-not-is_stage.false in
    let some = some-left c.self.inside.volume c.args.node (sym c.node_stage.ensures ∙ stage) in
    no_want_of_memory c.self.inside.volume.work.unfinished c.in-Err-NoMemory.field-0 some c.in-Err-NoMemory.ensures.named c.in-Err-NoMemory.field-0-is

pub returns-in-Ok-clause-gives : goal.returns-in-Ok-clause-gives
returns-in-Ok-clause-gives g c =
    let inside = c.self.inside in
    let stage : c.node_stage.result ≡ WriteSet c.args.node = c.is_stage.ensures.0 c.if-not-is_stage.false in
    let writes : inside.volume.halted ≡ None = sym c.halted.ensures ∙ c.in_default.is in
    subst (λ (s : State). WriteSetGives c.args.node (g.D.Devices.state c.write_node.new.devices).moment s c.args.actor answers.Done (record { volume = c.write_node.new.self; actors = inside.actors.items; turn = inside.turn })) c.self.view_is
    (record { writes = writes; stage_is = sym c.node_stage.ensures ∙ stage }, ap (λ (v : Volume). record { volume = v; actors = inside.actors.items; turn = inside.turn }) c.in-Ok.ensures.ok)

pub returns-in-Some-clause-gives : goal.returns-in-Some-clause-gives
returns-in-Some-clause-gives g c =
    let halted : c.args.self.now.volume.halted ≡ Some c.in-Some.halt = ap (λ (s : State). s.volume.halted) (sym c.self.view_is) ∙ sym c.halted.ensures ∙ c.in-Some.is in
    subst (λ (a : Answer). WriteSetGives c.args.node (g.D.Devices.state c.args.devices.now).moment c.args.self.now c.args.actor a c.refused.new.self) (sym c.refused.ensures.answer) (halted, c.refused.ensures.noted)
