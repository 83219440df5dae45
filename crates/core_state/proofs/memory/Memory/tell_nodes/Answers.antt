-- What an actor is told is the stage of the nodes.
use Rattle.std.proofs.Common.{◌∙◌, ap, subst}
use Rattle.journal_writer.specs.declared.stage.Stage.{Stage}
use Rattle.core_volume.specs.Volumes.{node_stage_of}
use Rattle.core_state.specs.Events.{IsToldOf}
use Rattle.core_state.specs.States.{State}
use Rattle.core_state.proofs.memory.Memory.tell_nodes.Goals as goal

pub returns : goal.returns
returns c =
    let stage = c.node_stage-stage.ensures ∙ ap (λ (s : State). node_stage_of s.volume) c.self.view_is in
    record { told = subst (λ (stage : Stage). IsToldOf stage c.args.self.now c.args.actor c.tell_stage.result c.tell_stage.new.self) stage c.tell_stage.ensures.told }
